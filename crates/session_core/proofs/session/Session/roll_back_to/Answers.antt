use Rattle.session_core.proofs.Base.{◌≤◌, ◌<◌, length, refl, arith}
use Rattle.session_core.proofs.Lemmas.{rolling_done, rolling_on, rolling_outer, rolling_rest, rolling_start}
use Rattle.session_core.proofs.session.Session.roll_back_to.Goals as goal

pub loop-self-init : goal.loop-self-init
loop-self-init g c = rolling_start _ _ _ c.requires.between (g.met.E.Emit.emits_none c.args.out.now)

pub loop-self-preserved : goal.loop-self-preserved
loop-self-preserved g c =
    let deep : c.args.level ≤ length c.loop-self.self.levels = omega (arith, c.loop-self-test.true, c.depth.ensures.depth) in
    rolling_on _ _ _ _ _ _ _ c.loop-self.invariant deep c.end_level.ensures.performed c.end_level.ensures.levels.0 c.end_level.ensures.levels.1 c.end_level.ensures.between
    c.end_level.ensures.rest (λ us vs first second. g.met.E.Emit.emits_more _ _ _ _ _ _ first second refl)

pub returns-clause-performed : goal.returns-clause-performed
returns-clause-performed g c =
    let below : length c.loop-self.self.levels < c.args.level = omega (arith, c.loop-self-test.false, c.depth.ensures.depth) in
    rolling_done _ _ _ _ c.loop-self.invariant below

pub returns-clause-outer : goal.returns-clause-outer
returns-clause-outer g c within = grind (arith, rolling_outer, c.loop-self-test.false, c.depth.ensures.depth, c.loop-self.invariant)

pub returns-clause-rest : goal.returns-clause-rest
returns-clause-rest g c within = grind (arith, rolling_rest, c.loop-self-test.false, c.depth.ensures.depth, c.loop-self.invariant)
