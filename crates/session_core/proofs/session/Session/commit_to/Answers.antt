use Rattle.session_core.proofs.Base.{◌≤◌, ◌<◌, length, refl, arith}
use Rattle.session_core.proofs.Lemmas.{committing_done, committing_left, committing_on, committing_start}
use Rattle.session_core.proofs.session.Session.commit_to.Goals as goal

pub loop-self-init : goal.loop-self-init
loop-self-init g c = committing_start _ _ _ c.requires.between (g.met.E.Emit.emits_none c.args.out.now)

pub loop-self-preserved : goal.loop-self-preserved
loop-self-preserved g c =
    let deep : c.args.level ≤ length c.loop-self.self.levels = omega (arith, c.loop-self-test.true, c.depth.ensures.depth) in
    committing_on _ _ _ _ _ _ _ c.loop-self.invariant deep c.subcommit.ensures.performed c.subcommit.ensures.levels.0 c.subcommit.ensures.levels.1 c.subcommit.ensures.between
    (λ us vs first second. g.met.E.Emit.emits_more _ _ _ _ _ _ first second refl)

pub returns-clause-performed : goal.returns-clause-performed
returns-clause-performed g c =
    let below : length c.loop-self.self.levels < c.args.level = omega (arith, c.loop-self-test.false, c.depth.ensures.depth) in
    committing_done _ _ _ _ c.loop-self.invariant below

pub returns-clause-left : goal.returns-clause-left
returns-clause-left g c within = grind (arith, committing_left, c.loop-self-test.false, c.depth.ensures.depth, c.loop-self.invariant)
