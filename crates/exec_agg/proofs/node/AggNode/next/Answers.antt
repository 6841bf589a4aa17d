use Rattle.std.proofs.Common.{sym, subst, arith}
use Rattle.agg_pass.specs.PassState.{PassState}
use Rattle.agg_pass.specs.Spilled.{IsOf, KeepsFiles}
use Rattle.exec_agg.proofs.Standing.{Holds-same, none_spilled}
use Rattle.exec_agg.proofs.node.AggNode.next.Goals as goal

pub returns-in_default-clause-holds : goal.returns-in_default-clause-holds
returns-in_default-clause-holds c = Holds-same c.args.self.now c.give.new.self c.args.space.now c.args.temp.now c.give.ensures.pass c.requires.holds

pub give-requires-2-clause-last : goal.give-requires-2-clause-last
give-requires-2-clause-last c done = none_spilled c.begin_pass.new.self.pass.budget c.begin_pass.new.self.pass.rows c.begin_pass.ensures.some (omega (arith, done, c.begin_pass.ensures.place))

pub returns-clause-holds : goal.returns-clause-holds
returns-clause-holds c = Holds-same c.begin_pass.new.self c.give-2.new.self c.begin_pass.new.space c.begin_pass.new.temp c.give-2.ensures.pass c.begin_pass.ensures.holds

pub returns-clause-others : goal.returns-clause-others
returns-clause-others c = subst (λ (p : PassState). KeepsFiles (IsOf c.args.self.now.pass.file) c.args.temp.now (IsOf p.file) c.begin_pass.new.temp) (sym c.give-2.ensures.pass) c.begin_pass.ensures.others
