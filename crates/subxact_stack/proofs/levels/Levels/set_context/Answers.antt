use Rattle.std.proofs.Common.{Some, arith, ap, length}
use Rattle.subxact_stack.specs.declared.levels.Level.{Level}
use Rattle.subxact_stack.proofs.LevelLemmas.{with_deepest_set}
use Rattle.subxact_stack.proofs.levels.Levels.set_context.Goals as goal

pub returns : goal.returns
returns c = with_deepest_set (λ (level : Level). record level { context = Some c.args.context }) _ _ _ _ c.self.view_is (omega (arith, ap length c.self.view_is, c.self.inside.levels.ok)) c.index_mut.ensures.value
