use Rattle.std.proofs.Common.{true, arith, ap, length}
use Rattle.subxact_stack.specs.declared.levels.Level.{Level}
use Rattle.subxact_stack.proofs.LevelLemmas.{with_deepest_set}
use Rattle.subxact_stack.proofs.levels.Levels.mark_aborted.Goals as goal

pub returns : goal.returns
returns c = with_deepest_set (λ (level : Level). record level { aborted = true }) _ _ _ _ c.self.view_is (omega (arith, ap length c.self.view_is, c.self.inside.levels.ok)) c.index_mut.ensures.value
