use Rattle.std.proofs.Common.{◌∙◌, ap, sym, arith}
use Rattle.subxact_stack.specs.Levels.{deepest_named}
use Rattle.subxact_stack.proofs.LevelLemmas.{deepest_here, deepest_before}
use Rattle.subxact_stack.proofs.levels.Levels.find.Goals as goal

pub returns-then-is_named-clause-found : goal.returns-then-is_named-clause-found
returns-then-is_named-clause-found c =
    sym (deepest_here _ _ _ _ c.loop-level-test.true c.loop-level.invariant.0 c.index.ensures (sym c.is_named.ensures ∙ c.if-is_named.true))
    ∙ c.loop-level.invariant.1
    ∙ ap (deepest_named c.args.name.now) c.self.view_is

pub loop-level-preserved : goal.loop-level-preserved
loop-level-preserved c = (
  omega arith,
  sym (deepest_before _ _ _ _ c.loop-level-test.true c.loop-level.invariant.0 c.index.ensures (sym c.is_named.ensures ∙ c.if-is_named.false)) ∙ c.loop-level.invariant.1,
)
