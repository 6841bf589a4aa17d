use Rattle.std.proofs.Common.{◌≡◌, ◌∙◌, ℕ, refl, sym, ap, subst, arith}
use Rattle.reset_callbacks.specs.Hook.{AreRising}
use Rattle.pgscript_cli.specs.Program.{fresh_hooks}
use Rattle.pgscript_cli.proofs.HookLemmas.{map_self, next_hook, shelf_is, words_rise}
use Rattle.pgscript_cli.proofs.all_hooks.Goals as goal

pub loop-below-preserved : goal.loop-below-preserved
loop-below-preserved c = c.in_ok-push.ensures.items ∙ rw (c.loop-below.invariant, c.new.ensures) (sym (next_hook c.loop-below.below))

pub new-requires-2 : goal.new-requires-2
new-requires-2 c = subst AreRising (sym (map_self c.loop-below.fresh.items ∙ c.loop-below.invariant)) (words_rise 1 c.loop-below.below)

pub returns-clause-shelf : goal.returns-clause-shelf
returns-clause-shelf c =
    let full : c.loop-below.below ≡ 4096 = omega (arith, c.loop-below-test.false, c.loop-below.auto.below-end) in
    shelf_is c.new-2.result _ c.new-2.ensures.fresh c.new-2.ensures.spent c.new-2.ensures.out (map_self c.loop-below.fresh.items ∙ c.loop-below.invariant ∙ ap (fresh_hooks 1) full)
