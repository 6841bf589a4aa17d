use Rattle.std.proofs.Common.{rules, ◌≡◌, true, List, subst, sym, ap, ◌∙◌, drop}
use Rattle.std.specs.List.{list_all}
use Rattle.std.proofs.lemmas.Fn.{filter_same}
use Rattle.std.proofs.lemmas.List.{take_rest}
use Rattle.snap_table.specs.declared.active.Active.{Active}
use Rattle.snap_table.specs.Snapshots.{is_deep}
use Rattle.snap_table.proofs.StackLemmas.{kept_bottom}
use Rattle.snap_table.proofs.table.keep_below.Goals as goal

pub returns-then-are_deep : goal.returns-then-are_deep
returns-then-are_deep c =
    let deep : list_all (is_deep c.args.level) (drop c.args.from c.args.stack.now.items) ≡ true = subst (λ (xs : List Active). list_all (is_deep c.args.level) xs ≡ true) (take_rest c.deref.result.now c.args.from ∙ ap (drop c.args.from) c.deref.ensures.value) (sym c.are_deep.ensures ∙ c.if-are_deep.true) in
    c.truncate.ensures.items ∙ kept_bottom c.args.level c.args.from c.args.stack.now.items c.requires.below deep

pub returns-else-are_deep : goal.returns-else-are_deep
returns-else-are_deep c = filter_same _ _ _ (λ x b f' k. search rules) _ _ c.retain.ensures.filtered
