use Rattle.std.proofs.Common.{rules, IsOk, ◌≡◌, ◌++◌, map, reverse, subst, sym, ◌∙◌}
use Rattle.std.specs.List.Sorted.{IsPermutation}
use Rattle.reset_callbacks.specs.Hook.{AreRising, in_order}
use Rattle.reset_callbacks.proofs.ShelfSteps.{renewed_is, renewed_rises, sorted_fresh, turned_back, differ_now, differ_renewed}
use Rattle.reset_callbacks.proofs.hook_shelf.Shelf.renew.Goals as goal

-- the hooks as they were sorted
order_is :
    (g : _) (c : goal.After-reverse g) →
    map g.H.ResetHook.hook_meaning c.sort_by_word.new.hooks.items
    ≡ in_order (reverse (map g.H.ResetHook.hook_meaning c.self.inside.fresh.items) ++ map g.H.ResetHook.hook_meaning c.self.inside.spent.items)
order_is g c =
    let ok : IsOk c.append.result = search rules in
    sorted_fresh c.self.inside.fresh.items c.self.inside.spent.items c.sort_by_word.new.hooks.items g.H.ResetHook.hook_meaning c.self.invariant.words_differ
    (subst (λ xs. IsPermutation xs c.sort_by_word.new.hooks.items) (rw ok at c.append.ensures.items) c.sort_by_word.ensures.moved) c.sort_by_word.ensures.rising

pub returns-clause-after : goal.returns-clause-after
returns-clause-after g c =
    let ok : IsOk c.append.result = search rules in
    renewed_is g.H.ResetHook.hook_meaning c.self.inside.fresh.items c.reverse.new.self.items c.self.inside.spent.items c.append.new.other.items c.sort_by_word.new.hooks.items c.self.inside.out c.args.self.now
    c.self.view_is (order_is g c) c.reverse.ensures.items (rw ok at c.append.ensures.other_items)

pub returns-clause-words_differ : goal.returns-clause-words_differ
returns-clause-words_differ g c =
    differ_renewed c.args.self.now _ (returns-clause-after g c)
    (differ_now g.H.ResetHook.hook_meaning c.self.inside.fresh.items c.self.inside.spent.items c.self.inside.out _ c.self.view_is c.self.invariant.words_differ)

pub invariant_of-self : goal.invariant_of-self
invariant_of-self g c =
    record {
      fresh_room = search rules;
      spent_room = search rules;
      rising = subst AreRising (sym (turned_back g.H.ResetHook.hook_meaning c.sort_by_word.new.hooks.items c.reverse.new.self.items c.reverse.ensures.items ∙ order_is g c))
          (renewed_rises _ c.self.invariant.words_differ);
      words_differ = returns-clause-words_differ g c;
    }
