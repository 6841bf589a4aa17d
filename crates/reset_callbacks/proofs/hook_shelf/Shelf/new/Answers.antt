use Rattle.std.proofs.Common.{rules, ◌≡◌, map, reverse, subst, sym}
use Rattle.reset_callbacks.specs.Hook.{AreRising}
use Rattle.reset_callbacks.proofs.ShelfSteps.{differ_new, turned_back}
use Rattle.reset_callbacks.proofs.hook_shelf.Shelf.new.Goals as goal

-- the hooks stand as they were handed in
are_same : (g : _) (c : goal.After-reverse g) → reverse (map g.H.ResetHook.hook_meaning c.reverse.new.self.items) ≡ map g.H.ResetHook.hook_meaning c.args.fresh.items
are_same g c = turned_back g.H.ResetHook.hook_meaning c.args.fresh.items c.reverse.new.self.items c.reverse.ensures.items

pub returns-clause-fresh : goal.returns-clause-fresh
returns-clause-fresh g c = are_same g c

pub invariant_of-result : goal.invariant_of-result
invariant_of-result g c =
    record {
      fresh_room = search rules;
      spent_room = search rules;
      rising = subst AreRising (sym (are_same g c)) c.requires;
      words_differ = rw (c.in_ok-spent.ensures.items, are_same g c) (differ_new _ c.requires);
    }

pub returns-clause-words_differ : goal.returns-clause-words_differ
returns-clause-words_differ g c = (invariant_of-result g c).words_differ
