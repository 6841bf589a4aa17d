use Rattle.std.proofs.Common.{rules, map, reverse, ap, subst, sym, ◌∙◌, ◌≡◌, ◌∷◌}
use Rattle.reset_callbacks.specs.Hook.{AreRising}
use Rattle.reset_callbacks.proofs.ShelfSteps.{last_first, taken_is, differ_now, differ_taken, not_none}
use Rattle.reset_callbacks.proofs.hook_shelf.Shelf.take.Goals as goal

-- the hook that was behind comes first
first_is :
    (g : _) (c : goal.After-self-1 g) →
    reverse (map g.H.ResetHook.hook_meaning c.self.inside.fresh.items)
    ≡ g.H.ResetHook.hook_meaning c.in_ok-hook.hook ∷ reverse (map g.H.ResetHook.hook_meaning c.pop.new.self.items)
first_is g c = last_first c.self.inside.fresh.items c.pop.new.self.items c.in_ok-hook.hook g.H.ResetHook.hook_meaning c.in_ok-hook.ensures.items

pub returns-clause-first : goal.returns-clause-first
returns-clause-first g c = sym (ap (λ z. z.fresh) c.self.view_is) ∙ first_is g c

pub returns-clause-none : goal.returns-clause-none
returns-clause-none g c = not_none _ _ _ (returns-clause-first g c)

pub returns-clause-after : goal.returns-clause-after
returns-clause-after g c =
    taken_is g.H.ResetHook.hook_meaning c.self.inside.fresh.items c.pop.new.self.items c.self.inside.spent.items c.self.inside.out c.in_ok-hook.hook c.args.self.now c.self.view_is
    (first_is g c)

pub returns-clause-other_word : goal.returns-clause-other_word
returns-clause-other_word g c =
    (differ_taken c.args.self.now _ _ (returns-clause-after g c) (returns-clause-first g c)
    (differ_now g.H.ResetHook.hook_meaning c.self.inside.fresh.items c.self.inside.spent.items c.self.inside.out _ c.self.view_is c.self.invariant.words_differ)).0

pub returns-clause-words_differ : goal.returns-clause-words_differ
returns-clause-words_differ g c =
    (differ_taken c.args.self.now _ _ (returns-clause-after g c) (returns-clause-first g c)
    (differ_now g.H.ResetHook.hook_meaning c.self.inside.fresh.items c.self.inside.spent.items c.self.inside.out _ c.self.view_is c.self.invariant.words_differ)).1

pub returns-clause-below : goal.returns-clause-below
returns-clause-below g c = (subst AreRising (first_is g c) c.self.invariant.rising).0

pub invariant_of-self-2 : goal.invariant_of-self-2
invariant_of-self-2 g c = record {
  fresh_room = search rules;
  spent_room = search rules;
  rising = (subst AreRising (first_is g c) c.self.invariant.rising).1;
  words_differ = returns-clause-words_differ g c;
}
