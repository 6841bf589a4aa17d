use Rattle.std.proofs.Common.{rules, ap, subst, sym}
use Rattle.reset_callbacks.specs.Hook.{AreRising, IsBelow}
use Rattle.reset_callbacks.proofs.ShelfSteps.{last_first, returned_is, differ_now, differ_returned}
use Rattle.reset_callbacks.proofs.hook_shelf.Shelf.put_back.Goals as goal

pub returns-clause-after : goal.returns-clause-after
returns-clause-after g c =
    returned_is g.H.ResetHook.hook_meaning c.self.inside.fresh.items c.push_reserved.new.self.items c.self.inside.spent.items c.self.inside.out c.args.hook c.args.self.now c.self.view_is
    c.push_reserved.ensures.items

pub returns-clause-words_differ : goal.returns-clause-words_differ
returns-clause-words_differ g c =
    differ_returned c.args.self.now _ _ (returns-clause-after g c) c.requires.other_word
    (differ_now g.H.ResetHook.hook_meaning c.self.inside.fresh.items c.self.inside.spent.items c.self.inside.out _ c.self.view_is c.self.invariant.words_differ)

pub invariant_of-self : goal.invariant_of-self
invariant_of-self g c =
    record {
      fresh_room = search rules;
      spent_room = search rules;
      rising = subst AreRising (sym (last_first c.push_reserved.new.self.items c.self.inside.fresh.items c.args.hook g.H.ResetHook.hook_meaning c.push_reserved.ensures.items))
          (subst (IsBelow (g.H.ResetHook.hook_meaning c.args.hook).word) (sym (ap (λ z. z.fresh) c.self.view_is)) c.requires.below, c.self.invariant.rising);
      words_differ = returns-clause-words_differ g c;
    }
