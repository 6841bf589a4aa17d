use Rattle.std.proofs.Common.{rules}
use Rattle.reset_callbacks.proofs.ShelfSteps.{finished_is, differ_now, differ_finished}
use Rattle.reset_callbacks.proofs.hook_shelf.Shelf.finish.Goals as goal

pub returns-clause-after : goal.returns-clause-after
returns-clause-after g c =
    finished_is g.H.ResetHook.hook_meaning c.self.inside.fresh.items c.self.inside.spent.items c.push_reserved.new.self.items c.self.inside.out c.args.hook c.args.self.now c.self.view_is
    c.push_reserved.ensures.items

pub returns-clause-words_differ : goal.returns-clause-words_differ
returns-clause-words_differ g c =
    differ_finished c.args.self.now _ _ (returns-clause-after g c) c.requires.other_word
    (differ_now g.H.ResetHook.hook_meaning c.self.inside.fresh.items c.self.inside.spent.items c.self.inside.out _ c.self.view_is c.self.invariant.words_differ)

pub invariant_of-self : goal.invariant_of-self
invariant_of-self g c =
    record { fresh_room = search rules; spent_room = search rules; rising = c.self.invariant.rising; words_differ = returns-clause-words_differ g c }
