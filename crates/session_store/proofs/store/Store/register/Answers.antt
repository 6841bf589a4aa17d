-- The hook waits, or is back on the shelf.
use Rattle.session_store.proofs.Words.{ℕ, [], ◌∷◌, ap, subst, first_of}
use Rattle.session_store.proofs.Lemmas.{goes_put, placed_put, agrees_in, alone_after, there_in, waits_after}
use Rattle.pgs_step.specs.declared.events.What.TheVariants.{Hook}
use Rattle.session_store.proofs.store.Store.register.Goals as goal

pub invariant_of-self : goal.invariant_of-self
invariant_of-self g c = placed_put _ _ _ _ _ c.self.invariant (there_in _ _ _ _ _ c.self.view_is c.requires.stands.0 _ c.requires.stands.1.0 c.requires.stands.1.1) c.register.ensures.stays

pub invariant_of-self-2 : goal.invariant_of-self-2
invariant_of-self-2 g c = placed_put _ _ _ _ _ c.self.invariant (there_in _ _ _ _ _ c.self.view_is c.requires.stands.0 _ c.requires.stands.1.0 c.requires.stands.1.1) c.register.ensures.stays

pub returns-clause-acted : goal.returns-clause-acted
returns-clause-acted g c s commons =
    waits_after _ _ _ _ _ c.self.view_is _ s c.args.at.number (g.H.ResetHook.hook_meaning c.in-Some.hook) c.args.shelf.now c.take.new.self commons (λ events. g.E.Emit.emits c.args.out.now events c.emit.new.self)
    (ap first_of c.in-Some.ensures.first) c.in-Some.ensures.after (c.in_default-register.ensures.contexts s) c.register.ensures.stays
    (subst (λ (word : ℕ). g.E.Emit.emits c.args.out.now (Hook word c.args.at.number ∷ []) c.emit.new.self) c.word-word.ensures c.emit.ensures.emitted)

pub returns-clause-alone : goal.returns-clause-alone
returns-clause-alone g c s commons keeps =
    alone_after _ _ _ _ _ c.self.view_is _ s s commons keeps (goes_put _ _ s s (c.register.ensures.moves s (agrees_in _ _ _ _ _ c.self.view_is s keeps)) c.register.ensures.stays)
