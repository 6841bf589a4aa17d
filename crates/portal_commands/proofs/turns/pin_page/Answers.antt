use Rattle.portal_commands.proofs.Base.{◌≡◌, sym, subst, [], List}
use Rattle.portal_commands.proofs.Words.{What, OfPortal, now, owner_unbegun, performed_said}
use Rattle.portal_commands.proofs.Lemmas.{fetched_owner}
use Rattle.portal_commands.proofs.turns.pin_page.Goals as goal

pub hold_pin-requires-clause-there : goal.hold_pin-requires-clause-there
hold_pin-requires-clause-there g c = fetched_owner c.args.portal.now.name c.requires.fetching.0 (now c.args.store.now c.args.shared.now) c.in-Some.owner c.requires.fetching.1 (c.in-Some.ensures.owner c.args.portal.now.name c.requires.place)

pub hold_pin-requires-clause-not_begun : goal.hold_pin-requires-clause-not_begun
hold_pin-requires-clause-not_begun g c = owner_unbegun (now c.args.store.now c.args.shared.now) c.requires.fetching.1.between c.requires.fetching.1.working c.in-Some.owner.number

pub returns-in-Some : goal.returns-in-Some
returns-in-Some g c = record { performed = c.hold_pin.ensures.performed (OfPortal c.args.portal.now.name) (c.in-Some.ensures.owner c.args.portal.now.name c.requires.place) }

pub returns-in-None : goal.returns-in-None
returns-in-None g c = record {
  performed =
      performed_said 2 _ _ _ (λ (events : List What). events ≡ []) _ _ (λ events none. subst (λ (es : List What). g.E.Emit.emits c.args.out.now es c.args.out.now) (sym none) (g.met.E.Emit.emits_none c.args.out.now))
      (c.count_pin.ensures.counted (OfPortal c.args.portal.now.name) c.args.page c.args.store.now c.requires.fetching.1.between.keeps (c.in-None.ensures.owner c.args.portal.now.name c.requires.place c.args.shared.now.space.now));
}

pub hold_pin-requires-clause-live : goal.hold_pin-requires-clause-live
hold_pin-requires-clause-live g c = c.in-Some.ensures.live c.args.portal.now.name c.requires.place c.args.shared.now.space.now c.args.shared.now.shelf.now c.args.shared.now.commons.now c.requires.fetching.1.between.stands
