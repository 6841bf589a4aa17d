use Rattle.portal_commands.proofs.Base.{refl}
use Rattle.portal_commands.proofs.Words.{now, missing_item, owner_unbegun, said_nothing}
use Rattle.portal_commands.proofs.Lemmas.{follows_nothing, no_owner, page_not_held, page_unpinned}
use Rattle.portal_commands.proofs.turns.unpin_page.Goals as goal

pub returns-in_default : goal.returns-in_default
returns-in_default g c = record {
  follows =
      follows_nothing _ (now c.args.store.now c.args.shared.now) _ (no_owner c.args.portal.now.name c.args.page (now c.args.store.now c.args.shared.now) (c.in_default.ensures.owner c.args.portal.now.name c.requires.place c.args.shared.now.space.now))
      c.requires.fetching.1.between.keeps (g.met.E.Emit.emits_none c.args.out.now);
}

pub returns-in-Err : goal.returns-in-Err
returns-in-Err g c = record {
  follows =
      page_not_held c.args.portal.now.name (now c.args.store.now c.args.shared.now) _ _ refl c.release_item.ensures.asked c.args.page c.in-Some.owner (c.in-Some.ensures.owner c.args.portal.now.name c.requires.place)
      (missing_item _ c.release_item.result _ c.in-Err.is (c.release_item.ensures.item (owner_unbegun (now c.args.store.now c.args.shared.now) c.requires.fetching.1.between c.requires.fetching.1.working c.in-Some.owner.number)))
      c.in-Err.ensures.refused c.release_item.ensures.alone (said_nothing g.E.Emit.emits _ _ (g.met.E.Emit.emits_none c.args.out.now) c.in-Err.ensures.silent);
}

pub returns : goal.returns
returns g c = record {
  follows =
      page_unpinned c.args.portal.now.name (now c.args.store.now c.args.shared.now) _ _ refl c.release_item.ensures.asked c.args.page c.in-Some.owner (c.in-Some.ensures.owner c.args.portal.now.name c.requires.place)
      c.in_default-release_item.ensures.acted c.release_item.ensures.alone;
}

pub release_item-requires-clause-live : goal.release_item-requires-clause-live
release_item-requires-clause-live g c = c.in-Some.ensures.live c.args.portal.now.name c.requires.place c.args.shared.now.space.now c.args.shared.now.shelf.now c.args.shared.now.commons.now c.requires.fetching.1.between.stands
