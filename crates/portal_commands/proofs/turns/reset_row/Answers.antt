use Rattle.portal_commands.proofs.Base.{refl}
use Rattle.portal_commands.proofs.Words.{now}
use Rattle.portal_commands.proofs.Lemmas.{follows_nothing, no_row, row_reset}
use Rattle.portal_commands.proofs.turns.reset_row.Goals as goal

pub returns-in-Some : goal.returns-in-Some
returns-in-Some g c = record {
  follows =
      row_reset c.args.portal.now.name (now c.args.store.now c.args.shared.now) _ _ refl c.clear_only.ensures.asked c.in-Some.at.number (c.in-Some.ensures.context c.args.portal.now.name c.requires.place c.args.shared.now.space.now)
      (c.clear_only.ensures.acted c.args.shared.now.commons.now) (c.clear_only.ensures.alone c.args.shared.now.commons.now);
}

pub returns-in_default : goal.returns-in_default
returns-in_default g c = record {
  follows =
      follows_nothing _ (now c.args.store.now c.args.shared.now) _ (no_row c.args.portal.now.name (now c.args.store.now c.args.shared.now) (c.in_default.ensures.context c.args.portal.now.name c.requires.place c.args.shared.now.space.now))
      c.requires.fetching.1.between.keeps (g.met.E.Emit.emits_none c.args.out.now);
}

pub clear_only-requires-clause-live : goal.clear_only-requires-clause-live
clear_only-requires-clause-live g c = c.in-Some.ensures.live c.args.portal.now.name c.requires.place c.args.shared.now.space.now c.args.shared.now.shelf.now c.args.shared.now.commons.now c.requires.fetching.1.between.stands
