use Rattle.lock_local.proofs.Base.{[], sym, ◌∙◌}
use Rattle.lock_local.proofs.Lemmas.{tagged_known, tagged_unknown}
use Rattle.lock_local.proofs.tag_walks.give_up_recalled.Goals as goal

pub give_up_tagged-requires-clause-tagged : goal.give_up_tagged-requires-clause-tagged
give_up_tagged-requires-clause-tagged g c = tagged_known c.args.recalled.now.items c.args.locks.now.items c.args.owner c.in-Some.recall.now c.tags.result.now c.requires.remembers c.in-Some.ensures (sym c.has_more.ensures ∙ c.if-has_more.false) c.tags.ensures.tags

pub give_up_tagged-requires-in-None-clause-tagged : goal.give_up_tagged-requires-in-None-clause-tagged
give_up_tagged-requires-in-None-clause-tagged g c = tagged_unknown c.args.recalled.now.items c.args.locks.now.items c.args.owner [] c.requires.remembers c.in-None.ensures
