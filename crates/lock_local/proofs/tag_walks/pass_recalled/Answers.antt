use Rattle.lock_local.proofs.Base.{[], sym, ◌∙◌}
use Rattle.lock_local.proofs.Lemmas.{tagged_known, tagged_unknown}
use Rattle.lock_local.proofs.tag_walks.pass_recalled.Goals as goal

pub pass_tagged-requires-clause-tagged : goal.pass_tagged-requires-clause-tagged
pass_tagged-requires-clause-tagged g c = tagged_known c.args.recalled.now.items c.args.locks.now.items c.args.from c.in-Some.recall.now c.tags.result.now c.requires.remembers c.in-Some.ensures (sym c.has_more.ensures ∙ c.if-has_more.false) c.tags.ensures.tags

pub pass_tagged-requires-in-None-clause-tagged : goal.pass_tagged-requires-in-None-clause-tagged
pass_tagged-requires-in-None-clause-tagged g c = tagged_unknown c.args.recalled.now.items c.args.locks.now.items c.args.from [] c.requires.remembers c.in-None.ensures
