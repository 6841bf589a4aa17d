use Rattle.std.proofs.Common.{nat_eq, ◌∙◌}
use Rattle.indexmap.proofs.CallerLemmas.{insert_entry-new}
use Rattle.held_groups.proofs.places.note.Goals as goal

pub returns : goal.returns
returns c = c.in-Ok.ensures.entries ∙ insert_entry-new nat_eq c.args.places.now c.args.group c.args.at c.requires.fresh
