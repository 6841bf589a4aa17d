-- The level is aborted, so that it may go.
use Rattle.session_ends.proofs.Lemmas.{freed_aborted}
use Rattle.session_ends.proofs.ends.clean_up.Goals as goal

pub sweep-requires-clause-freed : goal.sweep-requires-clause-freed
sweep-requires-clause-freed g c =
    freed_aborted c.args.store.now c.args.space.now c.args.shelf.now c.requires.stands.0 c.requires.stands.1 c.requires.level c.requires.aborted
