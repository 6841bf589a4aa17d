-- Where the session stands contexts of plans may go.
use Rattle.session_ends.proofs.Lemmas.{may_stand}
use Rattle.session_ends.proofs.items.release_item.Goals as goal

pub give_back-requires-clause-plans : goal.give_back-requires-clause-plans
give_back-requires-clause-plans g c = may_stand c.args.store.now c.args.space.now c.args.shelf.now c.args.commons.now c.requires.stands
