use Rattle.session_commands.proofs.Lemmas.{owner_known}
use Rattle.session_commands.proofs.steps.owner_of_level.Goals as goal

pub unreachable-requires : goal.unreachable-requires
unreachable-requires g c = owner_known c.args.store.now c.requires.active c.in-None.ensures.owner

pub returns-clause-live : goal.returns-clause-live
returns-clause-live g c s x commons stands = c.in-Some.ensures.live s x commons stands
