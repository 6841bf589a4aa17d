-- The lemmas by which the functions' goals are answered.
pub use Rattle.portal_commands.proofs.Chains.{alone_done}
pub use Rattle.portal_commands.proofs.FetchSteps.{at_follows, at_on, bad_performed, fetched_owner, fetching_begins, fetching_follows, fetching_on, fetching_step, follows_as, follows_nothing, needs_nothing, no_owner, no_row, other_part, other_performed, page_not_held, page_unpinned, row_reset, row_told, scan_done, served_good, serves_as, serves_beside, step_named, there_scan}
pub use Rattle.portal_commands.proofs.Listed.{keeps_alone, none_named}
pub use Rattle.portal_commands.proofs.MakingSteps.{few_portals, make_portal, many_portals, portal_is_new, row_is_new}
pub use Rattle.portal_commands.proofs.MemorySteps.{memory_done, memory_injected, memory_nowhere, memory_refused}
pub use Rattle.portal_commands.proofs.OnCommands.{copied_some, does_begin, does_ready, end_of_none, fetch_done, fetch_of_failed, fetch_of_none, fetch_refused, none_of, not_failed, portal_ends, portal_opened, portal_taken, scan_of_it, some_of}
pub use Rattle.portal_commands.proofs.OnItsWay.{context_on, has_context, has_name, has_owner, lock_on, making_begins, memory_on, owner_on, portals_owner, reference_on, row_on, way_context}
pub use Rattle.portal_commands.proofs.PinSteps.{no_pin, no_room}
pub use Rattle.portal_commands.proofs.Places.{at_becomes, at_there}
pub use Rattle.portal_commands.proofs.TurnElements.{turn_as, turn_done, turn_failed}
pub use Rattle.portal_commands.proofs.TurnLists.{closing, next_page, unclosed}
pub use Rattle.portal_commands.proofs.Turning.{IsRunning, IsTurning, ended_end, ended_row, ended_scan, fewer_left, running_done, running_ended, running_on, running_refused, running_start, step_room, steps_left, turn_room, turning_ended, turning_on, turning_refused, turning_start}
