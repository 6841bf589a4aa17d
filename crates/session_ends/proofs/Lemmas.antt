-- The lemmas by which the functions' goals are answered.
pub use Rattle.session_ends.proofs.Aborting.{aborted_acted, moved_some}
pub use Rattle.session_ends.proofs.Acting.{acted_end, acted_nowhere, acted_on, acted_on_nothing, acted_quiet, acted_then}
pub use Rattle.session_ends.proofs.Becoming.{active_after, becomes_after, made_after, place_in, placed_changed, portals_alone_after, there_in}
pub use Rattle.session_ends.proofs.Closing.{closed, holds_nothing, placed_nowhere, top_apart}
pub use Rattle.session_ends.proofs.Dealing.{alone_above, alone_hooks, alone_live, alone_once, context_above_none, context_apart, context_live, ending_are, ending_executed, ending_hooks, ending_once, ending_plans, ending_step, executor_acted, gone_acted, if_taken, is_to, one_level, owner_live, owner_lone, owner_other, owner_there, owner_unbegun, owners_once, same_acted, set_acted, to_there, within_active}
pub use Rattle.session_ends.proofs.Ended.{abort_parts, commit_parts, left_top, merge_parts, released_as, roll_parts, settles, shuts, sweep_parts}
pub use Rattle.session_ends.proofs.Ending.{agrees_current, alone, apart_current, asked_then, going_some, gone_apart, hooks_current, hooks_freed, idle_freed, keeps_left, left_placed, levels_freed, moves_back, moves_then, owners_freed, popped_is, same_before, there_freed}
pub use Rattle.session_ends.proofs.Equipping.{context_acted, keeps_open, owner_acted, owner_placed, row_acted}
pub use Rattle.session_ends.proofs.Freed.{IsShut, begins_in, freed_aborted, leaves, leaves_swept, level_owner_has, level_owner_top, may_ended}
pub use Rattle.session_ends.proofs.Giving.{forgets, still_unbegun}
pub use Rattle.session_ends.proofs.Going.{err_three, go_by, go_plans, goes_of, have_gone, may_stand, others_go, plans_can, plans_fit, plans_spare, refused_still}
pub use Rattle.session_ends.proofs.Lasts.{all_aborted, all_passed, all_without, found_all}
pub use Rattle.session_ends.proofs.Living.{context_in, expr_in, owner_in, parent_live, scan_in, session_named}
pub use Rattle.session_ends.proofs.Marked.{marked, marked_acted, marked_freed, marked_placed, stacked_leaves, stands_off}
pub use Rattle.session_ends.proofs.Memory.{is_above_none, is_apart, is_hooked, is_live, is_once, memory_acted}
pub use Rattle.session_ends.proofs.Out.{had_below, keeps_with, out_alone, out_gone, out_more, out_moved, out_nothing, out_owners, out_tree, placed_out, placed_owned, placed_portals, portal_lies_out, some_is, some_on}
pub use Rattle.session_ends.proofs.Owning.{ended_is, has_parent}
pub use Rattle.session_ends.proofs.Passed.{moves_where}
pub use Rattle.session_ends.proofs.PortalEnding.{at_none, at_some, both_are, executed_stands, found_below, found_different, found_named, found_owner_live, found_place, found_plans, found_unbegun, left_apart, left_descriptors, left_hooks, left_live, named_state, named_title}
pub use Rattle.session_ends.proofs.Quiet.{IsQuiet, ending_front, quiet_back, quiet_ending, quiet_more, quiet_states}
pub use Rattle.session_ends.proofs.Sweeping.{aborts_so, goes_so, merges_so, shut_in, still_idle}
pub use Rattle.session_ends.proofs.Walking.{IsClosing, IsSettling, acted_more, acted_none, all_done, closing_leads, left_within, next_is, next_none, one_more, settling_leads}
pub use Rattle.session_ends.proofs.Went.{acted_went, left_went}
