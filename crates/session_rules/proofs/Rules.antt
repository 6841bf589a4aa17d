-- The definitions of specs/ that these proofs take.
pub use Rattle.session_rules.specs.Acts.{Ended, context_gone, for_each, in_order, switched, where_so, changes, portal_gone, say, where_there, portal_becomes, children_gone, context_cleared, context_cleared_alone, nothing, behind, of_contexts}
unfoldable pub use Rattle.session_rules.specs.Asked.{asked, asked_all, asked_by}
pub use Rattle.session_rules.specs.Asked.{asked_by_command, asked_by_line, asked_by_read, asked_by_turn, asked_in_all, asked_on, asks_in, then_asked, where_done}
pub use Rattle.session_rules.specs.Calls.{Done, unless_refused, fallible, is_call, refused_call, IsLater, unfailing}
pub use Rattle.session_rules.specs.Checks.{has_failed, failure, unless, refusal_at, tree_error}
unfoldable pub use Rattle.session_rules.specs.Commands.{elements_of}
pub use Rattle.session_rules.specs.Commands.{at_savepoint, begin, commit, committed_to, in_transaction, is_end, refused, rollback, rolled_back_to, save, savepoint, start, then_ok, transaction_of, unaborted, ends_aborted}
pub use Rattle.session_rules.specs.Counts.{holds, counts}
pub use Rattle.session_rules.specs.Does.{then_done, failing_turn}
unfoldable pub use Rattle.session_rules.specs.Does.{does, does_all}
pub use Rattle.session_rules.specs.Elements.{Text, Element, OfLevel, Check, InPortal, InRow, OfPortal, PortalContext, InCurrent, LevelContext, RowContext, OwnerRole, NewContext, MemoryRole, ScriptContext}
pub use Rattle.session_rules.specs.Ending.{AreEnding, Ending, IsDone, IsLoose, IsAway, gone_levels}
pub use Rattle.session_rules.specs.Ends.{given_up, level_rolled_back, stack_lowered, stack_popped, aborted, cleaned_up, committed, subcommitted, empty_context_gone, level_context_gone, level_owner_gone, level_popped, level_released, switched_up}
unfoldable pub use Rattle.session_rules.specs.Ends.{exited, recovered}
pub use Rattle.session_rules.specs.Guarded.{AreGuarded, IsRooted}
pub use Rattle.session_rules.specs.HookCounts.{CountsHooks, callbacks_of, hooks_of, registered_of, runs_of, HookCount, HooksCounted, is_callback, is_registered}
pub use Rattle.session_rules.specs.Lookup.{newest, portals_but, portal_changed, plan_at, context_named, plan_changed, plans_but, portal_named, memory_in, kind_from, kind_named, owner_in}
pub use Rattle.session_rules.specs.Making.{context_made, owner_made, plan_made, portal_made, level_parent, new_context_made, left, new_owner_made, held, level_made, level_context_name, limit}
pub use Rattle.session_rules.specs.Parts.{context_moved, at_kind, at_owner, lock_given_back, at_context, scan_part, scanned, snapshot_popped, level_stands, at_portal, contexts_become, tells, pinning}
pub use Rattle.session_rules.specs.Portals.{portal_aborted, portal_closed, portal_passed, is_ready, portal_failed, portal_withdrawn, executor_ended, portal_ended, portal_owner_ended}
pub use Rattle.session_rules.specs.Releases.{given_back, item_released, owner_moved, owner_released, Keeper, NoOne, TheKind, keeper_of, owner_gone, phase_released, plan_becomes, TheDescriptors, ThePlans, left_to, plan_settled, plan_stays, descriptor_left, key_left, plan_left, step_done}
pub use Rattle.session_rules.specs.Standing.{IsFresh, IsOfSession, AreContexts, AreLevels, ArePlans, HasItems, IsItem, IsPlace, IsPortal, IsRow, referred, IsAtRest, IsAttached, IsDead, IsLive, IsOwner, active_depth, Stands, StandsBetweenLines, AreHooks, AreOwners, IsPlan, IsWorking, references_of, AreOuter, IsContextOf, IsOwnerOf, IsReleased, IsAtWork, owner_at, AreApart, Differ, AreDifferent, AreOther, IsOfPortal, IsFetched, ArePortals, AreStacked, IsActive, AreOpen, FitLevels, IsOpen, IsDeepest, HasExited, IsLevel, IsMade, WasReleased}
pub use Rattle.session_rules.specs.State.{SessionState, is_aborted, top_context, abort_context, LevelState, OpenPortal, StandingPlan, cache_context, plan_reference, portals_context, context_of, first_of, deepest_changed, owner_of, buffer_pin, file_kind, level_owner, snapshot_reference, last_of, level_context, relcache_reference, depth, level_above}
unfoldable pub use Rattle.session_rules.specs.State.{opening}
pub use Rattle.session_rules.specs.Taking.{hook_waits, descriptor_given, item_taken, lock_taken, remembers, taken_by, chunk_resized, memory_taken, snapshot_pushed, hook_registered, files}
pub use Rattle.session_rules.specs.Transcript.{line_elements, turn_of, transcript, Course, Reading, after_line, goes_on, is_error}
unfoldable pub use Rattle.session_rules.specs.Transcript.{turn, course_by, transcript_by}
pub use Rattle.session_rules.specs.Works.{after_turn, chunk_row, context_row, fallible_part, fetch_steps, item_row, lock_row, plan_row, portal_row, row_of, snapshot_row, tell_row, turn_steps, work_of, Row, portal_steps}
pub use Rattle.session_rules.specs.World.{Moment, Scene, Around, Options, moment, holdings, others, Numbered, for_buffers, pinning_among}
