-- What sessions are, say and do: the words that most proofs of this crate take.
pub use Rattle.pgs_step.specs.declared.errors.Error.{Error}
pub use Rattle.pgs_step.specs.declared.events.What.{What}
pub use Rattle.pgs_step.specs.declared.ids.Item.{Item}
pub use Rattle.pgs_step.specs.declared.ids.KindId.{KindId}
pub use Rattle.pgs_step.specs.declared.ids.Phase.{Phase}
pub use Rattle.pgs_step.specs.declared.ids.Phase.TheVariants.{AfterLocks, BeforeLocks, Locks}
pub use Rattle.pgs_step.specs.declared.lock_modes.Mode.{Mode}
pub use Rattle.pgs_command.specs.declared.commands.Command.{Command}
pub use Rattle.pgs_command.specs.declared.commands.Work.{Work}
pub use Rattle.pgs_command.specs.declared.commands.ItemCommand.{ItemCommand}
pub use Rattle.pgs_command.specs.declared.commands.LockCommand.{LockCommand}
pub use Rattle.pgs_command.specs.declared.commands.PortalCommand.{PortalCommand}
pub use Rattle.exec_core.specs.declared.scan.Scan.{Scan}
pub use Rattle.session_rules.specs.Works.{Row, after_turn, elements, fetch_steps, item_row, lock_row, portal_row, work_of}
pub use Rattle.session_rules.specs.Commands.{at_savepoint, begin, in_transaction, rollback, rolled_back_to, save, savepoint, then_ok}
unfoldable pub use Rattle.session_rules.specs.Commands.{elements_of}
pub use Rattle.reset_callbacks.specs.Hook.{AreDistinct, Hook}
pub use Rattle.owner_kinds.specs.KindTable.{IsSound, KindTable, row_of}
pub use Rattle.owner_kinds.specs.KindShelf.{table_of}
pub use Rattle.owner_items.specs.ItemList.{AreFalling, is_of, uses, without_newest}
pub use Rattle.owner_items.specs.Next.{by_rank, is_of_phase, priority, release_order, with_item}
pub use Rattle.owner_core.specs.Owners.{AllAt, HoldsNothing, Owner, OwnerTree, created, forgotten, held, remembered}
pub use Rattle.owner_core.specs.Steps.{GivesBack, PassesLocks, ReleasesAllLocks, ReleasesLocks, Said, Step, lock_step, made_event, own_steps, release_steps, releases_of, steps_below, top_locks}
pub use Rattle.owner_core.specs.Released.{left_of, own_released, released}
pub use Rattle.lock_local.specs.Locks.{AreLocks, IsInOrder, Lock, comes_before, count_of, has_owner, is_lock, lock_total, owner_count}
pub use Rattle.any_ctx.specs.declared.any.CtxKind.{CtxKind}
pub use Rattle.context_rules.specs.Contexts.{Context, Contexts, is_child, is_protected, move_events, new_context, placed_under}
pub use Rattle.context_rules.specs.Ends.{callbacks, emptied, gone, gone_events, waiting}
pub use Rattle.session_rules.specs.State.{LevelState, OpenPortal, SessionState, StandingPlan, abort_context, cache_context, context_of, deepest_changed, depth, file_kind, first_of, is_aborted, last_of, level_above, level_context, level_owner, owner_of, portals_context, top_context}
unfoldable pub use Rattle.session_rules.specs.State.{opening}
pub use Rattle.session_rules.specs.World.{Around, Moment, Options, Scene, World, around, moment, opened, session_at, with_scene}
pub use Rattle.session_rules.specs.Elements.{Check, Element, LevelContext, NewContext, OfLevel, OfPortal, OwnerRole, PortalContext, Text}
pub use Rattle.session_rules.specs.Lookup.{context_named, kind_named, newest, owner_in, plan_at, plan_changed, plans_but, portal_changed, portal_named}
pub use Rattle.session_rules.specs.Acts.{Ended, behind, changes, children_gone, context_cleared, context_cleared_alone, context_gone, for_each, in_order, nothing, portal_becomes, portal_gone, say, switched, where_so, where_there}
pub use Rattle.session_rules.specs.Releases.{Keeper, NoOne, TheDescriptors, TheKind, ThePlans, descriptor_left, given_back, item_released, keeper_of, left_to, owner_gone, owner_moved, owner_released, phase_released, plan_becomes, plan_left, plan_settled, plan_stays, step_done}
pub use Rattle.session_rules.specs.Parts.{at_kind, at_owner, at_portal, context_moved, contexts_become, level_stands, lock_given_back, snapshot_popped, tells}
pub use Rattle.session_rules.specs.Making.{context_made, level_context_name, level_made, level_parent, limit, new_context_made, new_owner_made, owner_made, plan_made, portal_made}
pub use Rattle.session_rules.specs.Taking.{chunk_resized, descriptor_given, files, hook_waits, item_taken, lock_taken, memory_taken, remembers, snapshot_pushed, taken_by}
pub use Rattle.session_rules.specs.Portals.{executor_ended, is_ready, portal_aborted, portal_closed, portal_ended, portal_failed, portal_owner_ended, portal_passed, portal_withdrawn}
pub use Rattle.session_rules.specs.Ends.{aborted, cleaned_up, committed, empty_context_gone, given_up, level_context_gone, level_owner_gone, level_popped, level_released, level_rolled_back, stack_lowered, stack_popped, subcommitted, switched_up}
unfoldable pub use Rattle.session_rules.specs.Ends.{exited, recovered}
pub use Rattle.session_rules.specs.Checks.{failure, has_failed, unless}
pub use Rattle.session_rules.specs.Calls.{Done, fallible, refused_call, unfailing, unless_refused}
pub use Rattle.session_rules.specs.Does.{failing_turn, then_done}
unfoldable pub use Rattle.session_rules.specs.Does.{does, does_all}
pub use Rattle.session_rules.specs.Standing.{AreHooks, AreLevels, AreOuter, AreStacked, FitLevels, HasExited, HasItems, IsAttached, IsDead, IsLive, IsOpen, IsOwner, IsPlan, IsPortal, IsWorking, Stands, StandsBetweenLines, active_depth}
pub use Rattle.session_rules.specs.Transcript.{Course, Reading, Turn, after_command, after_exit, after_line, after_read, at_start, ended, exits, goes_on, line_elements, of_session, turn_of}
unfoldable pub use Rattle.session_rules.specs.Transcript.{course_by, transcript_by, turn}
pub use Rattle.file_table.specs.Descriptors.{is_among, without}
pub use Rattle.file_table.specs.Files.{given_events, given_file, loser, touch_events, touched_file}
pub use Rattle.owner_kinds.specs.Kind.{Kind}
pub use Rattle.pgs_step.specs.Mode.{mode_number}
pub use Rattle.pgs_step.specs.declared.events.Event.{Event}
pub use Rattle.session_rules.proofs.LevelsKept.{IsContext, is_there, left_nothing, no_value}
pub use Rattle.session_rules.specs.Ending.{Ending, gone_levels}
pub use Rattle.session_rules.specs.HookCounts.{HooksCounted, hooks_of, is_registered, registered_of}
pub use Rattle.snap_table.specs.Snapshots.{is_deep, kept_below, lowered, pops}
pub use Rattle.snap_table.specs.declared.active.Active.{Active}
