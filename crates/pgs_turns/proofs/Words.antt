-- The words and lemmas of the crates below, and the definitions of specs/, that these proofs take.
pub use Rattle.addr_space.specs.Space.{Asks, Space, accounts, risen, share, taken}
pub use Rattle.context_rules.specs.Ends.{waiting}
pub use Rattle.context_tree.specs.State.{Moves, SameRegions, TreeState, no_contexts, total_of}
unfoldable pub use Rattle.context_tree.specs.State.{stands_for}
pub use Rattle.forest.specs.Forest.{Empty}
pub use Rattle.lock_local.specs.Locks.{Agrees, AreLocks, Lock, OthersStay, has_owner, is_held}
pub use Rattle.lock_shared.specs.Holdings.{holds}
pub use Rattle.lock_shared.specs.declared.shared_locks.Holding.{Holding}
pub use Rattle.owner_kinds.specs.Kind.{Kind}
pub use Rattle.owner_kinds.specs.KindShelf.{table_of}
unfoldable pub use Rattle.owner_kinds.specs.KindShelf.{times_held}
pub use Rattle.owner_kinds.specs.KindTable.{IsSound}
pub use Rattle.pgs_command.specs.Lines.{is_comment, prefix_of, said}
unfoldable pub use Rattle.pgs_command.specs.Lines.{read_line}
pub use Rattle.pgs_command.specs.Values.{count_of, number_of}
unfoldable pub use Rattle.pgs_command.specs.Values.{class_of, kind_of, mode_of, name_of, number_between}
unfoldable pub use Rattle.pgs_command.specs.Words.{words_of}
pub use Rattle.pgs_command.specs.declared.commands.Command.{Command}
pub use Rattle.pgs_command.specs.declared.lines.BadLine.{BadLine}
pub use Rattle.pgs_command.specs.declared.lines.Line.{Line}
pub use Rattle.pgs_io.specs.Lines.{IsKept, lines_of, newline, onto_first}
pub use Rattle.pgs_step.specs.Name.{IsName, is_name_byte}
pub use Rattle.pgs_step.specs.declared.events.Event.{Event}
pub use Rattle.pgs_step.specs.declared.events.What.{What}
pub use Rattle.pgs_step.specs.declared.ids.KindId.{KindId}
pub use Rattle.pgs_turns.specs.Counting.{TakesEvents, TakesEvents-both, TakesEvents-none, of_session_taken}
pub use Rattle.pgs_turns.specs.Courses.{CourseAt, CoursesAre, HasPerformed, IsOver, TakesBut, TakesInAll, TakesLines}
pub use Rattle.pgs_turns.specs.EventLaws.{errors_in-append, errors_of_one_session}
pub use Rattle.pgs_turns.specs.Hooks.{HooksAreTold, TellHooks, hooks_in, said_by_all, used_in}
pub use Rattle.pgs_turns.specs.Made.{asked_at, read_at, says}
pub use Rattle.pgs_turns.specs.Script.{said_in}
pub use Rattle.pgs_turns.specs.Sweeping.{HooksRan, LeaveRuns, LeaveWanted, LeavesRun, run_numbers, runs_in, setting_for_run, shelf_for}
unfoldable pub use Rattle.pgs_turns.specs.Sweeping.{course_in, events_of_runs, kinds_behind, setting_in, shelf_behind, told_in, told_of_runs}
pub use Rattle.pgs_turns.specs.Transcript.{EndsAt, Setting}
unfoldable pub use Rattle.pgs_turns.specs.Transcript.{course_of, kinds_after, shelf_after, transcript}
pub use Rattle.pgs_turns.specs.Turns.{AllExit, AreOpened, GoesOn, HaveRoom, IsOpened, IsWithin, TakesTurn, behind}
pub use Rattle.pgs_turns.specs.World.{AreKept, AreStanding, HaveDescriptors, HooksFit, IsHeld, IsOpening, KindsFit, LocksFit, PinsFit, Run, SameRun, all_waiting, held_by_all, one_of, options_in, run_of, sessions_in, setting_of, world_in}
pub use Rattle.pgs_turns.specs.declared.counter.Counter.{Counter}
pub use Rattle.pgs_turns.specs.declared.lines.Said.{Said}
pub use Rattle.reset_callbacks.specs.Hook.{AreDistinct, Hook}
pub use Rattle.reset_callbacks.specs.ShelfState.{ShelfState, held, renewed}
pub use Rattle.session_commands.proofs.Standing.{empty_around, fitting, fitting_fits}
pub use Rattle.session_commands.specs.Answers.{Fits}
pub use Rattle.session_commands.specs.Performed.{Takes, most_steps, scene_in}
pub use Rattle.session_commands.specs.declared.calls.Calls.{Calls}
pub use Rattle.session_core.specs.Lines.{IsBetweenLines}
pub use Rattle.session_owners.proofs.Balances.{serves_beside, serves_nothing}
pub use Rattle.session_owners.specs.Commons.{Balances, CommonState, PinsServe, Serves, pinned_beside, pinned_once}
pub use Rattle.session_owners.specs.ResourceState.{locks_of, owners_of}
pub use Rattle.session_rules.proofs.Asking.{asked_by_more, other_line, own_line, read_line_asks}
pub use Rattle.session_rules.proofs.HookLaws.{exited_counts_hooks, turn_counts_hooks}
pub use Rattle.session_rules.proofs.HookSums.{Runs, callbacks_both, more_runs, none_run, registered_both}
pub use Rattle.session_rules.proofs.Standings.{stands_between_elsewhere}
pub use Rattle.session_rules.specs.Asked.{asked_by_command, asked_by_line, asked_by_read, asked_on}
unfoldable pub use Rattle.session_rules.specs.Asked.{asked_all, asked_by, asked_by_turn}
unfoldable pub use Rattle.session_rules.specs.Ends.{exited}
pub use Rattle.session_rules.specs.HookCounts.{CountsHooks, HookCount, HooksCounted, callbacks_of, hooks_of, registered_of, runs_of}
pub use Rattle.session_rules.specs.Modes.{failing_runs, made_lines, most_counted, most_failing, numbers, summary}
unfoldable pub use Rattle.session_rules.specs.Modes.{generated, made_script, swept, whole_run}
pub use Rattle.session_rules.specs.Standing.{AreHooks, HasExited, Stands, StandsBetweenLines}
pub use Rattle.session_rules.specs.State.{SessionState}
unfoldable pub use Rattle.session_rules.specs.State.{opening}
pub use Rattle.session_rules.specs.Transcript.{Course, Turn, after_command, after_exit, after_line, after_read, after_turn, at_start, ended, errors_in, exits, goes_on, missing, of_session, turn_of}
unfoldable pub use Rattle.session_rules.specs.Transcript.{course_by, transcript_by, turn}
pub use Rattle.session_rules.specs.World.{Around, Moment, Options, Scene, World, around, for_buffers, holdings, moment, opened, others, pinning_among, session_at, with_scene}
pub use Rattle.session_store.specs.Calls.{Keeps, StaysBeside}
pub use Rattle.session_store.specs.State.{StoreState}
unfoldable pub use Rattle.session_store.specs.State.{session_of}
