-- Lemmas on readers of events, and on what sessions do, that most proofs of this crate take.
pub use Rattle.lifetime_laws.specs.Reading.{Reader, allows_all, events_of, is_one_of, seen_after}
pub use Rattle.lifetime_laws.specs.Balance.{BalancesFrom, Covers, count, covers, left}
pub use Rattle.lifetime_laws.proofs.Readings.{allows_all-append, events_of-append, events_of-other, events_of-own, seen_after-append}
pub use Rattle.session_rules.proofs.Leaves.{Acts, AllKeep, AreSpoken, EndLeaves, Follows, IsRun, IsSpoken, Keeps, Law, Leaves, LevelLeaves, Lowers, MakeLeaves, MoveLeaves, Owes, OwesEnds, OwesMakes, OwesMoves, is_level_word, is_word, last, next, runs_anyhow}
pub use Rattle.session_rules.proofs.Said.{AreSaid, said_all_locks, said_alone, said_both, said_gone, said_lock_passes, said_lock_releases, said_map, said_more, said_none, said_one, said_pops, said_report, said_weaker}
pub use Rattle.session_rules.proofs.Sight.{ContextLeaves, FileLeaves, KeyLeaves, Part, Sight, StackLeaves, Words, acts_of, children_go, gives_back, goes, hook_waits_so, item_comes, item_goes, leaves_of, level_leaves_of, locks_one, makes_context, moves_context, no_part, of_contexts, of_descriptors, of_kinds, of_levels, of_locks, of_next_context, of_next_owner, of_next_serial, of_owners, of_plans, of_portals, of_recent, of_shelf, of_snapshots, owner_goes, owner_makes, owner_moves, phase_so, places, plans_one, pushes, releases, says, taken_so, takes, unlocks, unseen_contexts, unseen_files, unseen_keys, unseen_locks, unseen_owners, unseen_stack}
pub use Rattle.session_rules.proofs.Walk.{by_each, by_either, by_kind, by_order, by_owner, by_portal, by_portal_named, by_so, by_there, context_is_made, element_follows, fallible_at, fallible_so, levels_owed, makes_owed, moves_owed, owner_is_made, run_follows, unfailing_so}
pub use Rattle.session_rules.proofs.WalkEnds.{aborts, all_owed, behind_commit, cleans_up, context_goes, empty_context_goes, ends_owed, executor_ends, exit_follows, level_context_goes, level_marks, level_pops, level_releases, owner_releases, portal_aborts, portal_cleans, portal_closes, portal_ends, portal_fails, portal_lowers, portal_passes, portal_returns, recovers, rolls_back, switches_up}
pub use Rattle.session_rules.proofs.Spoken.{line_spoken}
pub use Rattle.session_rules.proofs.EndsStand.{aborted_stands, at_settled, begins, behind_rollback, exited_left, exited_stands, is_left, is_settled, off_begins, owner_when_active, resettled, rolled_stands, settled, switched_off}
pub use Rattle.session_rules.proofs.TurnStands.{Meets, Runs, command_leads, line_runs, refused_leads, turn_stands}
pub use Rattle.session_rules.proofs.ReleaseSteps.{AreReleaseSteps, IsReleaseStep, ItemGoes, LockLeaves, OwnerLeaves, item_releases, no_step, phase_keeps, phase_release, then_step, warned_step}
pub use Rattle.session_rules.proofs.Swept.{all_swept, has_swept}
pub use Rattle.session_rules.proofs.Forests.{at_children, at_emptied, at_left, at_put, at_put_other, children_put, emptied_absent, has_emptied, has_left, has_put_other, once_left, parent_left, parent_put, parent_put_other, times_emptied}
pub use Rattle.session_rules.proofs.Failing.{aborted_leads, all_aborted}
pub use Rattle.file_table.proofs.FileCounts.{times, times_none, times_without}
pub use Rattle.lifetime_laws.proofs.Replays.{IsLine, above-line, is_there-placed_other, is_there-placed_same, is_there-without_other, is_there-without_same, parent_of-placed_other, parent_of-placed_same, parent_of-without_other, parent_of-without_same}
pub use Rattle.lifetime_laws.specs.Called.{CallsBack, Waiting, all_differ, calling, is_awaited, is_next, without_next, words_in}
pub use Rattle.lifetime_laws.specs.Inside.{Awaited, Begun, ItsContext, ItsOwner, Leaving, Neither, StaysInside, awaited_behind, bare_level, begun_behind, contexts_inside, ends_behind, ends_with, is_named, is_within_some, last_changed, level_begun, nothing_leaving, owners_inside, plans_behind, staying, with_context, with_end, with_owner, with_portal}
pub use Rattle.lifetime_laws.specs.Made.{IsMadeOnce, MakesOnce}
pub use Rattle.lifetime_laws.specs.Order.{ALock, AnItem, Member, Owned, ReleasesInOrder, Releasing, goes_before, is_warned, may_precede, member_of, nothing_releasing, ordering, owner_of, place_of, place_of_phase, warning, warning_behind, warns_of_releases}
pub use Rattle.lifetime_laws.specs.Parents.{Node, above, contexts_behind, first_contexts, has_child, is_above, is_there, is_within, owners_behind, placed, placed_where, without}
pub use Rattle.lock_local.proofs.ChangeLemmas.{AreLocks-acquired, AreLocks-filtered, AreLocks-passed, AreLocks-released, IsInOrder-acquired, WellCounted, by_passing, counted-down, down, keeps-down, keeps-passed, keeps-without, none_like, passes_some}
pub use Rattle.lock_local.proofs.OrderLemmas.{IsInOrder-filter, IsInOrder-map}
pub use Rattle.owner_kinds.proofs.Places.{table-closed, table-opened}
pub use Rattle.reset_callbacks.specs.ShelfState.{ShelfState, held}
pub use Rattle.session_rules.proofs.Aside.{ContextLaw, context_ends, context_makes, is_apart, is_of_contexts}
pub use Rattle.session_rules.proofs.ContextsKept.{moves_by, protected_has}
pub use Rattle.session_rules.proofs.Ending.{Leads, with_parts}
pub use Rattle.session_rules.proofs.Guarded.{all_at, all_changed, all_children, all_moved, all_put, all_removed, top_parent}
pub use Rattle.session_rules.proofs.HookLaws.{exited_counts_hooks, turn_counts_hooks}
pub use Rattle.session_rules.proofs.HooksKept.{distinct_times, times_append, times_distinct, word_times}
pub use Rattle.session_rules.proofs.Lone.{lone_left, own_emptied}
pub use Rattle.session_rules.proofs.Meeting.{StandingMoves, standing_moves}
pub use Rattle.session_rules.proofs.NamesStand.{named_there}
pub use Rattle.session_rules.proofs.Passing.{above_owner, above_there, all_passed, passed_leads}
pub use Rattle.session_rules.proofs.PortalsStand.{Named, named_in}
pub use Rattle.session_rules.proofs.Replacing.{all_closed, first_of_rest}
pub use Rattle.session_rules.proofs.Stacked.{depth_small}
pub use Rattle.session_rules.proofs.StepsStand.{abort_stands, below_limit, cleanup_stands, commit_stands, merge_stands, own_refusal, settled_as}
