-- The lemmas by which the functions' goals are answered.
pub use Rattle.session_core.proofs.Between.{abort_between, between_of, clean_between, clean_rest, commit_between, recovery_lines, roll_between, roll_rest, subcommit_between}
pub use Rattle.session_core.proofs.BetweenLines.{aborted_block, block_of, lines_behind, opened_levels, rest_of_lines, steps_of_lines}
pub use Rattle.session_core.proofs.ByState.{alone_done, alone_refused, alone_unstarted, as_elements, begun_inside, committed_inside, ended_aborted, ended_idle, in_aborted, in_block, in_idle, is_an_end, is_no_end, level_and_work, not_in_aborted, performed_ok, performed_refused, performed_warned, rolled_back_inside, saved_inside, savepoints_idle, transacts, work_stopped, work_then_ok, working_block}
pub use Rattle.session_core.proofs.Exited.{all_rolled, none_below, rolled_ends, session_exits}
pub use Rattle.session_core.proofs.LevelsBegin.{context_behind, level_behind, owner_behind, some_level, stands_now, start_performed, start_stops_first, start_stops_second, start_stops_third}
pub use Rattle.session_core.proofs.Numbers.{aborts, nothing_keeps, rolls}
pub use Rattle.session_core.proofs.OnLevels.{abort_performed, cleanup_performed, commit_performed, roll_performed, subcommit_performed}
pub use Rattle.session_core.proofs.Placing.{placed_lines}
pub use Rattle.session_core.proofs.Recovered.{acted_nothing, ended, ends_as, ends_both, ends_same, ends_seen, gives_aborted, gives_implicit, gives_none, gives_open, gives_start, gives_start_alone, gives_up, recovery_ends, starting_some}
pub use Rattle.session_core.proofs.Rolling.{IsCommitting, IsRolling, at_found, at_missing, committing_done, committing_left, committing_on, committing_start, deepest_rolled, one_less, rolling_done, rolling_on, rolling_outer, rolling_rest, rolling_start}
pub use Rattle.session_core.proofs.Seen.{keeps_of, levels_seen, seen, seen_from, serves_of, stands_of}
pub use Rattle.session_core.proofs.Starting.{few_levels, level_is_new, make_level, many_levels, stood_performed}
pub use Rattle.session_core.proofs.Turning.{of_line, of_wanted, turned_bad, turned_err, turned_ok}
pub use Rattle.session_core.proofs.Working.{same_portals, work_as}
