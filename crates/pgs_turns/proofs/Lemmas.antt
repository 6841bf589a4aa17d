-- The lemmas by which the functions' goals are answered.
pub use Rattle.pgs_turns.proofs.CountedLemmas.{counted_over, line_turn, lines_over}
pub use Rattle.pgs_turns.proofs.ExitLemmas.{HaveExited, all_exited, exit_standing, none_exited, one_more_exited, opened_leave, opened_leave_kinds}
pub use Rattle.pgs_turns.proofs.KeptLemmas.{all_before, few_lines_of, kept_front, kept_line, next_dropped, next_there, one_before}
pub use Rattle.pgs_turns.proofs.PlayLemmas.{performed_none, room_behind}
