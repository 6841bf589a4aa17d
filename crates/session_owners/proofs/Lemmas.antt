-- The lemmas by which the functions' goals are answered.
pub use Rattle.session_owners.proofs.Acts.{acted_added, acted_dropped, acted_extension, acted_given, acted_gone, acted_lowered, acted_made, acted_moved, acted_opened, acted_phase, acted_pinned, acted_popped, acted_popped_from, acted_pushed, acted_referred, acted_release, acted_silent, acted_taken, acted_touched, state_of}
pub use Rattle.session_owners.proofs.Balances.{agrees_fit, balances_extended, balances_given, balances_gone, balances_made, balances_more, balances_moved, balances_pinned, balances_released, balances_same, balances_taken, beside_counted, few_sessions, known_items, locks_moved, locks_stay, pinning_is, pins_counted, pins_moved, served, serves_still, shared_fit}
pub use Rattle.session_owners.proofs.Bare.{IsBare, acted_bare, released_bare}
pub use Rattle.session_owners.proofs.Classes.{classes_tally}
pub use Rattle.session_owners.proofs.Kept.{asked_counts, counted_extended, counted_given, counted_gone, counted_made, counted_moved, counted_opened, counted_opening, counted_pinned, counted_referred, counted_released, counted_taken, found_given, is_counted}
pub use Rattle.session_owners.proofs.Left.{nothing_left}
pub use Rattle.session_owners.proofs.LockActs.{acted_locked, acted_unlocked, both_ok, conflict_seen, locks_alone, three_ok}
pub use Rattle.session_owners.proofs.Names.{found_kind}
pub use Rattle.session_owners.proofs.OpenCounts.{closes}
pub use Rattle.session_owners.proofs.OpenFiles.{descriptors_kept, full, not_taken, open_held, open_length, opened_touches, opening_touches, recent_alone, touch_wants}
pub use Rattle.session_owners.proofs.PlanSteps.{at_found, discard_goes, discard_stays, fit_gone, fit_set, in_some, is_kept, is_referred, leave_goes, leave_stays, left_gone, left_set, of_plan, on_none, on_some, parted, picks, some_state, states_set, usable_state}
pub use Rattle.session_owners.proofs.Stack.{pop_refused}
pub use Rattle.session_owners.proofs.Stat.{class_counted, classes_different, counts_are, different_keys, different_pins, keys_tally, pairs_count, pairs_different, pairs_held}
pub use Rattle.session_owners.proofs.TableSteps.{does_close, does_give, does_leave, does_refer_less, pin_is_none, pin_is_other}
