-- The lemmas by which the functions' goals are answered.
pub use Rattle.session_commands.proofs.Chains.{room_left}
pub use Rattle.session_commands.proofs.Commands.{as_row, on_no_context, one_call}
pub use Rattle.session_commands.proofs.HeldItems.{class_counted, found_item, give_as, given_back, missing_item, no_room_for, not_held, snapshot_counted, take, take_done, taken_in_room, takes_as, unkept_free}
pub use Rattle.session_commands.proofs.OnChunks.{alloc_done, alloc_injected, alloc_refuses, alloc_taken, free_performed, put_performed, realloc_done, realloc_injected, realloc_refuses, realloc_unknown, show_performed, show_refused}
pub use Rattle.session_commands.proofs.OnContexts.{delete_children_performed, delete_performed, reset_only_performed, reset_performed}
pub use Rattle.session_commands.proofs.OnFiles.{few_files, is_taken, open_refused, opened, touch, touched}
pub use Rattle.session_commands.proofs.OnKinds.{acquired, dropped, no_kind, no_room_named, take_named, take_named_done, take_named_refused}
pub use Rattle.session_commands.proofs.OnLocks.{is_missing, lock_not_held, lock_not_taken, take_lock, take_lock_done, unlocked, was_held}
pub use Rattle.session_commands.proofs.OnOthers.{acted_said, answer_of, here, make_nowhere, no_parent, register_done, register_injected, register_refused, reparent_performed, switch_performed}
pub use Rattle.session_commands.proofs.OnPlans.{discarded, make_done, make_injected, make_refused, make_taken, no_plan, no_room, referred}
pub use Rattle.session_commands.proofs.OnSnapshots.{held_where, missing_where, not_popped, popped, push}
pub use Rattle.session_commands.proofs.OnTelling.{buffer_told, counts_told, no_such_buffer, reported}
pub use Rattle.session_commands.proofs.Pinning.{enlarge, no_buffer, owner_known, owner_there, owner_unbegun, owners_same, pinned, still_owner}
pub use Rattle.session_commands.proofs.Refusing.{alone_same, both_still, err_of, err_with, handed, nothing_changed, ok_with, refused_still, silent_where, told_as, told_errors}
pub use Rattle.session_commands.proofs.Stepping.{call_done, call_injected, call_wants, said_nothing}
