-- The lemmas by which the functions' goals are answered.
pub use Rattle.lock_shared.proofs.BesideLemmas.{found_is_beside}
pub use Rattle.lock_shared.proofs.HoldingLemmas.{least_at, lesser_at}
pub use Rattle.lock_shared.proofs.ObjectLemmas.{OnErr-map, OnOk-map, are_once, conflict_found, free_found, held_at, held_there, kept_added, kept_at, kept_less, kept_one, kept_with, none_found, sets_put, sets_struck, without_entry}
