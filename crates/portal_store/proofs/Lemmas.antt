-- The lemmas by which the functions' goals are answered.
pub use Rattle.portal_store.proofs.KeptLemmas.{IsKept_active, IsKept_created, IsKept_raised, IsKept_same, IsKept_set, IsKept_taken, IsKept_to_parent, all_names, in_front, not_in_front, place_here, place_unknown, taken_out}
pub use Rattle.portal_store.proofs.PortalLemmas.{aborted_at, asked_there, changed_at, moved_at, name_at, named_by_place, named_nowhere, not_nowhere, passed_at, place_within, sub_aborted_name, told_there, without_nowhere}
pub use Rattle.portal_store.proofs.ReachLemmas.{all_below}
