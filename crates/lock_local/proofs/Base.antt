-- The words and lemmas of the crates below, and the definitions of specs/, that these proofs take.
pub use Rattle.std.proofs.Common.{[], add-one, ap, append_assoc, arith, Bool, cond, drop, drop-cons, false, filter, get_or, inl, inr, length, List, ltb, map, nat_eq, nat_lt, None, not, Option, refl, rules, set, Some, subst, suc, sym, take, true, zero, ℕ, ◌&&◌, ◌++◌, ◌+◌, ◌-◌, ◌/◌, ◌<◌, ◌^◌, ◌||◌, ◌∙◌, ◌∷◌, ◌≡◌, ◌≢◌, ◌≤◌}
pub use Rattle.std.proofs.lemmas.Bool.{and_from, and_parts, cases_Bool, eq-eqb, eqb-false, eqb-true, false≢true, lt-ltb, ltb-false, ltb-true, ne_eqb, true≢false}
pub use Rattle.std.proofs.lemmas.Bool.Decides.{nat_tests}
pub use Rattle.std.proofs.lemmas.Fn.{filter_same}
pub use Rattle.std.proofs.lemmas.List.{get_or_default, length-map, length-set, map_more, take_more}
pub use Rattle.std.proofs.lemmas.List.Concat.{flat_map-append}
pub use Rattle.std.proofs.lemmas.List.Edits.{map_over_more}
pub use Rattle.std.proofs.lemmas.List.Elements.{All-cons, All-filter, All-from_get_or, All-get_or, All-head, All-map, All-nil, All-set, All-tail, All-weaker, filter_passes}
pub use Rattle.std.proofs.lemmas.List.Folds.{find_past, list_any_at, list_any_more, list_any_none, map_fixed}
pub use Rattle.std.proofs.lemmas.List.Quantifiers.{position-Some}
pub use Rattle.std.proofs.lemmas.List.Sorted.{IsPartitionedBy-ltb, IsPartitionPoint-from_clause}
pub use Rattle.std.proofs.lemmas.List.Sums.{fails_before_first, passes_at_first, sum_by-cons, sum_by-drop_more, sum_by-set, sum_by-take-drop}
pub use Rattle.std.proofs.lemmas.Map.Made.{length-from_keys}
pub use Rattle.std.specs.Bool.{MatchBool}
pub use Rattle.std.specs.Cmp.{IsEquivalence}
pub use Rattle.std.specs.List.{AllByRecursion, find, flat_map, list_any}
unfoldable pub use Rattle.std.specs.List.{IsDistinct}
pub use Rattle.std.specs.List.Sorted.{IsNonDecreasingBy}
pub use Rattle.std.specs.Prelude.{All, count_by, Err, insert, IsOk, MatchOption, OnOk, OnSome, position, remove, Result, sum_by, ◌⊎◌}
pub use Rattle.std.specs.Set.{distinct_count}
pub use Rattle.arrayvec.proofs.ArrayVecLemmas.{filter-from_retain}
pub use Rattle.lock_local.specs.Changes.{acquired, added, counted_down, counted_up, given_back, lowered, new_lock, pass_of, passed, passed_lock, passes, release_of, release_whole, released, releases, releases_of_all, without}
pub use Rattle.lock_local.specs.Counts.{HoldsBoth, HoldsNothing, HoldsOneLess, HoldsOneMore, WholeLess, WholeOneLess, WholeOneMore, WholeStays}
pub use Rattle.lock_local.specs.Locks.{Agrees, AreLocks, comes_before, count_if, count_of, has_owner, is_held, is_lock, IsInOrder, Lock, lock_total, OthersStay, owner_count, owner_total, same_name, SessionLocks, total, whole_of}
pub use Rattle.lock_local.specs.OwnerPlaces.{HasOwnerAt, WouldHaveOwnerAt}
pub use Rattle.lock_local.specs.Places.{StandsAt, WouldStandAt}
pub use Rattle.lock_local.specs.Recalled.{has_lock, is_tag, IsByOwner, IsRecall, IsRising, Joins, Recall, recall_of, recalls, Remembers}
pub use Rattle.lock_local.specs.Tagged.{AreTagged, at_lock, given_up, gives_up, handed_on, hands_on, told_of}
pub use Rattle.lock_local.specs.declared.errors.LockError.{LockError}
pub use Rattle.lock_local.specs.declared.errors.LockError.TheVariants.{Conflict, NotHeld}
pub use Rattle.lock_local.specs.declared.local_lock.OwnerCount.{OwnerCount}
pub use Rattle.lock_local.specs.declared.recalled.LockTag.{LockTag}
pub use Rattle.lock_shared.proofs.BesideLemmas.{conflict_is, conflict_stands}
pub use Rattle.lock_shared.specs.Holdings.{holds, same_lock, Sets}
pub use Rattle.lock_shared.specs.Ranked.{beside, least_conflict}
pub use Rattle.lock_shared.specs.declared.shared_locks.Holding.{Holding}
pub use Rattle.pgs_step.specs.Mode.{mode_number}
pub use Rattle.pgs_step.specs.declared.events.What.{What}
pub use Rattle.pgs_step.specs.declared.events.What.TheVariants.{PassLock, ReleaseLock}
pub use Rattle.pgs_step.specs.declared.lock_modes.Mode.{Mode}
pub use Rattle.pgs_step.specs.declared.lock_modes.Mode.TheVariants.{AccessShareLock}
pub use Rattle.smallvec.proofs.SmallVecLemmas.{items-with_items}
pub use Rattle.smallvec.specs.SmallVec.{SmallVec, with_items}
