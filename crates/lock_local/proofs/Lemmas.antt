-- The lemmas by which the functions' goals are answered.
pub use Rattle.lock_local.proofs.ChangeLemmas.{acquired_new, acquired_over, agrees_by, count_at, count_missing, counted_up_agrees, down, down_agrees, down_over, fit_acquired, fit_passed, fit_released, freed_no, freed_yes, is_held-filter, is_held-passed, new_agrees, no_lock, none_standing, total-acquired, WellCounted}
pub use Rattle.lock_local.proofs.CountLemmas.{counted_there, counts_both, counts_lowered, counts_more, counts_released}
pub use Rattle.lock_local.proofs.LawLemmas.{held_whole, length_different}
pub use Rattle.lock_local.proofs.OrderLemmas.{drop_more, IsInOrder-set}
pub use Rattle.lock_local.proofs.OwnerLemmas.{added_none, added_over, at_success, Counted, few_added, few_handed, few_lowered, few_others, found, handed_fits, lowered_gone, lowered_over, no_count, none_held, not_found, room_left, sum_so_far}
pub use Rattle.lock_local.proofs.PlaceLemmas.{later_back, ownerless_gone, ownerless_none, sooner_front, taken_some}
pub use Rattle.lock_local.proofs.RecallLemmas.{absent, any_none, at_place, inserted, IsByOwner-insert, IsByOwner-remove, IsByOwner-set, joined_at, joined_new, match_some, never_falls, no_place, no_recall, not_unknown, remembers_alone, remembers_last, remembers_less, remembers_lowered, remembers_new, remembers_noted, remembers_nothing, remembers_passed, remembers_unpassed, remove-set, removed, tagged_known, tagged_unknown, would_stand_at, written}
pub use Rattle.lock_local.proofs.StepLemmas.{all_kept, AreLocks-given_up, AreLocks-handed_on, at_none, idle_untagged, no_tag, nothing_left, passed_again, passed_idle, passes_idle, passes_step, released_again, released_idle, releases_idle, releases_step, tagged_given_up, tagged_handed_on, told_none, told_on, told_place}
pub use Rattle.lock_local.proofs.TableLemmas.{by_view, fit_lowered, taken_lowered}
pub use Rattle.lock_local.proofs.TagLemmas.{any-insert, any-remove, IsRising-insert, IsRising-remove, new_tag, other_tag, taken_out, untagged}
pub use Rattle.lock_local.proofs.TotalLemmas.{totals_lowered, totals_passed, totals_released, wholes_lowered, wholes_more, wholes_passed, wholes_released}
pub use Rattle.lock_local.proofs.WalkLemmas.{flat_map_at, freed_agrees, freed_others, had_owner, others_more, rest_agrees}
