-- Lists that release in another order.
use Rattle.std.proofs.Common.{◌≡◌, false, refl}
use Rattle.pgs_step.specs.declared.events.What.TheVariants.{NotClosed}
use Rattle.owner_kinds.specs.KindTable.{row_of}
use Rattle.lifetime_laws.specs.Order.{releases_in_order}
use Rattle.lifetime_laws.proofs.Written.{kinds, the, buffer_pin, by, lost, doubled, changed, exchanged}
use Rattle.lifetime_laws.proofs.Transcripts.{pinned, sorted, merged, nested}

pub a_parents_item_before_a_childs : releases_in_order kinds (by 1 (exchanged 44 45 nested)) ≡ false
unfolding row_of
a_parents_item_before_a_childs = refl

pub oldest_item_first : releases_in_order kinds (by 1 (exchanged 25 26 sorted)) ≡ false
unfolding row_of
oldest_item_first = refl

pub the_lower_priority_first : releases_in_order kinds (by 1 (exchanged 26 27 sorted)) ≡ false
unfolding row_of
the_lower_priority_first = refl

pub an_extension_kind_before_its_place : releases_in_order kinds (by 1 (exchanged 27 28 sorted)) ≡ false
unfolding row_of
an_extension_kind_before_its_place = refl

pub a_lock_behind_the_last_phase : releases_in_order kinds (by 1 (exchanged 31 33 sorted)) ≡ false
unfolding row_of
a_lock_behind_the_last_phase = refl

pub an_item_that_comes_after_locks_before_one : releases_in_order kinds (by 1 (exchanged 31 32 sorted)) ≡ false
unfolding row_of
an_item_that_comes_after_locks_before_one = refl

pub an_item_that_comes_before_locks_behind_one : releases_in_order kinds (by 1 (exchanged 28 29 sorted)) ≡ false
unfolding row_of
an_item_that_comes_before_locks_behind_one = refl

pub the_greater_object_first : releases_in_order kinds (by 1 (exchanged 29 30 sorted)) ≡ false
unfolding row_of
the_greater_object_first = refl

pub the_stronger_mode_first : releases_in_order kinds (by 1 (exchanged 30 31 sorted)) ≡ false
unfolding row_of
the_stronger_mode_first = refl

pub a_lock_is_released_twice : releases_in_order kinds (by 1 (doubled 30 sorted)) ≡ false
unfolding row_of
a_lock_is_released_twice = refl

pub locks_pass_in_the_wrong_order : releases_in_order kinds (by 1 (exchanged 24 25 merged)) ≡ false
unfolding row_of
locks_pass_in_the_wrong_order = refl

pub the_locks_of_the_end_in_the_wrong_order : releases_in_order kinds (by 1 (exchanged 30 31 merged)) ≡ false
unfolding row_of
the_locks_of_the_end_in_the_wrong_order = refl

pub a_release_at_commit_not_behind_its_warning : releases_in_order kinds (by 1 (exchanged 8 9 pinned)) ≡ false
unfolding row_of
a_release_at_commit_not_behind_its_warning = refl

pub a_warning_whose_release_is_lost : releases_in_order kinds (by 1 (lost 9 pinned)) ≡ false
unfolding row_of
a_warning_whose_release_is_lost = refl

pub a_warning_of_another_item : releases_in_order kinds (by 1 (changed 8 (NotClosed (the buffer_pin 8 1) 1) pinned)) ≡ false
unfolding row_of
a_warning_of_another_item = refl

pub a_warning_of_another_owner : releases_in_order kinds (by 1 (changed 22 (NotClosed (the buffer_pin 1 1) 1) merged)) ≡ false
unfolding row_of
a_warning_of_another_owner = refl

pub a_warning_is_doubled : releases_in_order kinds (by 1 (doubled 20 merged)) ≡ false
unfolding row_of
a_warning_is_doubled = refl

pub the_newer_pin_released_behind_the_other_warning : releases_in_order kinds (by 1 (exchanged 21 23 merged)) ≡ false
unfolding row_of
the_newer_pin_released_behind_the_other_warning = refl

pub oldest_item_first_at_commit : releases_in_order kinds (by 1 (exchanged 20 22 (exchanged 21 23 merged))) ≡ false
unfolding row_of
oldest_item_first_at_commit = refl
