-- Lists in which a resource is not released exactly once.
use Rattle.std.proofs.Common.{◌≡◌, false, refl}
use Rattle.pgs_step.specs.declared.events.What.TheVariants.{Release, ReleaseLock, DescriptorClosed, Pop}
use Rattle.pgs_step.specs.declared.lock_modes.Mode.TheVariants.{AccessShareLock, ShareLock}
use Rattle.lifetime_laws.specs.Once.{releases_once}
use Rattle.lifetime_laws.proofs.Written.{the, buffer_pin, relcache_reference, by, lost, doubled, changed, exchanged}
use Rattle.lifetime_laws.proofs.Transcripts.{pinned, sorted, merged, stacked, nested}

pub a_release_is_lost : releases_once 1 (by 1 (lost 9 pinned)) ≡ false
a_release_is_lost = refl

pub a_release_is_doubled : releases_once 1 (by 1 (doubled 9 pinned)) ≡ false
a_release_is_doubled = refl

pub an_acquire_is_lost : releases_once 1 (by 1 (lost 5 pinned)) ≡ false
an_acquire_is_lost = refl

pub an_acquire_is_doubled : releases_once 1 (by 1 (doubled 5 pinned)) ≡ false
an_acquire_is_doubled = refl

pub a_release_for_the_wrong_owner : releases_once 1 (by 1 (changed 23 (Release (the buffer_pin 1 1) 1) merged)) ≡ false
a_release_for_the_wrong_owner = refl

pub a_release_of_the_wrong_key : releases_once 1 (by 1 (changed 9 (Release (the buffer_pin 8 1) 1) pinned)) ≡ false
a_release_of_the_wrong_key = refl

pub a_release_of_the_wrong_kind : releases_once 1 (by 1 (changed 9 (Release (the relcache_reference 7 1) 1) pinned)) ≡ false
a_release_of_the_wrong_kind = refl

pub a_release_of_the_wrong_serial : releases_once 1 (by 1 (changed 9 (Release (the buffer_pin 7 2) 1) pinned)) ≡ false
a_release_of_the_wrong_serial = refl

pub a_release_before_its_acquire : releases_once 1 (by 1 (exchanged 5 9 pinned)) ≡ false
a_release_before_its_acquire = refl

pub items_out_of_number : releases_once 1 (by 1 (exchanged 5 7 sorted)) ≡ false
items_out_of_number = refl

pub a_locks_count_is_one_short : releases_once 1 (by 1 (changed 30 (ReleaseLock 5 AccessShareLock 1 1) merged)) ≡ false
a_locks_count_is_one_short = refl

pub a_locks_count_is_one_over : releases_once 1 (by 1 (changed 31 (ReleaseLock 6 ShareLock 2 1) merged)) ≡ false
a_locks_count_is_one_over = refl

pub a_locks_release_is_lost : releases_once 1 (by 1 (lost 29 sorted)) ≡ false
a_locks_release_is_lost = refl

pub a_locks_release_is_doubled : releases_once 1 (by 1 (doubled 29 sorted)) ≡ false
a_locks_release_is_doubled = refl

pub a_lock_of_another_mode_is_released : releases_once 1 (by 1 (changed 29 (ReleaseLock 4 AccessShareLock 1 1) sorted)) ≡ false
a_lock_of_another_mode_is_released = refl

pub a_lock_on_another_object_is_released : releases_once 1 (by 1 (changed 29 (ReleaseLock 6 ShareLock 1 1) sorted)) ≡ false
a_lock_on_another_object_is_released = refl

pub a_lock_is_released_before_it_is_acquired : releases_once 1 (by 1 (exchanged 20 29 sorted)) ≡ false
a_lock_is_released_before_it_is_acquired = refl

pub a_descriptor_is_opened_twice : releases_once 1 (by 1 (doubled 11 sorted)) ≡ false
a_descriptor_is_opened_twice = refl

pub a_descriptor_is_not_closed : releases_once 1 (by 1 (lost 34 sorted)) ≡ false
a_descriptor_is_not_closed = refl

pub a_descriptor_is_closed_before_it_is_opened : releases_once 1 (by 1 (exchanged 11 34 sorted)) ≡ false
a_descriptor_is_closed_before_it_is_opened = refl

pub a_descriptor_of_another_file_is_closed : releases_once 1 (by 1 (changed 34 (DescriptorClosed 4) sorted)) ≡ false
a_descriptor_of_another_file_is_closed = refl

pub a_pop_of_the_older_push : releases_once 1 (by 1 (changed 9 (Pop 4) stacked)) ≡ false
a_pop_of_the_older_push = refl

pub pops_oldest_first : releases_once 1 (by 1 (exchanged 14 15 stacked)) ≡ false
pops_oldest_first = refl

pub a_pop_is_lost : releases_once 1 (by 1 (lost 15 stacked)) ≡ false
a_pop_is_lost = refl

pub a_pop_is_doubled : releases_once 1 (by 1 (doubled 9 stacked)) ≡ false
a_pop_is_doubled = refl

pub an_owner_gone_with_a_child : releases_once 1 (by 1 (exchanged 50 51 nested)) ≡ false
an_owner_gone_with_a_child = refl

pub an_owner_that_stays : releases_once 1 (by 1 (lost 10 pinned)) ≡ false
an_owner_that_stays = refl

pub an_owner_gone_twice : releases_once 1 (by 1 (doubled 10 pinned)) ≡ false
an_owner_gone_twice = refl

pub a_context_gone_with_a_child : releases_once 1 (by 1 (exchanged 32 33 nested)) ≡ false
a_context_gone_with_a_child = refl

pub a_context_that_stays : releases_once 1 (by 1 (lost 11 pinned)) ≡ false
a_context_that_stays = refl

pub a_context_gone_twice : releases_once 1 (by 1 (doubled 11 pinned)) ≡ false
a_context_gone_twice = refl

pub the_cache_context_stays_at_exit : releases_once 1 (by 1 (lost 15 pinned)) ≡ false
the_cache_context_stays_at_exit = refl

pub an_event_behind_the_exit : releases_once 1 (by 1 (exchanged 17 18 pinned)) ≡ false
an_event_behind_the_exit = refl

pub no_exit : releases_once 1 (by 1 (lost 18 pinned)) ≡ false
no_exit = refl

pub two_exits : releases_once 1 (by 1 (doubled 18 pinned)) ≡ false
two_exits = refl
