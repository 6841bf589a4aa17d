-- Lists in which the end of a level touches what is outside it.
use Rattle.std.proofs.Common.{◌≡◌, false, refl}
use Rattle.pgs_step.specs.declared.events.What.TheVariants.{AbortLevel, Reset, Delete, Move, Callback, MoveOwner, OwnerGone, Release, ReleaseLock, PassLock}
use Rattle.pgs_step.specs.declared.lock_modes.Mode.TheVariants.{AccessShareLock, ShareLock}
use Rattle.lifetime_laws.specs.Inside.{stays_inside}
use Rattle.lifetime_laws.proofs.Written.{the, buffer_pin, relcache_reference, by, changed, exchanged, moved}
use Rattle.lifetime_laws.proofs.Transcripts.{planned, nested}

pub an_abort_releases_the_outer_owners_pin : stays_inside (by 1 (changed 27 (Release (the buffer_pin 1 1) 1) nested)) ≡ false
an_abort_releases_the_outer_owners_pin = refl

pub an_abort_releases_the_outer_owners_lock : stays_inside (by 1 (changed 28 (ReleaseLock 3 AccessShareLock 1 1) nested)) ≡ false
an_abort_releases_the_outer_owners_lock = refl

pub an_abort_releases_for_the_outer_owner : stays_inside (by 1 (changed 27 (Release (the buffer_pin 2 4) 1) nested)) ≡ false
an_abort_releases_for_the_outer_owner = refl

pub an_abort_releases_for_the_outer_portal : stays_inside (by 1 (changed 27 (Release (the relcache_reference 3 2) 2) nested)) ≡ false
an_abort_releases_for_the_outer_portal = refl

pub an_abort_passes_locks_outside : stays_inside (by 1 (changed 28 (PassLock 5 ShareLock 1 3 1) nested)) ≡ false
an_abort_passes_locks_outside = refl

pub an_abort_lets_the_outer_owner_go : stays_inside (by 1 (changed 30 (OwnerGone 1) nested)) ≡ false
an_abort_lets_the_outer_owner_go = refl

pub an_abort_moves_an_owner_outside : stays_inside (by 1 (changed 30 (MoveOwner 3 2) nested)) ≡ false
an_abort_moves_an_owner_outside = refl

pub an_abort_deletes_the_outer_context : stays_inside (by 1 (changed 32 (Delete 6) nested)) ≡ false
an_abort_deletes_the_outer_context = refl

pub an_abort_deletes_the_outer_portals_context : stays_inside (by 1 (changed 32 (Delete 7) nested)) ≡ false
an_abort_deletes_the_outer_portals_context = refl

pub an_abort_deletes_below_the_outer_portals_context : stays_inside (by 1 (changed 32 (Delete 8) nested)) ≡ false
an_abort_deletes_below_the_outer_portals_context = refl

pub an_abort_resets_the_topmost_context : stays_inside (by 1 (changed 32 (Reset 1) nested)) ≡ false
an_abort_resets_the_topmost_context = refl

pub a_callback_of_an_outer_context : stays_inside (by 1 (changed 31 (Callback 1 6) nested)) ≡ false
a_callback_of_an_outer_context = refl

pub an_abort_moves_a_context_outside : stays_inside (by 1 (changed 32 (Move 10 6) nested)) ≡ false
an_abort_moves_a_context_outside = refl

pub the_context_goes_before_what_is_cleaned_up : stays_inside (by 1 (exchanged 26 33 nested)) ≡ false
the_context_goes_before_what_is_cleaned_up = refl

pub an_abort_of_another_level : stays_inside (by 1 (changed 42 (AbortLevel 2) nested)) ≡ false
an_abort_of_another_level = refl

pub a_level_whose_owner_is_made_late : stays_inside (by 1 (exchanged 36 37 nested)) ≡ false
a_level_whose_owner_is_made_late = refl

pub a_level_whose_context_is_made_late : stays_inside (by 1 (exchanged 15 16 nested)) ≡ false
a_level_whose_context_is_made_late = refl

pub an_abort_releases_what_the_outer_portal_holds : stays_inside (by 1 (moved 44 27 nested)) ≡ false
an_abort_releases_what_the_outer_portal_holds = refl

pub an_abort_ends_the_outer_portal : stays_inside (by 1 (moved 43 26 nested)) ≡ false
an_abort_ends_the_outer_portal = refl

pub a_plan_goes_that_is_not_let_go : stays_inside (by 1 (exchanged 22 23 planned)) ≡ false
a_plan_goes_that_is_not_let_go = refl

pub a_plan_goes_before_its_reference : stays_inside (by 1 (exchanged 21 22 planned)) ≡ false
a_plan_goes_before_its_reference = refl
