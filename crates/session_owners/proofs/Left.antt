-- What a release leaves of owners: what is counted still is, and behind all phases nothing is left.
use Rattle.session_owners.proofs.Base.{arith, ℕ, not, All-filter}
use Rattle.session_owners.proofs.Words.{Phase, BeforeLocks, Locks, AfterLocks, AllNodes, KindTable, IsSound, is_of_phase, Owner, OwnerTree, AllAt, HoldsNothing, own_released, HasItems, holds_nothing, released_swept, swept_by, swept_all, HoldsCounted, IsHeld, all_released}

pub items_left : (kinds : KindTable) (phase : Phase) (owner : Owner) → HoldsCounted owner → HoldsCounted (own_released kinds phase owner)
items_left kinds Locks owner h = h
items_left kinds BeforeLocks owner h = All-filter (λ item. not (is_of_phase kinds BeforeLocks item)) IsHeld owner.items h
items_left kinds AfterLocks owner h = All-filter (λ item. not (is_of_phase kinds AfterLocks item)) IsHeld owner.items h

-- the three phases leave nothing
pub nothing_left : (kinds : KindTable) (n : ℕ) (t : OwnerTree) → IsSound kinds → AllNodes (HasItems kinds) t → AllAt HoldsNothing n (all_released kinds n t)
nothing_left kinds n t sound h = grind (arith, released_swept kinds n t, swept_all (swept_by kinds) (HasItems kinds) HoldsNothing, swept_by kinds, holds_nothing kinds)
