-- What a release leaves: the owners without their items, and of all else only what tables count.
use Rattle.session_rules.proofs.Base.{◌≡◌, ◌≢◌, ℕ, ◌<◌, ◌≤◌, Bool, true, false, Option, List, [], ◌∷◌, length, slice_get, All, refl, arith, zero, suc, ◌-◌, not, filter, unwrap_or, if◌then◌else◌, option_map, cases_Bool, le-ltb, lt-ltb, ne_eqb, All-nil, All-head, All-tail, All-filter, nat_tests}
use Rattle.session_rules.proofs.Below.{Item, Phase, BeforeLocks, Locks, AfterLocks, swept, Kind, Owner, OwnerTree, HoldsNothing, own_released, released, IsSound, sound_released, Lock, KindTable, built_in_rows, row_of, IsSoundTable, IsPlace, KindRow, is_of_phase, is_phase}
use Rattle.session_rules.proofs.Rules.{Scene, HasItems, IsItem}
use Rattle.session_rules.proofs.Swept.{both_swept}

-- what tables count besides owners
pub record Tables : Type 0 where
  pub locks : List Lock
  pub recent : List ℕ
  pub kinds : List Kind

abbrev pub tabled : Tables → Scene → Scene
tabled x scene = record {
  session = record scene.session { locks = x.locks; recent = x.recent };
  around = record scene.around { kinds = x.kinds };
}

abbrev pub tables_of : Scene → Tables
tables_of scene = record { locks = scene.session.locks; recent = scene.session.recent; kinds = scene.around.kinds }

abbrev pub with_owners : OwnerTree → Scene → Scene
with_owners owners scene = record scene { session = record scene.session { owners = owners } }

-- what the three phases leave of an owner
abbrev pub swept_by : KindTable → Owner → Owner
swept_by kinds owner = own_released kinds AfterLocks (own_released kinds Locks (own_released kinds BeforeLocks owner))

-- an owner with all below it went through the three phases
pub record HasSwept (kinds : KindTable) (p : ℕ) (owners now : OwnerTree) : Type 0 where
  pub is : now ≡ swept (swept_by kinds) p owners
  pub phases : now ≡ released kinds AfterLocks p (released kinds Locks p (released kinds BeforeLocks p owners))

-- the three phases as one
pub released_swept : (kinds : KindTable) (p : ℕ) (owners : OwnerTree)
    → released kinds AfterLocks p (released kinds Locks p (released kinds BeforeLocks p owners)) ≡ swept (swept_by kinds) p owners
released_swept kinds p owners = grind (arith, nat_tests, both_swept (own_released kinds BeforeLocks) (own_released kinds Locks) p owners, both_swept)

-- what isn't released before the locks is released behind them
abbrev IsLast : KindTable → ℕ → ℕ → ℕ → Type 0
IsLast kinds key serial k =
    is_of_phase kinds BeforeLocks (record { kind = record { 0 = k }; key = key; serial = serial }) ≡ false
    → is_of_phase kinds AfterLocks (record { kind = record { 0 = k }; key = key; serial = serial }) ≡ true

-- the rows of no kind are released with the locks
abbrev in_phase : Phase → Option KindRow → Bool
in_phase phase o = unwrap_or (option_map (is_phase phase) (option_map (λ r. r.phase) o)) false

last_phase : (phase : Phase) → phase ≢ Locks → is_phase BeforeLocks phase ≡ false → is_phase AfterLocks phase ≡ true
last_phase phase other e = grind (arith, nat_tests)

last_of_rows : (rows : List KindRow) (i : ℕ) → All IsPlace rows → i < length rows → in_phase BeforeLocks (slice_get rows i) ≡ false → in_phase AfterLocks (slice_get rows i) ≡ true
last_of_rows [] i places within e = absurd (omega arith)
last_of_rows (r ∷ rs) zero places within e = last_phase r.phase (All-head IsPlace r rs places).0 e
last_of_rows (r ∷ rs) (suc i) places within e = last_of_rows rs i (All-tail IsPlace r rs places) (omega arith) e

-- the kinds that are built in, by their rows, however many there are
abbrev are_apart : List KindRow → Bool
are_apart [] = true
are_apart (r ∷ rs) = if is_phase Locks r.phase then false else are_apart rs

own_last : (phase : Phase) (rest : Bool) → (if is_phase Locks phase then false else rest) ≡ true → is_phase BeforeLocks phase ≡ false → is_phase AfterLocks phase ≡ true
own_last phase rest apart e = grind (arith, nat_tests)

rest_apart : (phase : Phase) (rest : Bool) → (if is_phase Locks phase then false else rest) ≡ true → rest ≡ true
rest_apart phase rest apart = grind (arith, nat_tests)

last_of_own : (rows : List KindRow) (i : ℕ) → are_apart rows ≡ true → i < length rows → in_phase BeforeLocks (slice_get rows i) ≡ false → in_phase AfterLocks (slice_get rows i) ≡ true
last_of_own [] i apart within e = absurd (omega arith)
last_of_own (r ∷ rs) zero apart within e = own_last r.phase (are_apart rs) apart e
last_of_own (r ∷ rs) (suc i) apart within e = last_of_own rs i (rest_apart r.phase (are_apart rs) apart) (omega arith) e

last_of_built_in : (kinds : KindTable) (key serial k : ℕ) → 1 ≤ k → k ≤ length built_in_rows → IsLast kinds key serial k
unfolding row_of
last_of_built_in kinds key serial k l u = grind (arith, nat_tests, lt-ltb k 16, ne_eqb k 0, last_of_own built_in_rows (k - 1) refl)

last_of_kinds : (kinds : KindTable) (key serial k : ℕ) → IsSoundTable kinds → 16 ≤ k → k - 16 < length kinds.rows → IsLast kinds key serial k
unfolding row_of
last_of_kinds kinds key serial k sound high within = rw (le-ltb k 16 high) (last_of_rows kinds.rows (k - 16) sound.places within)

released_last : (kinds : KindTable) (item : Item) → IsSoundTable kinds → IsItem kinds item → is_of_phase kinds BeforeLocks item ≡ false → is_of_phase kinds AfterLocks item ≡ true
released_last kinds item sound is e = grind (arith, nat_tests, last_of_built_in kinds item.key item.serial item.kind.0, last_of_kinds kinds item.key item.serial item.kind.0 sound)

none_left : (kinds : KindTable) (items : List Item) → IsSoundTable kinds → All (IsItem kinds) items
    → filter (λ item. not (is_of_phase kinds AfterLocks item)) (filter (λ item. not (is_of_phase kinds BeforeLocks item)) items) ≡ []
none_left kinds [] sound h = refl
none_left kinds (item ∷ items) sound h = grind (arith, nat_tests, none_left kinds items sound (All-tail (IsItem kinds) item items h), cases_Bool (is_of_phase kinds BeforeLocks item), released_last kinds item sound (All-head (IsItem kinds) item items h))

pub holds_nothing : (kinds : KindTable) (owner : Owner) → IsSoundTable kinds → HasItems kinds owner → HoldsNothing (swept_by kinds owner)
holds_nothing kinds owner sound h = none_left kinds owner.items sound h

pub still_items : (kinds : KindTable) (owner : Owner) → IsSoundTable kinds → HasItems kinds owner → HasItems kinds (swept_by kinds owner)
still_items kinds owner sound h = rw (none_left kinds owner.items sound h) (All-nil (IsItem kinds))

-- each phase leaves known items
pub phase_items : (kinds : KindTable) (phase : Phase) (owner : Owner) → HasItems kinds owner → HasItems kinds (own_released kinds phase owner)
phase_items kinds Locks owner h = h
phase_items kinds BeforeLocks owner h = All-filter (λ item. not (is_of_phase kinds BeforeLocks item)) (IsItem kinds) owner.items h
phase_items kinds AfterLocks owner h = All-filter (λ item. not (is_of_phase kinds AfterLocks item)) (IsItem kinds) owner.items h

pub still_sound : (kinds : KindTable) (p : ℕ) (owners now : OwnerTree) (next_owner next_serial : ℕ) → HasSwept kinds p owners now → IsSound owners next_owner next_serial → IsSound now next_owner next_serial
still_sound kinds p owners now next_owner next_serial s h = grind (arith, nat_tests, sound_released kinds AfterLocks p (released kinds Locks p (released kinds BeforeLocks p owners)) next_owner next_serial, sound_released kinds Locks p (released kinds BeforeLocks p owners) next_owner next_serial, sound_released kinds BeforeLocks p owners next_owner next_serial h)
