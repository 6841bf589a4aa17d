-- Three phases leave no item and no lock.
use Rattle.std.proofs.Common.{◌≡◌, ◌≢◌, ◌⊎◌, ℕ, ◌+◌, ◌<◌, Bool, true, false, Option, Some, None, List, [], ◌∷◌, ◌++◌, length, slice_get, All, refl, sym, ap, ◌∙◌, inl, inr, arith, rules}
use Rattle.std.specs.Prelude.{zero, suc, ◌-◌, ◌↔◌, ◌==◌, ◌||◌, not, filter, unwrap_or}
use Rattle.std.specs.Option.{option_map}
use Rattle.std.proofs.lemmas.Bool.{cases_Bool, le-ltb, lt-ltb, ne_eqb, eq-eqb, or_parts, both_ways}
use Rattle.std.proofs.lemmas.List.Elements.{All-nil, All-cons, All-head, All-tail, All-filter}
use Rattle.pgs_step.specs.declared.ids.Item.{Item}
use Rattle.pgs_step.specs.declared.ids.Phase.{Phase}
use Rattle.pgs_step.specs.declared.ids.Phase.TheVariants.{BeforeLocks, Locks, AfterLocks}
use Rattle.forest.specs.Forest.{Empty, Node, Once, has, children, parent_of, is_above}
use Rattle.forest.proofs.Trees.{Apart, apart_of, Here, Below, Beside, where_is, at_some, at_absent, first_child_other}
use Rattle.forest.proofs.Moved.{below_parent, below_below}
use Rattle.forest.proofs.Walks.{once_children}
use Rattle.owner_kinds.specs.KindTable.{KindTable, IsKind, built_in_rows, row_of, IsSound}
use Rattle.owner_kinds.specs.Place.{IsPlace}
use Rattle.owner_kinds.specs.declared.kind_row.KindRow.{KindRow}
use Rattle.owner_items.specs.Next.{is_of_phase, is_phase}
use Rattle.owner_core.specs.Owners.{Owner, OwnerTree, AllAt, HoldsNothing, items_of}
use Rattle.owner_core.specs.Phases.{HasKinds, all_released, may_lock, may_lock_behind}
use Rattle.owner_core.specs.Released.{own_released, released}
use Rattle.owner_core.specs.Steps.{Step, ReleasesAllLocks, lock_step, steps_below, release_steps}
use Rattle.owner_core.proofs.Swept.{all_from}
use Rattle.std.proofs.lemmas.Bool.Decides.{nat_tests}

-- the kinds of a row of kinds, of which none is released with the locks
abbrev in_phase : Phase → Option KindRow → Bool
in_phase phase o = unwrap_or (option_map (is_phase phase) (option_map (λ r. r.phase) o)) false

last_phase : (phase : Phase) → phase ≢ Locks → is_phase BeforeLocks phase ≡ false → is_phase AfterLocks phase ≡ true
last_phase x0 other e = grind (arith, nat_tests)

last_of_rows : (rows : List KindRow) (i : ℕ) → All IsPlace rows → i < length rows → in_phase BeforeLocks (slice_get rows i) ≡ false → in_phase AfterLocks (slice_get rows i) ≡ true
last_of_rows [] i places within e = absurd (omega arith)
last_of_rows (r ∷ rs) zero places within e = last_phase r.phase (All-head IsPlace r rs places).0 e
last_of_rows (r ∷ rs) (suc i) places within e = last_of_rows rs i (All-tail IsPlace r rs places) (omega arith) e

built_in_places : All IsPlace built_in_rows
built_in_places = search rules

-- an item that isn't released before the locks is released behind them
late : (kinds : KindTable) (key serial k : ℕ) → IsSound kinds → IsKind kinds (record { 0 = k })
    → is_of_phase kinds BeforeLocks (record { kind = record { 0 = k }; key = key; serial = serial }) ≡ false
    → is_of_phase kinds AfterLocks (record { kind = record { 0 = k }; key = key; serial = serial }) ≡ true
unfolding row_of
late kinds key serial k sound is e = grind (arith, nat_tests, lt-ltb k 16, ne_eqb k 0, last_of_rows built_in_rows (k - 1) built_in_places, last_of_rows kinds.rows (k - 16) sound.places, built_in_places, le-ltb k 16)

abbrev IsLate : KindTable → Item → Type 0
IsLate kinds item = is_of_phase kinds AfterLocks item ≡ true

module _ (kinds : KindTable) where
  before_left : (items : List Item) → IsSound kinds → All (λ item. IsKind kinds item.kind) items → All (IsLate kinds) (filter (λ item. not (is_of_phase kinds BeforeLocks item)) items)
  before_left [] sound all = All-nil (IsLate kinds)
  before_left (item ∷ items) sound all =
      let rest = before_left items sound (All-tail (λ (x : Item). IsKind kinds x.kind) item items all) in
      elim (cases_Bool (is_of_phase kinds BeforeLocks item)) [
        | inl y ↦ rw y rest
        | inr y ↦ rw y (All-cons (IsLate kinds) item _ (late kinds item.key item.serial item.kind.0 sound (All-head (λ (x : Item). IsKind kinds x.kind) item items all) y) rest)
      ]

  after_left : (items : List Item) → All (IsLate kinds) items → filter (λ item. not (is_of_phase kinds AfterLocks item)) items ≡ []
  after_left [] all = refl
  after_left (item ∷ items) all = grind (arith, nat_tests, All-head (IsLate kinds) item items all, after_left items (All-tail (IsLate kinds) item items all), All-tail (IsLate kinds) item items all)

  abbrev Late : Owner → Type 0
  Late owner = All (IsLate kinds) owner.items

  pub nothing_left : (n : ℕ) (owners : OwnerTree) → IsSound kinds → AllAt (HasKinds kinds) n owners → AllAt HoldsNothing n (all_released kinds n owners)
  nothing_left n owners sound all =
      let one : AllAt Late n (released kinds BeforeLocks n owners) = all_from (HasKinds kinds) Late (own_released kinds BeforeLocks) (λ o h. before_left o.items sound h) n owners all in
      let two : AllAt Late n (released kinds Locks n (released kinds BeforeLocks n owners)) = all_from Late Late (own_released kinds Locks) (λ o h. h) n (released kinds BeforeLocks n owners) one in
      all_from Late HoldsNothing (own_released kinds AfterLocks) (λ o h. after_left o.items h) n (released kinds Locks n (released kinds BeforeLocks n owners)) two

  -- each phase leaves items of known kinds
  phase_kinds : (phase : Phase) (owner : Owner) → HasKinds kinds owner → HasKinds kinds (own_released kinds phase owner)
  phase_kinds Locks owner h = h
  phase_kinds BeforeLocks owner h = All-filter (λ item. not (is_of_phase kinds BeforeLocks item)) (λ item. IsKind kinds item.kind) owner.items h
  phase_kinds AfterLocks owner h = All-filter (λ item. not (is_of_phase kinds AfterLocks item)) (λ item. IsKind kinds item.kind) owner.items h

  pub still_kinds : (phase : Phase) (n : ℕ) (owners : OwnerTree) → AllAt (HasKinds kinds) n owners → AllAt (HasKinds kinds) n (released kinds phase n owners)
  still_kinds phase n owners all = all_from (HasKinds kinds) (HasKinds kinds) (own_released kinds phase) (phase_kinds phase) n owners all

pub own_nothing : (n : ℕ) (owners : OwnerTree) → AllAt HoldsNothing n owners → items_of n owners ≡ []
own_nothing n owners all = grind (arith, nat_tests, cases_Bool (has n owners), at_some n owners, at_absent n owners)

module _ (m : ℕ) where
  behind_more : (xs ys : List Step) (before : Bool) → may_lock_behind m before (xs ++ ys) ≡ may_lock_behind m (may_lock_behind m before xs) ys
  behind_more [] ys before = refl
  behind_more (x ∷ xs) ys before = behind_more xs ys (may_lock m before x)

  -- an owner's own step leaves it without locks, and one that isn't its child's gives it none
  own_step : (commit : Bool) (n parent : ℕ) (before : Bool) → n ≡ m → may_lock m before (lock_step commit n parent) ≡ false
  own_step x0 n parent before e = grind (arith, nat_tests)

  other_step : (commit : Bool) (n parent : ℕ) → parent ≢ m → may_lock m false (lock_step commit n parent) ≡ false
  other_step x0 n parent ne = grind (arith, nat_tests)

  module _ (kinds : KindTable) (commit : Bool) where
    abbrev steps : ℕ → OwnerTree → List Step
    steps up t = steps_below kinds Locks commit false up t

    -- the steps of a node's subtree, of the node, and of those beside it
    parts : (up n : ℕ) (below beside : OwnerTree) (before : Bool)
        → may_lock_behind m before (steps n below ++ (lock_step commit n up ∷ steps up beside)) ≡ may_lock_behind m (may_lock m (may_lock_behind m before (steps n below)) (lock_step commit n up)) (steps up beside)
    parts up n below beside before = behind_more (steps n below) (lock_step commit n up ∷ steps up beside) before

    others : (up : ℕ) (t : OwnerTree) → up ≢ m → has m t ≡ false → may_lock_behind m false (steps up t) ≡ false
    others up Empty ne h = refl
    others up (Node k a below beside) ne h =
        let p = or_parts (k == m) (has m below || has m beside) h in
        let q = or_parts (has m below) (has m beside) p.1 in
        let apart : k ≢ m = λ e. both_ways (k == m) p.0 (eq-eqb k m e) in
        parts up k below beside false
        ∙ rw (others k below apart q.0, other_step commit k up ne) (others up beside ne q.1)

    inside : (up : ℕ) (t : OwnerTree) (before : Bool) → Once t → up ≢ m → has m t ≡ true → may_lock_behind m before (steps up t) ≡ false
    inside up Empty before o ne h = absurd (cc)
    inside up (Node k a below beside) before o ne h =
        let apart : Apart k below beside = apart_of k a below beside o in
        elim (where_is m k a below beside o h) [
          | Here e y u v ↦
              parts up k below beside before
              ∙ rw (own_step commit k up (may_lock_behind m before (steps k below)) e) (others up beside ne v)
          | Below other y u v ↦
              parts up k below beside before
              ∙ rw (inside k below before apart.once_below other u, other_step commit k up ne) (others up beside ne v)
          | Beside other y u v ↦
              parts up k below beside before
              ∙ inside up beside (may_lock m (may_lock_behind m before (steps k below)) (lock_step commit k up)) apart.once_beside ne v
        ]

with_parent : (o : Option ℕ) → (false ≡ true) ↔ (o ≡ None) → (p : ℕ) × (o ≡ Some p)
with_parent x0 top = grind (arith, nat_tests, top.1)

-- no owner is below itself
not_inside : (n m : ℕ) (owners : OwnerTree) → Once owners → has n owners ≡ true → has m (children n owners) ≡ true → n ≢ m
not_inside n m owners once stands inside e = grind (arith, nat_tests, both_ways (has m (children n owners)), first_child_other n owners once stands)

pub no_lock : (kinds : KindTable) (commit top : Bool) (n m : ℕ) (owners : OwnerTree) → Once owners → has n owners ≡ true → (top ≡ true) ↔ (parent_of n owners ≡ None) → (m ≡ n) ⊎ (is_above n m owners ≡ true)
    → (before : Bool) → may_lock_behind m before (release_steps kinds Locks commit top n owners) ≡ false
no_lock kinds commit true n m owners once stands top within before = grind (arith, nat_tests, at_some n owners stands, behind_more m (steps_below kinds Locks commit true n (children n owners)) (ReleasesAllLocks n ∷ []) before)
no_lock kinds commit false n m owners once stands top within before =
    let w = at_some n owners stands in
    let up = with_parent (parent_of n owners) top in
    let p : ℕ = up.0 in
    let above : has n (children p owners) ≡ true = below_parent n p owners once up.1 in
    let below : OwnerTree = children n owners in
    let own : has n below ≡ false = first_child_other n owners once stands in
    let outside : has p below ≡ true → ⊥ = λ i. both_ways (has n below) own (below_below n p n owners once above i) in
    let all : may_lock_behind m before (steps_below kinds Locks commit false n below ++ (lock_step commit n p ∷ [])) ≡ false =
    behind_more m (steps_below kinds Locks commit false n below) (lock_step commit n p ∷ []) before
    ∙ elim within [
      | inl e ↦ own_step m commit n p (may_lock_behind m before (steps_below kinds Locks commit false n below)) (sym e)
      | inr i ↦
          rw (inside m kinds commit n below before (once_children n owners once) (not_inside n m owners once stands i) i)
          (other_step m commit n p (λ e. outside (ap (λ (x : ℕ). has x below) e ∙ i)))
    ] in
    rw (w.1, up.1) all
