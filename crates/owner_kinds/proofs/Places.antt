-- What a change of one kind does to the kinds.
use Rattle.std.proofs.Common.{◌≡◌, ℕ, ◌+◌, ◌-◌, ◌<◌, ◌≤◌, zero, suc, List, [], ◌∷◌, length, map, All, set, get_or, slice_get, refl, sym, ◌∙◌, ap, subst, arith, cond, ◌==◌, ◌&&◌, inl, inr, IfSome, Result, Ok, Err, OnOk, OnErr}
use Rattle.std.proofs.lemmas.List.{length-map}
use Rattle.std.proofs.lemmas.Bool.{cases_lt}
use Rattle.std.proofs.lemmas.Bool.Decides.{nat_tests}
use Rattle.pgs_step.specs.declared.ids.KindId.{KindId}
use Rattle.owner_kinds.specs.Kind.{Kind, times, opened, closed, changed_at}
use Rattle.owner_kinds.specs.KindShelf.{table_of, times_in, times_held, one_at, IsShelf}
use Rattle.owner_kinds.specs.KindTable.{IsSound, row}
use Rattle.owner_kinds.specs.Different.{AreDifferent}
use Rattle.owner_kinds.specs.Place.{IsPlace}
use Rattle.owner_kinds.specs.declared.kind_row.KindRow.{KindRow}
use Rattle.owner_kinds.proofs.Keys.{times-with_key, times-without_key}

pub changed_place :
    {B : Type 0} (xs : List B) (i : ℕ) (x y : B) (change : Kind → Kind) (meaning : B → Kind) →
    i < length xs → x ≡ get_or xs i x → meaning y ≡ change (meaning x) →
    map meaning (set xs i y) ≡ changed_at i change (map meaning xs)
changed_place [] i x y change meaning within is changed = absurd (omega arith)
changed_place (z ∷ zs) zero x y change meaning within is changed =
    ap (λ k. k ∷ map meaning zs) (changed ∙ ap (λ k. change (meaning k)) is)
changed_place (z ∷ zs) (suc i) x y change meaning within is changed =
    ap (λ ks. meaning z ∷ ks) (changed_place zs i x y change meaning (omega arith) is changed)

pub same_place :
    {B : Type 0} (xs : List B) (i : ℕ) (x y : B) (meaning : B → Kind) →
    x ≡ get_or xs i x → meaning y ≡ meaning x →
    map meaning (set xs i y) ≡ map meaning xs
same_place [] i x y meaning is same = refl
same_place (z ∷ zs) zero x y meaning is same = ap (λ k. k ∷ map meaning zs) (same ∙ ap meaning is)
same_place (z ∷ zs) (suc i) x y meaning is same = ap (λ ks. meaning z ∷ ks) (same_place zs i x y meaning is same)

-- what is true of the kind at a place, and what is said of the list there
pub at_place :
    {B : Type 0} (xs : List B) (i : ℕ) (x : B) (meaning : B → Kind) (P : Kind → Type 0) →
    i < length xs → x ≡ get_or xs i x → P (meaning x) → IfSome (slice_get (map meaning xs) i) P
at_place [] i x meaning P within is holds = absurd (omega arith)
at_place (z ∷ zs) zero x meaning P within is holds = subst (λ b. P (meaning b)) is holds
at_place (z ∷ zs) (suc i) x meaning P within is holds = at_place zs i x meaning P (omega arith) is holds

pub from_place :
    {B : Type 0} (xs : List B) (i : ℕ) (x : B) (meaning : B → Kind) (P : Kind → Type 0) →
    i < length xs → x ≡ get_or xs i x → IfSome (slice_get (map meaning xs) i) P → P (meaning x)
from_place [] i x meaning P within is holds = absurd (omega arith)
from_place (z ∷ zs) zero x meaning P within is holds = subst (λ b. P (meaning b)) (sym is) holds
from_place (z ∷ zs) (suc i) x meaning P within is holds = from_place zs i x meaning P (omega arith) is holds

pub on_ok : {T E : Type 0} (r : Result T E) {P Q : Type 0} → OnOk r P → (P → Q) → OnOk r Q
on_ok (Ok x) holds more = more holds
on_ok (Err e) holds more = tt

pub on_err : {T E : Type 0} (r : Result T E) {P Q : Type 0} → OnErr r P → (P → Q) → OnErr r Q
on_err (Ok x) holds more = tt
on_err (Err e) holds more = more holds

pub on_either : {T E : Type 0} (r : Result T E) {P Q R : Type 0} → OnOk r P → OnErr r Q → (P → R) → (Q → R) → R
on_either (Ok x) ok err if_ok if_err = if_ok ok
on_either (Err e) ok err if_ok if_err = if_err err

-- a change that leaves names and places in the phase leaves the table
names_kept :
    (kinds : List Kind) (i : ℕ) (change : Kind → Kind) → ((k : Kind) → (change k).name ≡ k.name) →
    map (λ k. k.name) (changed_at i change kinds) ≡ map (λ k. k.name) kinds
names_kept [] i change same = refl
names_kept (k ∷ ks) zero change same = ap (λ n. n ∷ map (λ k. k.name) ks) (same k)
names_kept (k ∷ ks) (suc i) change same = ap (λ ns. k.name ∷ ns) (names_kept ks i change same)

rows_kept :
    (kinds : List Kind) (i : ℕ) (change : Kind → Kind) → ((k : Kind) → row (change k).phase (change k).priority ≡ row k.phase k.priority) →
    map (λ k. row k.phase k.priority) (changed_at i change kinds) ≡ map (λ k. row k.phase k.priority) kinds
rows_kept [] i change same = refl
rows_kept (k ∷ ks) zero change same = ap (λ n. n ∷ map (λ k. row k.phase k.priority) ks) (same k)
rows_kept (k ∷ ks) (suc i) change same = ap (λ ns. row k.phase k.priority ∷ ns) (rows_kept ks i change same)

pub table-opened : (kinds : List Kind) (i key : ℕ) → table_of (changed_at i (opened key) kinds) ≡ table_of kinds
table-opened kinds i key =
    let names : map (λ k. k.name) (changed_at i (opened key) kinds) ≡ map (λ k. k.name) kinds = names_kept kinds i (opened key) (λ k. refl) in
    let rows : map (λ k. row k.phase k.priority) (changed_at i (opened key) kinds) ≡ map (λ k. row k.phase k.priority) kinds = rows_kept kinds i (opened key) (λ k. refl) in
    cc

pub table-closed : (kinds : List Kind) (i key : ℕ) → table_of (changed_at i (closed key) kinds) ≡ table_of kinds
table-closed kinds i key =
    let names : map (λ k. k.name) (changed_at i (closed key) kinds) ≡ map (λ k. k.name) kinds = names_kept kinds i (closed key) (λ k. refl) in
    let rows : map (λ k. row k.phase k.priority) (changed_at i (closed key) kinds) ≡ map (λ k. row k.phase k.priority) kinds = rows_kept kinds i (closed key) (λ k. refl) in
    cc

-- how often the kind at a place holds a key
times_at : List Kind → ℕ → ℕ → ℕ
times_at kinds i q = times_in q (slice_get kinds i)

times_at-opened :
    (kinds : List Kind) (i key j q : ℕ) → i < length kinds →
    times_at (changed_at i (opened key) kinds) j q ≡ times_at kinds j q + cond ((j == i) && (q == key)) 1 0
unfolding times_at
times_at-opened [] i key j q within = absurd (omega arith)
times_at-opened (k ∷ ks) zero key zero q within = grind (arith, nat_tests, times-with_key q key k.held)
times_at-opened (k ∷ ks) zero key (suc j) q within = grind (arith, nat_tests)
times_at-opened (k ∷ ks) (suc i) key zero q within = grind (arith, nat_tests)
times_at-opened (k ∷ ks) (suc i) key (suc j) q within = grind (arith, nat_tests, times_at-opened ks i key j q)

times_at-closed :
    (kinds : List Kind) (i key j q : ℕ) → 1 ≤ times_at kinds i key →
    times_at (changed_at i (closed key) kinds) j q + cond ((j == i) && (q == key)) 1 0 ≡ times_at kinds j q
unfolding times_at
times_at-closed [] i key j q held = absurd (omega arith)
times_at-closed (k ∷ ks) zero key zero q held = grind (arith, nat_tests, times-without_key q key k.held)
times_at-closed (k ∷ ks) zero key (suc j) q held = grind (arith, nat_tests)
times_at-closed (k ∷ ks) (suc i) key zero q held = grind (arith, nat_tests)
times_at-closed (k ∷ ks) (suc i) key (suc j) q held = grind (arith, nat_tests, times_at-closed ks i key j q)

times_held-low : (kinds : List Kind) (kind : KindId) (q : ℕ) → kind.0 < 16 → times_held kinds kind q ≡ 0
unfolding times_held
times_held-low kinds kind q low = grind (arith, nat_tests)

times_held-at : (kinds : List Kind) (kind : KindId) (q : ℕ) → 16 ≤ kind.0 → times_held kinds kind q ≡ times_at kinds (kind.0 - 16) q
unfolding times_held times_at
times_held-at kinds kind q high = grind (arith, nat_tests)

-- a key is held by an extension kind
pub held-from : (kinds : List Kind) (kind : KindId) (q : ℕ) → 1 ≤ times_held kinds kind q → 16 ≤ kind.0
held-from kinds kind q held =
    let low : kind.0 < 16 → times_held kinds kind q ≡ 0 = times_held-low kinds kind q in
    grind (arith, low, held)

within_of : (kinds : List Kind) (i q : ℕ) → 1 ≤ times_at kinds i q → i < length kinds
unfolding times_at
within_of [] i q held = absurd (omega arith)
within_of (k ∷ ks) zero q held = omega arith
within_of (k ∷ ks) (suc i) q held = omega (arith, within_of ks i q held)

pub held-within : (kinds : List Kind) (kind : KindId) (q : ℕ) → 1 ≤ times_held kinds kind q → kind.0 - 16 < length kinds
held-within kinds kind q held =
    within_of kinds (kind.0 - 16) q (rw (times_held-at kinds kind q (held-from kinds kind q held)) at held)

times_at-place :
    {B : Type 0} (xs : List B) (i q : ℕ) (x : B) (meaning : B → Kind) → i < length xs → x ≡ get_or xs i x →
    times_at (map meaning xs) i q ≡ times q (meaning x).held
unfolding times_at
times_at-place [] i q x meaning within is = absurd (omega arith)
times_at-place (z ∷ zs) zero q x meaning within is = ap (λ b. times q (meaning b).held) (sym is)
times_at-place (z ∷ zs) (suc i) q x meaning within is = times_at-place zs i q x meaning (omega arith) is

pub held-at :
    {B : Type 0} (xs : List B) (kind : KindId) (q : ℕ) (x : B) (meaning : B → Kind) →
    kind.0 - 16 < length xs → x ≡ get_or xs (kind.0 - 16) x → 1 ≤ times_held (map meaning xs) kind q →
    1 ≤ times q (meaning x).held
held-at xs kind q x meaning within is held =
    let high : 16 ≤ kind.0 = held-from (map meaning xs) kind q held in
    omega (arith, times_held-at (map meaning xs) kind q high, times_at-place xs (kind.0 - 16) q x meaning within is)

one_at-high : (a b : KindId) (q key : ℕ) → 16 ≤ a.0 → 16 ≤ b.0 → cond ((b.0 - 16 == a.0 - 16) && (q == key)) 1 0 ≡ one_at a key b q
one_at-high a b q key low high = grind (arith, nat_tests)

one_at-low : (a b : KindId) (q key : ℕ) → 16 ≤ a.0 → b.0 < 16 → one_at a key b q ≡ 0
one_at-low a b q key low high = grind (arith, nat_tests)

pub times_held-opened :
    (kinds : List Kind) (kind : KindId) (key : ℕ) (other : KindId) (q : ℕ) → 16 ≤ kind.0 → kind.0 - 16 < length kinds →
    times_held (changed_at (kind.0 - 16) (opened key) kinds) other q ≡ times_held kinds other q + one_at kind key other q
times_held-opened kinds kind key other q from within =
    elim (cases_lt other.0 16) as (λ _. times_held (changed_at (kind.0 - 16) (opened key) kinds) other q ≡ times_held kinds other q + one_at kind key other q) [
      | inl low ↦
          omega (arith, times_held-low (changed_at (kind.0 - 16) (opened key) kinds) other q low, times_held-low kinds other q low, one_at-low kind other q key from low)
      | inr high ↦
          omega (
            arith,
            times_held-at (changed_at (kind.0 - 16) (opened key) kinds) other q high,
            times_held-at kinds other q high,
            one_at-high kind other q key from high,
            times_at-opened kinds (kind.0 - 16) key (other.0 - 16) q within,
          )
    ]

pub times_held-closed :
    (kinds : List Kind) (kind : KindId) (key : ℕ) (other : KindId) (q : ℕ) → 1 ≤ times_held kinds kind key →
    times_held (changed_at (kind.0 - 16) (closed key) kinds) other q + one_at kind key other q ≡ times_held kinds other q
times_held-closed kinds kind key other q held =
    let from : 16 ≤ kind.0 = held-from kinds kind key held in
    elim (cases_lt other.0 16) as (λ _. times_held (changed_at (kind.0 - 16) (closed key) kinds) other q + one_at kind key other q ≡ times_held kinds other q) [
      | inl low ↦
          omega (arith, times_held-low (changed_at (kind.0 - 16) (closed key) kinds) other q low, times_held-low kinds other q low, one_at-low kind other q key from low)
      | inr high ↦
          omega (
            arith,
            times_held-at (changed_at (kind.0 - 16) (closed key) kinds) other q high,
            times_held-at kinds other q high,
            one_at-high kind other q key from high,
            times_at-closed kinds (kind.0 - 16) key (other.0 - 16) q (rw (times_held-at kinds kind key from) at held),
          )
    ]

-- a shelf's facts stay where its table does
pub kept_shelf :
    (names : List (List ℕ)) (rows : List KindRow) (old new : List Kind) → table_of new ≡ table_of old →
    IsShelf names rows old → IsShelf names rows new
kept_shelf names rows old new same shelf =
    record {
      names_are = shelf.names_are ∙ ap (λ t. t.names) (sym same);
      rows_are = shelf.rows_are ∙ ap (λ t. t.rows) (sym same);
      sound = subst IsSound (sym same) shelf.sound;
    }

pub made_names : {B : Type 0} (meaning : B → Kind) (xs : List B) → map (λ b. (meaning b).name) xs ≡ map (λ k. k.name) (map meaning xs)
made_names meaning [] = refl
made_names meaning (x ∷ xs) = ap (λ ns. (meaning x).name ∷ ns) (made_names meaning xs)

pub made_rows :
    {B : Type 0} (meaning : B → Kind) (xs : List B) →
    map (λ b. row (meaning b).phase (meaning b).priority) xs ≡ map (λ k. row k.phase k.priority) (map meaning xs)
made_rows meaning [] = refl
made_rows meaning (x ∷ xs) = ap (λ ns. row (meaning x).phase (meaning x).priority ∷ ns) (made_rows meaning xs)

pub made_shelf :
    {B : Type 0} (meaning : B → Kind) (xs : List B) (names : List (List ℕ)) (rows : List KindRow) →
    names ≡ map (λ b. (meaning b).name) xs → rows ≡ map (λ b. row (meaning b).phase (meaning b).priority) xs →
    length xs ≤ 16 → AreDifferent (map (λ b. (meaning b).name) xs) → All IsPlace rows → IsShelf names rows (map meaning xs)
made_shelf meaning xs names rows names_are rows_are few different places =
    let kinds : List Kind = map meaning xs in
    let name_count : length (map (λ k. k.name) kinds) ≡ length xs = length-map kinds (λ k. k.name) ∙ length-map xs meaning in
    let row_count : length (map (λ k. row k.phase k.priority) kinds) ≡ length xs = length-map kinds (λ k. row k.phase k.priority) ∙ length-map xs meaning in
    record {
      names_are = names_are ∙ made_names meaning xs;
      rows_are = rows_are ∙ made_rows meaning xs;
      sound = record {
        different = subst AreDifferent (made_names meaning xs) different;
        few = omega (arith, name_count);
        whole = row_count ∙ sym name_count;
        places = subst (All IsPlace) (rows_are ∙ made_rows meaning xs) places;
      };
    }
