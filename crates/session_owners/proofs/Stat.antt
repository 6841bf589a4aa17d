-- What a session counts is what its owners hold.
use Rattle.session_owners.proofs.Base.{◌≡◌, ℕ, suc, zero, ◌+◌, ◌<◌, Bool, true, false, ◌||◌, cond, List, [], ◌∷◌, ◌++◌, length, map, refl, sym, ap, ◌∙◌, inl, inr, arith, ◌==◌, ◌&&◌, nat_lt, count_by, if◌then◌else◌, slice_index, list_any, distinct_count, nat_cmp, eq_by_cmp, is_eq, ordering_then, unsigned_tied, is_at, cases_Bool, eqb-true, ne_eqb, nat_tests, sum_by-append, sum_by-cons, Ordering}
use Rattle.session_owners.proofs.Words.{Tallies, count_of, pair_cmp, Held, is_class, times_held, IsCounted, Item, KindId, is_of, uses, SessionCounts, size, snapshots_of, OwnerTable, OwnerTree, held, is_among, IsDistinct, different_length, SessionState, buffer_pin, file_kind, all_items, count, counts, distinct, keys_of}
use Rattle.owner_core.specs.Owners.{owners_of}
use Rattle.session_owners.proofs.OpenFiles.{distinct_length, held_all, keys_among}
use Rattle.session_owners.proofs.OpenCounts.{any_counts}

-- The places of numbers that are more than 0, in a list that begins at a place.
abbrev places_from : ℕ → List ℕ → List ℕ
places_from n [] = []
places_from n (p ∷ ps) = if nat_lt 0 p then n ∷ places_from (n + 1) ps else places_from (n + 1) ps

places_length : (n : ℕ) (ps : List ℕ) → length (places_from n ps) ≡ count_by (λ count. nat_lt 0 count) ps
places_length n [] = refl
places_length n (p ∷ ps) = grind (arith, nat_tests, sum_by-cons (λ count. cond (nat_lt 0 count) 1 0) p ps, cases_Bool (nat_lt 0 p), places_length (n + 1) ps)

before_places : (b n : ℕ) (ps : List ℕ) → b < n → is_among b (places_from n ps) ≡ false
before_places b n [] less = refl
before_places b n (p ∷ ps) less = grind (arith, nat_tests, ne_eqb b n, before_places b (n + 1) ps)

at_places : (b n m : ℕ) (ps : List ℕ) → b ≡ n + m → is_among b (places_from n ps) ≡ nat_lt 0 (slice_index ps m)
at_places b n m [] is = refl
at_places b n zero (p ∷ ps) is = grind (arith, nat_tests, before_places b (n + 1) ps)
at_places b n (suc m) (p ∷ ps) is = grind (arith, nat_tests, ne_eqb b n, at_places b (n + 1) m ps)

places_differ : (n : ℕ) (ps : List ℕ) → IsDistinct (places_from n ps)
places_differ n [] = tt
places_differ n (p ∷ ps) = grind (arith, nat_tests, before_places n (n + 1) ps, places_differ (n + 1) ps)

-- where a key is among those of the items, the items are of it
keys_held : (kind : KindId) (key : ℕ) (owners : OwnerTree) → is_among key (keys_of kind (all_items owners)) ≡ nat_lt 0 (held kind key owners)
keys_held kind key owners = grind (arith, nat_tests, keys_among kind key (all_items owners), any_counts (is_of kind key) (all_items owners), held_all kind key owners)

-- as many counts are more than 0 as there are different keys
pub different_pins : (kind : KindId) (pins : List ℕ) (owners : OwnerTree) → ((key : ℕ) → slice_index pins key ≡ held kind key owners) → count_by (λ count. nat_lt 0 count) pins ≡ length (distinct (keys_of kind (all_items owners)))
different_pins kind pins owners same = grind (arith, nat_tests, places_length 0 pins, different_length (places_from 0 pins) (keys_of kind (all_items owners)) (places_differ 0 pins), places_differ 0 pins, keys_held kind, distinct_length (keys_of kind (all_items owners)), at_places)

-- a key stands among the keys as often as the items are of it
flipped : (m n : ℕ) → (m == n) ≡ (n == m)
flipped m n = grind (arith, nat_tests)

keys_count : (kind : KindId) (key : ℕ) (items : List Item) → count_by (λ k. key == k) (keys_of kind items) ≡ uses kind key items
keys_count kind key [] = refl
keys_count kind key (item ∷ items) =
    let all = sum_by-cons (λ (x : Item). cond (is_of kind key x) 1 0) item items in
    grind (arith, nat_tests, cases_Bool (item.kind.0 == kind.0), flipped key item.key, sum_by-cons (λ k. cond (key == k) 1 0) item.key (keys_of kind items), keys_count kind key items)

by_order : (key : ℕ) → is_at (nat_cmp key) ≡ (λ k. key == k)
by_order key = λ i k. unsigned_tied key k i

pub keys_tally : (kind : KindId) (owners : OwnerTree) (entries : List (ℕ × ℕ)) → ((key : ℕ) → count_of nat_cmp entries key ≡ held kind key owners) → Tallies nat_cmp (keys_of kind (all_items owners)) entries
keys_tally kind owners entries same key = grind (arith, nat_tests, by_order key, keys_count kind key (all_items owners), held_all kind key owners)

pub different_keys : (keys : List ℕ) → distinct_count (eq_by_cmp nat_cmp) keys ≡ length (distinct keys)
different_keys keys = ap (λ (eq : ℕ → ℕ → Bool). distinct_count eq keys) (λ i x y. unsigned_tied x y i) ∙ distinct_length keys

-- pairs of a class and keys
tagged : ℕ → List ℕ → List (ℕ × ℕ)
tagged class keys = map (λ key. (class, key)) keys

both_tied : (a b : Ordering) → is_eq (ordering_then a b) ≡ (is_eq a && is_eq b)
both_tied x0 b = grind (arith, nat_tests)

pair_tied : (c k d j : ℕ) → eq_by_cmp pair_cmp (c, k) (d, j) ≡ ((c == d) && (k == j))
pair_tied c k d j = grind (arith, nat_tests, both_tied (nat_cmp c d) (nat_cmp k j))

same_number : (n : ℕ) → (n == n) ≡ true
same_number n = grind (arith, nat_tests)

-- a pair among them, and how often
any_tagged : (c k : ℕ) (keys : List ℕ) → list_any (eq_by_cmp pair_cmp (c, k)) (tagged c keys) ≡ list_any (λ m. m == k) keys
unfolding tagged
any_tagged c k [] = refl
any_tagged c k (key ∷ keys) = grind (arith, nat_tests, pair_tied c k c key, same_number c, flipped k key, any_tagged c k keys)

none_tagged : (c k d : ℕ) (keys : List ℕ) → (c == d) ≡ false → list_any (eq_by_cmp pair_cmp (c, k)) (tagged d keys) ≡ false
unfolding tagged
none_tagged c k d [] other = refl
none_tagged c k d (key ∷ keys) other = grind (arith, nat_tests, pair_tied c k d key, none_tagged c k d keys other)

count_tagged : (c k d : ℕ) (keys : List ℕ) → count_by (is_at (pair_cmp (c, k))) (tagged d keys) ≡ (if c == d then count_by (λ key. k == key) keys else 0)
unfolding tagged
count_tagged c k d [] = grind (arith, nat_tests)
count_tagged c k d (key ∷ keys) =
    let all = sum_by-cons (λ pair. cond (is_at (pair_cmp (c, k)) pair) 1 0) (d, key) (tagged d keys) in
    let ones = sum_by-cons (λ j. cond (k == j) 1 0) key keys in
    let here : cond (is_at (pair_cmp (c, k)) (d, key)) (suc zero) zero ≡ cond ((c == d) && (k == key)) (suc zero) zero = ap (λ (b : Bool). cond b (suc zero) zero) (pair_tied c k d key) in
    grind (arith, nat_tests, cases_Bool (c == d), count_tagged c k d keys)

any_in_both : {A : Type 0} (test : A → Bool) (xs ys : List A) → list_any test (xs ++ ys) ≡ (list_any test xs || list_any test ys)
any_in_both test [] ys = refl
any_in_both test (x ∷ xs) ys = grind (arith, nat_tests, any_in_both test xs ys)

-- different pairs of a class, before pairs of others
tagged_more : (c : ℕ) (keys : List ℕ) (others : List (ℕ × ℕ)) → ((k : ℕ) → list_any (eq_by_cmp pair_cmp (c, k)) others ≡ false)
    → distinct_count (eq_by_cmp pair_cmp) (tagged c keys ++ others) ≡ length (distinct keys) + distinct_count (eq_by_cmp pair_cmp) others
unfolding tagged
tagged_more c [] others apart = omega arith
tagged_more c (key ∷ keys) others apart = grind (arith, nat_tests, any_in_both (eq_by_cmp pair_cmp (c, key)) (tagged c keys) others, any_tagged c key keys, tagged_more c keys others apart)

-- the pairs of the four classes
abbrev of_class : ℕ → OwnerTree → List ℕ
of_class class owners = keys_of (record { 0 = class }) (all_items owners)

pub pairs_held : OwnerTree → List (ℕ × ℕ)
pairs_held owners = tagged 2 (of_class 2 owners) ++ (tagged 3 (of_class 3 owners) ++ (tagged 4 (of_class 4 owners) ++ (tagged 6 (of_class 6 owners) ++ [])))

pub pairs_count : (owners : OwnerTree) (class key : ℕ) → count_by (is_at (pair_cmp (class, key))) (pairs_held owners) ≡ (if is_class class then held (record { 0 = class }) key owners else 0)
unfolding pairs_held
pairs_count owners class key =
    let sum : count_by (is_at (pair_cmp (class, key))) (pairs_held owners)
    ≡ (if class == 2 then held (record { 0 = class }) key owners else 0) + ((if class == 3 then held (record { 0 = class }) key owners else 0) + ((if class == 4 then held (record { 0 = class }) key owners else 0) + (if class == 6 then held (record { 0 = class }) key owners else 0))) =
    omega (
      arith,
      sum_by-append (λ pair. cond (is_at (pair_cmp (class, key)) pair) 1 0) (tagged 2 (of_class 2 owners)) (tagged 3 (of_class 3 owners) ++ (tagged 4 (of_class 4 owners) ++ (tagged 6 (of_class 6 owners) ++ []))),
      sum_by-append (λ pair. cond (is_at (pair_cmp (class, key)) pair) 1 0) (tagged 3 (of_class 3 owners)) (tagged 4 (of_class 4 owners) ++ (tagged 6 (of_class 6 owners) ++ [])),
      sum_by-append (λ pair. cond (is_at (pair_cmp (class, key)) pair) 1 0) (tagged 4 (of_class 4 owners)) (tagged 6 (of_class 6 owners) ++ []),
      sum_by-append (λ pair. cond (is_at (pair_cmp (class, key)) pair) 1 0) (tagged 6 (of_class 6 owners)) [],
      own 2,
      own 3,
      own 4,
      own 6,
    ) in
    sum ∙ four class (held (record { 0 = class }) key owners)
  where
    own : (c : ℕ) → count_by (is_at (pair_cmp (class, key))) (tagged c (of_class c owners)) ≡ (if class == c then held (record { 0 = class }) key owners else 0)
    own c = count_tagged class key c (of_class c owners) ∙ elim (cases_Bool (class == c)) [
      | inl y ↦ rw y (keys_count (record { 0 = c }) key (all_items owners) ∙ sym (held_all (record { 0 = c }) key owners) ∙ ap (λ (m : ℕ). held (record { 0 = m }) key owners) (sym (eqb-true class c y)))
      | inr y ↦ rw y refl
    ]

    four : (c n : ℕ) → (if c == 2 then n else 0) + ((if c == 3 then n else 0) + ((if c == 4 then n else 0) + (if c == 6 then n else 0))) ≡ (if is_class c then n else 0)
    four c n = grind (arith, nat_tests)

-- as many different ones as each class has different keys
abbrev pub classes_different : OwnerTree → ℕ
classes_different owners = length (distinct (of_class 2 owners)) + (length (distinct (of_class 3 owners)) + (length (distinct (of_class 4 owners)) + length (distinct (of_class 6 owners))))

pub pairs_different : (owners : OwnerTree)
    → distinct_count (eq_by_cmp pair_cmp) (pairs_held owners) ≡ classes_different owners
unfolding pairs_held
pairs_different owners = grind (arith, nat_tests, tagged_more, tagged_more 6 (of_class 6 owners), any_in_both, none_tagged)

-- what is counted of a class is what owners hold of it
pub class_counted : (table : OwnerTable) (counts : Held) (class key : ℕ) → IsCounted table counts
    → ◌≡◌ {A = ℕ} (if is_class class then held (record { 0 = class }) key (owners_of table) else 0) (if is_class class then times_held counts (record { 0 = class }) key else 0)
class_counted table counts class key s = grind (arith, nat_tests)

-- the nine numbers
pub counts_are : (pins files descriptors locks snapshots plans refs owners contexts : ℕ) (session : SessionState) → pins ≡ count buffer_pin session → files ≡ count file_kind session → descriptors ≡ length session.recent → locks ≡ length session.locks
    → snapshots ≡ length (distinct (keys_of (record { 0 = 7 }) (all_items session.owners) ++ snapshots_of session.snapshots)) → plans ≡ length session.plans → refs ≡ classes_different session.owners → owners ≡ size session.owners
    → contexts ≡ size session.contexts
    → ◌≡◌ {A = SessionCounts} (record { pins = pins; files = files; descriptors = descriptors; locks = locks; snapshots = snapshots; plans = plans; refs = refs; owners = owners; contexts = contexts }) (counts session)
counts_are pins files descriptors locks snapshots plans refs owners contexts session e f g h j k l m n = grind (arith, nat_tests)
