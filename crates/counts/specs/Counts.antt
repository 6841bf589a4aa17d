-- Counts of keys, seen as the list of entries: each key that counts with its count, in the keys' order.
use Rattle.std.specs.Prelude.{◌≡◌, ℕ, ◌≤◌, List, [], ◌∷◌, All, sum, count_by, unwrap_or}
use Rattle.std.specs.declared.cmp.Ordering.{Ordering}
use Rattle.std.specs.BTreeMap.{is_at, insert_entry}
use Rattle.std.specs.List.Sorted.{IsStrictlySortedBy}
use Rattle.std.specs.Map.{keys_of, values_of, lookup}

-- the entries in the order of their keys
abbrev pub in_order : {K : Type 0} → (K → K → Ordering) → List (K × ℕ) → List (K × ℕ)
in_order cmp [] = []
in_order cmp (e ∷ es) = insert_entry cmp (in_order cmp es) e.0 e.1

-- how often a key counts: 0 where it has no entry
abbrev pub count_of : {K : Type 0} → (K → K → Ordering) → List (K × ℕ) → K → ℕ
count_of cmp entries key = unwrap_or (lookup (is_at (cmp key)) entries) 0

-- the sum of all counts
abbrev pub total : {K : Type 0} → List (K × ℕ) → ℕ
total entries = sum (values_of entries)

-- The keys rise, so that no two are equal, and each count is at least 1.
pub record AreCounts {K : Type 0} (cmp : K → K → Ordering) (entries : List (K × ℕ)) : Type 0 where
  pub ordered : IsStrictlySortedBy cmp (keys_of entries)
  pub counted : All (λ n. 1 ≤ n) (values_of entries)

-- each key stands in the list as often as it counts
abbrev pub Tallies : {K : Type 0} → (K → K → Ordering) → List K → List (K × ℕ) → Type 0
Tallies {K} cmp keys entries = (q : K) → count_by (is_at (cmp q)) keys ≡ count_of cmp entries q
