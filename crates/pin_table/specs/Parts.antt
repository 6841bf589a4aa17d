-- What a session pins, in two parts: a few entries in an array, and the others in a table behind it.
use Rattle.std.specs.Prelude.{◌≡◌, ℕ, ◌≤◌, ◌^◌, List, [], ◌∷◌, All, None}
use Rattle.std.specs.List.{IsDistinct}
use Rattle.std.specs.Ordering.{nat_cmp, eq_by_cmp}
use Rattle.std.specs.BTreeMap.{is_at, insert_entry}
use Rattle.std.specs.Map.{keys_of, values_of, lookup}
use Rattle.counts.specs.Counts.{count_of, total, AreCounts}

-- the pins of both parts in the buffers' order
abbrev pub merged : List (ℕ × ℕ) → List (ℕ × ℕ) → List (ℕ × ℕ)
merged [] rest = rest
merged (e ∷ few) rest = insert_entry nat_cmp (merged few rest) e.0 e.1

-- No buffer stands twice in the array, none of them in the table too, and each count is at least 1.
-- The table's counts sum up to 2 ^ 62 at the most.
pub record AreParts (few rest : List (ℕ × ℕ)) : Type 0 where
  pub distinct : IsDistinct (eq_by_cmp nat_cmp) (keys_of few)
  pub counted : All (λ n. 1 ≤ n) (values_of few)
  pub apart : (buffer : ℕ) → 1 ≤ count_of nat_cmp rest buffer → lookup (is_at (nat_cmp buffer)) few ≡ None
  pub table : AreCounts nat_cmp rest
  pub room : total rest ≤ 2 ^ 62
