-- What is left of lists behind a place.
use Rattle.std.proofs.Common.{◌≡◌, ℕ, ◌+◌, ◌<◌, ◌≤◌, List, [], ◌∷◌, length, drop, Some, refl, ap, suc, zero, arith}
use Rattle.std.proofs.lemmas.Bool.Decides.{nat_tests}
use Rattle.std.proofs.lemmas.List.{length-drop, length-map}
use Rattle.std.specs.Prelude.{slice_get}
use Rattle.agg_rules.specs.declared.Row.{Row}
use Rattle.agg_rules.specs.Rows.{groups_of, is_other, results_of, result_of}
use Rattle.agg_rules.specs.Passes.{kept_groups}
use Rattle.agg_rules.proofs.Filters.{length-filter_le}

module _ {X : Type 0} where
  pub at_place : (xs : List X) (place : ℕ) (x : X) → slice_get xs place ≡ Some x → drop place xs ≡ x ∷ drop (place + 1) xs
  at_place [] place x is = absurd (cc is)
  at_place (y ∷ xs) zero x is = grind (arith, nat_tests)
  at_place (y ∷ xs) (suc place) x is = grind (arith, nat_tests, at_place xs place x)

  pub behind_place : (xs : List X) (place : ℕ) (x : X) (rest : List X) → drop place xs ≡ x ∷ rest → (slice_get xs place ≡ Some x) × (drop (place + 1) xs ≡ rest) × (place < length xs)
  behind_place [] zero x rest is = absurd (cc is)
  behind_place [] (suc place) x rest is = absurd (cc is)
  behind_place (y ∷ xs) zero x rest is = grind (arith, nat_tests)
  behind_place (y ∷ xs) (suc place) x rest is = grind (arith, nat_tests, behind_place xs place x rest)

  -- nothing is left
  pub none_left : (xs : List X) (place : ℕ) → drop place xs ≡ [] → length xs ≤ place
  none_left xs place is = omega (arith, length-drop place xs, ap (λ (ys : List X). length ys) is)

-- There are no more groups than rows.
pub length-groups : (rows : List Row) → length (groups_of rows) ≤ length rows
length-groups [] = omega (arith)
length-groups (row ∷ rows) = omega (arith, length-groups rows, length-filter_le (is_other row.group) (groups_of rows))

pub length-results : (rows : List Row) → length (results_of rows) ≤ length rows
length-results rows = omega (arith, length-groups rows, length-map (groups_of rows) (result_of rows))

-- a pass that holds no group met no row
pub none_kept : (budget : ℕ) (rows : List Row) → 0 < budget → length (kept_groups budget rows) ≤ 0 → rows ≡ []
none_kept budget [] some none = refl
none_kept zero (row ∷ rows) some none = absurd (omega (arith, some))
none_kept (suc budget) (row ∷ rows) some none = absurd (omega (arith, none))
