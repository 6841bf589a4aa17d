-- Lemmas on the sums over the values of a map, for the contexts that keep their blocks and chunks in one.
use Rattle.std.proofs.Common.{◌≡◌, ℕ, ◌+◌, List, [], ◌∷◌, Bool, unwrap_or, option_map, sum_by, arith}
use Rattle.std.proofs.lemmas.Bool.{cases_Bool}
use Rattle.std.proofs.lemmas.Bool.Decides.{nat_tests}
use Rattle.std.proofs.lemmas.List.Sums.{sum_by-cons}
use Rattle.std.specs.Map.{lookup, values_of}
use Rattle.indexmap.specs.IndexMap.{insert_entry}

module _ {K X : Type 0} (eq : K → K → Bool) (k : K) (v : X) where
  -- what a sum gains where a value is put at a key
  pub sum_by-insert : (f : X → ℕ) (es : List (K × X)) → sum_by f (values_of (insert_entry eq es k v)) + unwrap_or (option_map f (lookup (eq k) es)) 0 ≡ sum_by f (values_of es) + f v
  sum_by-insert f [] = omega (arith, sum_by-cons f v [])
  sum_by-insert f (e ∷ es) = let rest = sum_by-insert f es in grind (arith, nat_tests, sum_by-cons, cases_Bool (eq k e.0))
