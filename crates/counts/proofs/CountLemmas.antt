-- A count that a search finds, and how many keys count.
use Rattle.std.proofs.Common.{◌≡◌, ℕ, ◌-◌, ◌≤◌, Bool, true, false, cond, ltb, ◌||◌, List, [], ◌∷◌, length, Option, Some, None, refl, sym, ◌∙◌, ap, subst, arith}
use Rattle.std.specs.declared.cmp.Ordering.{Ordering}
use Rattle.std.specs.Cmp.{IsTotalOrder}
use Rattle.std.specs.BTreeMap.{is_at}
use Rattle.std.specs.List.{All, list_any, filter, count_by}
use Rattle.std.specs.Map.{keys_of, values_of, lookup}
use Rattle.std.specs.Option.{IfSome, is_some, unwrap_or}
use Rattle.std.specs.Ordering.{eq_by_cmp}
use Rattle.std.specs.Set.{distinct_count}
use Rattle.std.specs.Cmp.{eq_by_cmp_equiv}
use Rattle.std.proofs.lemmas.Map.Views.{IfSome-lookup_from_All}
use Rattle.std.proofs.lemmas.List.Sums.{length-filter}
use Rattle.std.proofs.lemmas.Map.Keys.{IsDistinct-from_sorted}
use Rattle.std.proofs.lemmas.Map.Made.{length-from_keys, is_some-lookup}
use Rattle.std.proofs.lemmas.Map.Entries.{length-keys_of}
use Rattle.std.proofs.lemmas.Bool.Decides.{nat_tests}
use Rattle.counts.specs.Counts.{AreCounts, Tallies}

-- a value is there exactly where it isn't 0
some-count : (o : Option ℕ) → IfSome o (λ n. 1 ≤ n) → is_some o ≡ ltb 0 (unwrap_or o 0)
some-count None h = refl
some-count (Some n) h = grind (arith, nat_tests, h)

module _ {K : Type 0} where
  -- a count that is found is at least 1
  pub found_positive : (test : K → Bool) (es : List (K × ℕ)) (v : ℕ) → All (λ n. 1 ≤ n) (values_of es) → lookup test es ≡ Some v → 1 ≤ v
  found_positive test es v all found = subst (λ o. IfSome o (λ n. 1 ≤ n)) found (IfSome-lookup_from_All (λ n. 1 ≤ n) test es all)

  -- an element passes exactly where at least one is counted
  any-filter : (p : K → Bool) (xs : List K) → list_any p xs ≡ ltb 0 (length (filter p xs))
  any-filter p [] = refl
  any-filter p (x ∷ xs) = elim (p x) as (λ b. (b || list_any p xs) ≡ ltb 0 (length (cond b (x ∷ filter p xs) (filter p xs)))) [ true ↦ grind (arith, nat_tests) | false ↦ any-filter p xs ]

  any-count : (p : K → Bool) (xs : List K) → list_any p xs ≡ ltb 0 (count_by p xs)
  any-count p xs = any-filter p xs ∙ ap (ltb 0) (length-filter p xs)

  -- as many entries as the list has different keys
  pub length-different : {cmp : K → K → Ordering} → IsTotalOrder cmp → (keys : List K) (entries : List (K × ℕ)) → AreCounts cmp entries → Tallies cmp keys entries → length entries ≡ distinct_count (eq_by_cmp cmp) keys
  length-different {cmp} order keys entries counts tallies =
      sym (length-keys_of entries) ∙ length-from_keys (eq_by_cmp_equiv order) (keys_of entries) keys (IsDistinct-from_sorted cmp (keys_of entries) counts.ordered)
      (λ q. sym (is_some-lookup (is_at (cmp q)) entries) ∙ some-count (lookup (is_at (cmp q)) entries) (IfSome-lookup_from_All (λ n. 1 ≤ n) (is_at (cmp q)) entries counts.counted) ∙ ap (ltb 0) (sym (tallies q)) ∙ sym (any-count (is_at (cmp q)) keys))
