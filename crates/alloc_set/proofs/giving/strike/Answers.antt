use Rattle.alloc_set.proofs.Base.{[], ap, arith, Bool, Found-position, get_or, inl, inr, keys_of, List, lookup, Missing-position, option_cases, option_map, position, refl, slice_get-get_or, slice_get-map, Some, sum_by, sum_by-cons, sum_by-swap_remove, swap_remove_entry, swap_remove_entry-found, swap_remove_entry-missing, unwrap_or, values_of, ℕ, ◌+◌, ◌==◌, ◌∙◌, ◌∷◌, ◌≡◌}
use Rattle.alloc_set.proofs.giving.strike.Goals as goal

-- a sum over the values, as one over the entries
sum_by-values : {K X : Type 0} (f : X → ℕ) (es : List (K × X)) → sum_by f (values_of es) ≡ sum_by (λ (e : K × X). f e.1) es
sum_by-values f [] = refl
sum_by-values {K} {X} f (e ∷ es) = omega (arith, sum_by-cons f e.1 (values_of es), sum_by-cons (λ (e : K × X). f e.1) e es, sum_by-values f es)

-- what a sum loses where an entry is taken out
sum_by-swap_remove_entry : {K X : Type 0} (test : K → Bool) (f : X → ℕ) (es : List (K × X)) → sum_by f (values_of (swap_remove_entry test es)) + unwrap_or (option_map f (lookup test es)) 0 ≡ sum_by f (values_of es)
sum_by-swap_remove_entry test f [] = omega arith
sum_by-swap_remove_entry {K} {X} test f (e ∷ es) =
    elim (option_cases (position test (keys_of (e ∷ es)))) [
      | inl none ↦ rw (swap_remove_entry-missing test (e ∷ es) none, (Missing-position test (e ∷ es) none).value) (omega arith)
      | inr at ↦
          let g : K × X → ℕ = λ e. f e.1 in
          let found = Found-position test (e ∷ es) at.0 at.1 in
          let value : lookup test (e ∷ es) ≡ Some (get_or (e ∷ es) at.0 e).1 = found.value ∙ slice_get-map (λ (e : K × X). e.1) (e ∷ es) at.0 ∙ ap (option_map (λ (e : K × X). e.1)) (slice_get-get_or (e ∷ es) at.0 e found.within) in
          rw (value, swap_remove_entry-found test (e ∷ es) at.0 e at.1, sum_by-values f) (omega (arith, sum_by-swap_remove g (e ∷ es) at.0 e found.within, sum_by-values f (e ∷ es)))
    ]

pub returns-clause-sums : goal.returns-clause-sums
returns-clause-sums c = λ f. rw c.swap_remove.ensures.entries (sum_by-swap_remove_entry (λ (n : ℕ). c.args.number == n) f c.args.blocks.now.entries)
