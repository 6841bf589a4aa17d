-- What is found by a number stays the plan of that number.
use Rattle.std.proofs.Common.{◌≡◌, ℕ, Bool, true, false, cond, nat_eq, List, [], ◌∷◌, ◌++◌, length, Some, None, refl, sym, ap, ◌∙◌, subst}
use Rattle.std.specs.List.{IsDistinct, list_any}
use Rattle.std.specs.Map.{keys_of, lookup, set_value, remove_entry}
use Rattle.std.specs.Option.{IsSome, is_some}
use Rattle.std.specs.Prelude.{Result, Ok, Err, OnOk, IsOk}
use Rattle.std.specs.Cmp.{nat_eq_equiv}
use Rattle.std.proofs.lemmas.List.{map-append}
use Rattle.std.proofs.lemmas.Map.{keys-set_value, lookup-set_value, lookup-remove_entry}
use Rattle.std.proofs.lemmas.Map.Entries.{length-keys_of}
use Rattle.std.proofs.lemmas.Map.Keys.{IsDistinct-push}
use Rattle.std.proofs.lemmas.Map.Made.{is_some-lookup, length-from_same_keys}
use Rattle.plan_store.specs.declared.plan.Plan.{Plan}
use Rattle.plan_store.specs.Kept.{IsKept}
use Rattle.plan_store.proofs.PlanLemmas.{distinct-removed}
use Rattle.std.proofs.lemmas.Bool.Decides.{nat_tests}
use Rattle.std.proofs.Common.{arith}

-- no plan is kept
pub kept_none : (found plans : List (ℕ × Plan)) → found ≡ [] → plans ≡ [] → IsKept found plans
unfolding IsDistinct
kept_none found plans none nothing = rw (none, nothing) (record { different = tt; same = λ q. refl })

crossed : {X : Type 0} (s t : Bool) (x y z : X) → (s ≡ true → t ≡ false) → cond t y (cond s x z) ≡ cond s x (cond t y z)
crossed x0 x1 x y z h = grind (arith, nat_tests)

-- a new plan behind the others is found by its number
lookup-push : (n q : ℕ) (plan : Plan) (es : List (ℕ × Plan)) → lookup (nat_eq n) es ≡ None → lookup (nat_eq q) (es ++ (n, plan) ∷ []) ≡ cond (nat_eq n q) (Some plan) (lookup (nat_eq q) es)
lookup-push n q plan [] fresh = ap (λ b. cond b (Some plan) None) (nat_eq_equiv.symm q n)
lookup-push n q plan (e ∷ es) fresh = grind (arith, nat_tests, e.0, lookup-push n q plan es, e.1, crossed)

-- a plan was made
pub kept_made : (found found' plans : List (ℕ × Plan)) (n : ℕ) (plan : Plan) → IsKept found plans → lookup (nat_eq n) plans ≡ None → ((q : ℕ) → lookup (nat_eq q) found' ≡ cond (nat_eq n q) (Some plan) (lookup (nat_eq q) found)) → IsKept found' (plans ++ (n, plan) ∷ [])
kept_made found found' plans n plan kept fresh update =
    let keys : keys_of (plans ++ (n, plan) ∷ []) ≡ keys_of plans ++ n ∷ [] = map-append (λ e. e.0) plans ((n, plan) ∷ []) in
    let new : list_any (nat_eq n) (keys_of plans) ≡ false = sym (is_some-lookup (nat_eq n) plans) ∙ ap is_some fresh in
    record {
      different = subst (λ ks. IsDistinct nat_eq ks) (sym keys) (IsDistinct-push nat_eq_equiv (keys_of plans) n kept.different new);
      same = λ q. update q ∙ ap (cond (nat_eq n q) (Some plan)) (kept.same q) ∙ sym (lookup-push n q plan plans fresh);
    }

-- a plan has changed
pub kept_set : (found found' plans : List (ℕ × Plan)) (n : ℕ) (plan : Plan) → IsKept found plans → IsSome (lookup (nat_eq n) plans) → ((q : ℕ) → lookup (nat_eq q) found' ≡ cond (nat_eq n q) (Some plan) (lookup (nat_eq q) found)) → IsKept found' (set_value (nat_eq n) plans plan)
kept_set found found' plans n plan kept there update = record {
  different = subst (λ ks. IsDistinct nat_eq ks) (sym (keys-set_value (nat_eq n) plans plan)) kept.different;
  same = λ q. update q ∙ ap (cond (nat_eq n q) (Some plan)) (kept.same q) ∙ sym (lookup-set_value nat_eq_equiv (nat_eq n) (nat_eq_equiv.congr n) q plan plans there);
}

-- a plan is gone
pub kept_removed : (found found' plans : List (ℕ × Plan)) (n : ℕ) → IsKept found plans → ((q : ℕ) → lookup (nat_eq q) found' ≡ cond (nat_eq n q) None (lookup (nat_eq q) found)) → IsKept found' (remove_entry (nat_eq n) plans)
kept_removed found found' plans n kept update = record {
  different = distinct-removed (nat_eq n) nat_eq plans kept.different;
  same = λ q. update q ∙ ap (cond (nat_eq n q) None) (kept.same q) ∙ sym (lookup-remove_entry nat_eq_equiv (nat_eq n) (nat_eq_equiv.congr n) q plans kept.different);
}

-- as many are found as stand
pub kept_length : (found plans : List (ℕ × Plan)) → IsKept found plans → IsDistinct nat_eq (keys_of found) → length found ≡ length plans
kept_length found plans kept different =
    sym (length-keys_of found)
    ∙ length-from_same_keys nat_eq_equiv (keys_of found) (keys_of plans) different kept.different (λ q. sym (is_some-lookup (nat_eq q) found) ∙ ap is_some (kept.same q) ∙ is_some-lookup (nat_eq q) plans)
    ∙ length-keys_of plans

-- what follows of a success follows where it succeeded
pub on_ok : {A E P : Type 0} (r : Result A E) → IsOk r → OnOk r P → P
on_ok {A} {E} {P} (Ok a) ok p = p
on_ok {A} {E} {P} (Err e) ok p = absurd (cc)
