-- The place of a lock among others that are in order.
use Rattle.lock_local.proofs.Base.{[], All-from_get_or, All-get_or, ap, arith, Bool, cases_Bool, comes_before, cond, eqb-false, eqb-true, false, filter, get_or, get_or_default, has_owner, inl, inr, IsInOrder, length, List, Lock, Mode, nat_eq, None, OnSome, Option, refl, remove, Some, suc, sym, true, true≢false, zero, ℕ, ◌<◌, ◌∙◌, ◌∷◌, ◌≡◌, ◌≢◌, ◌≤◌}
use Rattle.lock_local.proofs.OrderLemmas.{Before, before_both}
use Rattle.lock_local.proofs.ChangeLemmas.{Owned}
use Rattle.lock_local.proofs.StepLemmas.{all_kept}

-- whether the lock comes before the object and the mode
abbrev pub sooner : ℕ → Mode → Lock → Bool
sooner o m l = comes_before l.object l.mode o m

ordered_at : (xs : List Lock) (k j : ℕ) (d : Lock) → IsInOrder xs → k < j → j < length xs → Before (get_or xs k d) (get_or xs j d)
ordered_at [] k j d h l w = absurd (omega (arith, w))
ordered_at (x ∷ xs) k zero d h l w = absurd (omega (arith, l))
ordered_at (x ∷ xs) zero (suc j) d h l w = All-get_or (Before x) xs j d (omega (arith, w)) h.0
ordered_at (x ∷ xs) (suc k) (suc j) d h l w = ordered_at xs k j d h.1 (omega (arith, l)) (omega (arith, w))

-- what stands before a lock that comes before, does too
pub sooner_front : (o : ℕ) (m : Mode) (xs : List Lock) (j : ℕ) (x : Lock) → IsInOrder xs → j < length xs → x ≡ get_or xs j x → sooner o m x ≡ true → (k : ℕ) (d : Lock) → k ≤ j → sooner o m (get_or xs k d) ≡ true
sooner_front o m xs j x h w r e k d l = by_test (nat_eq k j) refl
  where
    here : sooner o m (get_or xs j d) ≡ true
    here = ap (sooner o m) (sym (r ∙ get_or_default xs j x d w)) ∙ e

    by_test : (t : Bool) → nat_eq k j ≡ t → sooner o m (get_or xs k d) ≡ true
    by_test true f = ap (λ (n : ℕ). sooner o m (get_or xs n d)) (eqb-true k j f) ∙ here
    by_test false f =
        let apart : k ≢ j = eqb-false k j f in
        before_both (get_or xs k d) (get_or xs j d) o m (ordered_at xs k j d h (omega (arith, l, apart)) w) here

-- what stands behind a lock that doesn't come before, doesn't either
pub later_back : (o : ℕ) (m : Mode) (xs : List Lock) (j : ℕ) (x : Lock) → IsInOrder xs → j < length xs → x ≡ get_or xs j x → sooner o m x ≡ false → (k : ℕ) (d : Lock) → j ≤ k → k < length xs → sooner o m (get_or xs k d) ≡ false
later_back o m xs j x h w r e k d l v = elim (cases_Bool (sooner o m (get_or xs k d))) as (λ _. sooner o m (get_or xs k d) ≡ false) [
  | inl f ↦ absurd (true≢false (sym (sooner_front o m xs k (get_or xs k d) h v (get_or_default xs k d (get_or xs k d) v) f j x l) ∙ ap (sooner o m) (sym r) ∙ e))
  | inr f ↦ f
]

-- what is taken out where there is something
pub taken_some : {X : Type 0} {P : Type 0} (r : Option X) (x : X) → r ≡ Some x → OnSome r P → P
taken_some None x e h = absurd (cc)
taken_some (Some y) x e h = h

-- the one lock without an owner is taken off
pub ownerless_gone : (xs : List Lock) (i : ℕ) (d : Lock) → i < length xs → has_owner (get_or xs i d) ≡ false → ((k : ℕ) → k < length xs → k ≢ i → has_owner (get_or xs k d) ≡ true) → remove xs i ≡ filter has_owner xs
ownerless_gone [] i d l e h = absurd (omega (arith, l))
ownerless_gone (x ∷ xs) zero d l e h =
    sym (ap (λ b. cond b (x ∷ filter has_owner xs) (filter has_owner xs)) e ∙ all_kept xs (All-from_get_or Owned xs d (λ k w. h (suc k) (omega (arith, w)) (omega arith))))
ownerless_gone (x ∷ xs) (suc i) d l e h =
    ap (λ zs. x ∷ zs) (ownerless_gone xs i d (omega (arith, l)) e (λ k w n. h (suc k) (omega (arith, w)) (omega (arith, n))))
    ∙ sym (ap (λ b. cond b (x ∷ filter has_owner xs) (filter has_owner xs)) (h zero (omega arith) (omega arith)))

pub ownerless_none : (xs : List Lock) (i : ℕ) (d : Lock) → has_owner (get_or xs i d) ≡ true → ((k : ℕ) → k < length xs → k ≢ i → has_owner (get_or xs k d) ≡ true) → xs ≡ filter has_owner xs
ownerless_none xs i d e h = sym (all_kept xs (All-from_get_or Owned xs d (λ k w. by_test k w (nat_eq k i) refl)))
  where
    by_test : (k : ℕ) → k < length xs → (t : Bool) → nat_eq k i ≡ t → has_owner (get_or xs k d) ≡ true
    by_test k w true f = ap (λ (n : ℕ). has_owner (get_or xs n d)) (eqb-true k i f) ∙ e
    by_test k w false f = h k w (eqb-false k i f)
