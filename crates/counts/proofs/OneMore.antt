-- A count of one key that changes by one, as an equation of all counts.
use Rattle.std.proofs.Common.{◌≡◌, ◌≢◌, ℕ, ◌+◌, Bool, true, false, cond, nat_eq, sym, ap, subst, ◌∙◌, arith}
use Rattle.std.proofs.lemmas.Bool.{eqb-true, eqb-false}

pub one_more : (f g : ℕ → ℕ) (key : ℕ) → g key ≡ f key + 1 → ((q : ℕ) → q ≢ key → g q ≡ f q) → (q : ℕ) → g q ≡ f q + cond (nat_eq key q) 1 0
one_more f g key here others q = by_test (nat_eq key q) itself
  where
    itself : nat_eq key q ≡ nat_eq key q
    itself = λ i. nat_eq key q

    by_test : (t : Bool) → nat_eq key q ≡ t → g q ≡ f q + cond t 1 0
    by_test true e = subst (λ (k : ℕ). g k ≡ f k + 1) (eqb-true key q e) here
    by_test false e = let apart : key ≢ q = eqb-false key q e in omega (arith, others q (λ h. apart (sym h)))

pub one_less : (f g : ℕ → ℕ) (key : ℕ) → g key + 1 ≡ f key → ((q : ℕ) → q ≢ key → g q ≡ f q) → (q : ℕ) → g q + cond (nat_eq key q) 1 0 ≡ f q
one_less f g key here others q = by_test (nat_eq key q) itself
  where
    itself : nat_eq key q ≡ nat_eq key q
    itself = λ i. nat_eq key q

    by_test : (t : Bool) → nat_eq key q ≡ t → g q + cond t 1 0 ≡ f q
    by_test true e = subst (λ (k : ℕ). g k + 1 ≡ f k) (eqb-true key q e) here
    by_test false e = let apart : key ≢ q = eqb-false key q e in omega (arith, others q (λ h. apart (sym h)))
