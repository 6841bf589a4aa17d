-- What lies in a forest once one node changed.
use Rattle.context_node.proofs.Words.{◌≡◌, ◌≢◌, ◌⊎◌, ℕ, Some, ap, ◌∙◌, Forest, at, changed, at_changed, at_changed_other}
use Rattle.std.proofs.lemmas.Bool.Decides.{nat_tests}
use Rattle.std.proofs.Common.{arith}

module _ {A : Type 0} (n : ℕ) (k l : A) (t : Forest A) (here : at n t ≡ Some k) where
  -- what lies at a number once one node changed
  pub step_at : (m : ℕ) (j : A) → at m (changed n (λ _. l) t) ≡ Some j → ((m ≡ n) × (j ≡ l)) ⊎ ((m ≢ n) × (at m t ≡ Some j))
  step_at m j there = grind (arith, nat_tests, changed, at_changed, at_changed_other)

  pub step_here : (m : ℕ) → m ≡ n → at m (changed n (λ _. l) t) ≡ Some l
  step_here m same = ap (λ (i : ℕ). at i (changed n (λ _. l) t)) same ∙ at_changed n (λ _. l) t k here

  pub step_other : (m : ℕ) (j : A) → m ≢ n → at m t ≡ Some j → at m (changed n (λ _. l) t) ≡ Some j
  step_other m j ne h = at_changed_other m n (λ _. l) t ne ∙ h
