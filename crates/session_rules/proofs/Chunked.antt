-- Calls on chunks change one context, and leave its hooks and whose it is.
use Rattle.session_rules.proofs.Base.{◌≡◌, ℕ, Option, List, arith, nat_tests}
use Rattle.session_rules.proofs.Below.{changed, Context, Contexts, allocated, freed, resized, written}

pub record LeavesHooks (f : Context → Context) : Type 0 where
  pub hooks : (c : Context) → (f c).hooks ≡ c.hooks
  pub protected : (c : Context) → (f c).protected ≡ c.protected

-- so what is true of the contexts as they are, and where one changes so, is true behind each call
module _ (Q : Contexts → Type 0) (t : Contexts) (same : Q t) (one : (n : ℕ) (f : Context → Context) → LeavesHooks f → Q (changed n f t)) where
  pub by_allocated : (n left : ℕ) (name : Option (List ℕ)) (bytes : ℕ) (known : List ℕ) → Q (allocated n left name bytes known t)
  by_allocated n left name bytes known = grind (arith, nat_tests)

  pub by_freed : (name : List ℕ) → Q (freed name t)
  by_freed name = grind (arith, nat_tests)

  pub by_resized : (held limit : ℕ) (name : List ℕ) (bytes : ℕ) → Q (resized held limit name bytes t)
  by_resized held limit name bytes = grind (arith, nat_tests)

  pub by_written : (name : List ℕ) (place : ℕ) (bytes : List ℕ) → Q (written name place bytes t)
  by_written name place bytes = grind (arith, nat_tests)
