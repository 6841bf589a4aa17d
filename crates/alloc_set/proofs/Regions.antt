-- Lemmas on the regions of a context: the keeper's, and those whose sizes the books note.
use Rattle.alloc_set.proofs.Base.{ap, arith, if◌then◌else◌, List, lookup, lookup-le-sum, nat_tests, None, Option, region_of, SetState, Some, start_of, sum, sym, values_of, ℕ, ◌==◌, ◌∙◌, ◌≡◌, ◌≢◌, ◌≤◌}

module _ (s : SetState) where
  pub keeper_start : start_of s s.keeper ≡ 200
  keeper_start = grind (arith, nat_tests)

  pub keeper_owned : region_of s s.keeper ≡ Some s.ledger.init
  keeper_owned = grind (arith, nat_tests)

  module _ (number : ℕ) (differs : number ≢ s.keeper) where
    pub other_start : start_of s number ≡ 0
    other_start = grind (arith, nat_tests)

    pub noted : region_of s number ≡ lookup (λ n. number == n) s.blocks
    noted = grind (arith, nat_tests)

-- a region that isn't the context's is not the keeper's
pub apart_keeper : (s : SetState) (number : ℕ) → region_of s number ≡ None → number ≢ s.keeper
apart_keeper s number none same = let owned = keeper_owned s in let clash = sym (ap (region_of s) same) ∙ none in absurd (cc)

-- a region that stands in the books counts in their sum
pub sum-least : (blocks : List (ℕ × ℕ)) (number len : ℕ) → lookup (λ n. number == n) blocks ≡ Some len → len ≤ sum (values_of blocks)
sum-least blocks number len found = let least = rw found at (lookup-le-sum (λ n. number == n) blocks) in omega (arith, least)

-- one region but the keeper's has another size in the books, or none
module _ (s t : SetState) (number : ℕ) (slot : Option ℕ) (keeper : t.keeper ≡ s.keeper) (init : t.ledger.init ≡ s.ledger.init) (differs : number ≢ s.keeper)
    (changed : (other : ℕ) → lookup (λ n. other == n) t.blocks ≡ (if number == other then slot else lookup (λ n. other == n) s.blocks)) where
  pub region_now : region_of t number ≡ slot
  region_now = grind (arith, nat_tests, changed number)

  pub regions_else : (other : ℕ) → other ≢ number → region_of t other ≡ region_of s other
  regions_else other apart = grind (arith, nat_tests, changed other)

  pub keeper_else : lookup (λ n. s.keeper == n) t.blocks ≡ lookup (λ n. s.keeper == n) s.blocks
  keeper_else = grind (arith, nat_tests, changed s.keeper)
