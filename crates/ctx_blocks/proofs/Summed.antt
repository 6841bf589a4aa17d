-- Lemmas on sums over the blocks that are added up one by one.
use Rattle.ctx_blocks.proofs.Base.{arith, Block, drop, drop_all, drop_more, get_or_from_slice_get, length, List, nat_tests, slice_get, slice_get_within, Some, sum_by, sum_by-cons, values_of, ℕ, ◌+◌, ◌≡◌, ◌≤◌}

-- what is left of a sum from an index on
abbrev pub rest_of : (Block → ℕ) → List (ℕ × Block) → ℕ → ℕ
rest_of f blocks i = sum_by f (values_of (drop i blocks))

-- what was summed up to an index, where no block has more than its bytes
pub record Summed (f : Block → ℕ) (blocks : List (ℕ × Block)) (i sum total : ℕ) : Type 0 where
  pub all : sum + rest_of f blocks i ≡ sum_by f (values_of blocks)
  pub most : sum + rest_of (λ b. b.size) blocks i ≤ total

rest_more : (f : Block → ℕ) (blocks : List (ℕ × Block)) (i : ℕ) (e : ℕ × Block) → slice_get blocks i ≡ Some e → rest_of f blocks i ≡ f e.1 + rest_of f blocks (i + 1)
rest_more f blocks i e found = grind (arith, nat_tests, drop_more blocks i e (slice_get_within blocks i e found), get_or_from_slice_get blocks i e e found, sum_by-cons f e.1 (values_of (drop (i + 1) blocks)), e.1)

pub summed-more : (f : Block → ℕ) (blocks : List (ℕ × Block)) (i sum total : ℕ) (e : ℕ × Block) → slice_get blocks i ≡ Some e → f e.1 ≤ e.1.size → Summed f blocks i sum total → (sum + f e.1 ≤ total) × Summed f blocks (i + 1) (sum + f e.1) total
summed-more f blocks i sum total e found within sums = grind (arith, nat_tests, rest_more f blocks i e found, rest_more)

pub summed-all : (f : Block → ℕ) (blocks : List (ℕ × Block)) (i sum total : ℕ) → length blocks ≤ i → Summed f blocks i sum total → sum ≡ sum_by f (values_of blocks)
summed-all f blocks i sum total past sums = let all = rw (drop_all i blocks past) at sums.all in omega arith
