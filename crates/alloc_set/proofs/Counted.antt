-- Lemmas on the numbers of the books after a step.
use Rattle.alloc_set.proofs.Base.{arith, Books, IsCounted, lookup, min, nat_tests, None, SameBlocks, state_of, sum, sum_by, taken_bytes, values_of, ◌%◌, ◌+◌, ◌-◌, ◌==◌, ◌^◌, ◌≡◌, ◌≤◌}

-- blocks and chunks come and go
pub IsCounted-blocks : (b n : Books) → IsCounted b → n ≡ record b { active = n.active; blocks = n.blocks; chunks = n.chunks; shelves = n.shelves; total = n.total; count = n.count }
    → (n.active.size - n.active.room) % 8 ≡ 0 → lookup (λ k. b.keeper == k) n.blocks.entries ≡ None → n.total ≡ b.sizes.init + sum (values_of n.blocks.entries) → n.total ≤ 2 ^ 57
    → n.count ≡ 1 + sum_by (min 1) (values_of n.blocks.entries) → n.active.room + b.idle + sum_by taken_bytes (values_of n.chunks.entries) ≤ n.total → IsCounted n
IsCounted-blocks b n was rest filled keeper total most blocks rooms = grind (arith, nat_tests)

-- the blocks stay
module _ (b n : Books) (rest : n ≡ record b { active = n.active; chunks = n.chunks; shelves = n.shelves }) where
  pub IsCounted-chunks : IsCounted b → (n.active.size - n.active.room) % 8 ≡ 0 → n.active.room + b.idle + sum_by taken_bytes (values_of n.chunks.entries) ≤ b.total → IsCounted n
  IsCounted-chunks was filled rooms = grind (arith, nat_tests, was.keeper, was.total, was.most, was.blocks)

  pub SameBlocks-chunks : SameBlocks (state_of b) (state_of n)
  SameBlocks-chunks = grind (arith, nat_tests)
