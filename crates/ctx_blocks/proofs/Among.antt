-- Blocks that are among those of another layout, and numbers that stay.
use Rattle.ctx_blocks.proofs.Base.{AreAmong, arith, Block, block_at, cases_eq, DropsBlock, KeepsNumbers, Layout, nat_tests, None, one_value, PutsBlock, refl, Some, ℕ, ◌≡◌}

-- the same blocks
pub among_same : (l m : Layout) → m.blocks ≡ l.blocks → AreAmong m l
among_same l m same region block is = let there : block_at l region ≡ Some block = rw (← same) is in (block, there, refl)

pub among_more : (l m n : Layout) → AreAmong l m → AreAmong m n → AreAmong l n
among_more l m n first second region block is = grind (arith, nat_tests)

-- a block is another one of its number
pub among_put : (l m : Layout) (region : ℕ) (old new : Block) → block_at l region ≡ Some old → PutsBlock l m region new → new.number ≡ old.number → AreAmong m l
among_put l m region old new is puts same r block there = grind (arith, nat_tests, cases_eq region r)

-- a block is the last one
pub among_adding : (l m : Layout) (region : ℕ) (new : Block) → block_at l region ≡ None → PutsBlock l m region new → AreAmong l m
among_adding l m region new fresh puts r block there = (block, grind (arith, puts.at r), refl)

-- a block is given back
pub among_drop : (l m : Layout) (region : ℕ) → DropsBlock l m region → AreAmong m l
among_drop l m region drops r block there = (block, grind (arith, drops.at r), refl)

-- numbers stay where blocks are added, and where blocks are left
pub numbers_stay : (l m n : Layout) → AreAmong l m → AreAmong n m → KeepsNumbers l n
numbers_stay l m n first second region old new is there = grind (arith, nat_tests, one_value (block_at m region) (second region new there).0 (first region old is).0 (second region new there).1 (first region old is).1)

pub numbers_left : (l m n : Layout) → KeepsNumbers l m → AreAmong n m → KeepsNumbers l n
numbers_left l m n first second region old new is there = grind (arith, nat_tests)
