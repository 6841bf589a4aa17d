-- Lemmas on what a layout shows of the blocks as they are kept, and on what is kept once a block is another one.
use Rattle.ctx_blocks.proofs.Base.{[], ap, AreRising, AreUnique, arith, Block, block_at, Books, DropsBlock, if◌then◌else◌, IsCounted, IsFirst, IsKept, IsLaid, IsUnique, layout_of, map-append, nat_eq, nat_tests, None, one_value, Option, PutsBlock, SameContext, Some, sum_by-append, sum_by-cons, sym, total, with_block, without_block, ℕ, ◌++◌, ◌+◌, ◌==◌, ◌∙◌, ◌∷◌, ◌≡◌}
use Rattle.ctx_blocks.proofs.Totals.{total-put, IsFirst-put}
use Rattle.ctx_blocks.proofs.Numbered.{Entries, at_region, rising_put}
use Rattle.ctx_blocks.proofs.Ordered.{AreApart, AreApart-distinct, apart-in_order, lookup-in_order, sum-in_order, in_order-is, lookup-with, apart-with, lookup-without, apart-without, first-in_order}

-- the block of a region
pub block_view : (b : Books) → IsUnique nat_eq b.blocks → (number : ℕ) → block_at (layout_of b) number ≡ at_region number b.blocks.entries
block_view b apart number = lookup-in_order number b.blocks.entries (AreApart-distinct b.blocks.entries apart)

-- the keeper is the first block that is shown
pub first_view : (b : Books) → IsKept b → IsFirst b.keeper b.first_number (layout_of b).blocks
first_view b kept = first-in_order b.keeper b.first_number b.last_number b.blocks.entries (AreApart-distinct b.blocks.entries kept.apart) kept.first kept.numbered

-- the bytes without the last block
pub total_view : (b n : Books) (number : ℕ) (old : Block) → b.blocks.entries ≡ n.blocks.entries ++ (number, old) ∷ [] → total (layout_of n) + old.size ≡ total (layout_of b)
total_view b n number old blocks = grind (arith, nat_tests, map-append, sum_by-append, sum_by-cons, sum-in_order)

module _ (b n : Books) (number : ℕ) (apart : IsUnique nat_eq b.blocks) (now : IsUnique nat_eq n.blocks) where
  -- one region has another block, or none
  pub one_view : (new : Option Block) → ((other : ℕ) → at_region other n.blocks.entries ≡ (if number == other then new else at_region other b.blocks.entries)) → (other : ℕ) → block_at (layout_of n) other ≡ (if number == other then new else block_at (layout_of b) other)
  one_view new same other = block_view n now other ∙ same other ∙ ap (λ (o : Option Block). if number == other then new else o) (sym (block_view b apart other))

  was_apart : AreApart (layout_of b).blocks
  was_apart = apart-in_order b.blocks.entries (AreApart-distinct b.blocks.entries apart)

  -- the blocks that are seen then are those of a list that rises
  seen : (least most : ℕ) (ys : Entries) → AreApart ys → AreRising least most ys → ((other : ℕ) → block_at (layout_of n) other ≡ at_region other ys) → (layout_of n).blocks ≡ ys
  seen least most ys apart_y rising same = in_order-is least most n.blocks.entries ys (AreApart-distinct n.blocks.entries now) apart_y rising (λ other. sym (block_view n now other) ∙ same other)

  -- a block is put, or goes
  pub puts_view : (least most : ℕ) (new : Block) → AreRising least most (with_block (layout_of b).blocks number new) → ((other : ℕ) → at_region other n.blocks.entries ≡ (if number == other then Some new else at_region other b.blocks.entries)) → PutsBlock (layout_of b) (layout_of n) number new
  puts_view least most new rising same = grind (arith, nat_tests, one_view (Some new) same, seen least most (with_block ((layout_of b).blocks) number new) (apart-with number new ((layout_of b).blocks) was_apart) rising, apart-with number new ((layout_of b).blocks) was_apart, was_apart, lookup-with number)

  pub drops_view : (least most : ℕ) → AreRising least most (without_block (layout_of b).blocks number) → ((other : ℕ) → at_region other n.blocks.entries ≡ (if number == other then None else at_region other b.blocks.entries)) → DropsBlock (layout_of b) (layout_of n) number
  drops_view least most rising same = grind (arith, nat_tests, one_view None same, seen least most (without_block ((layout_of b).blocks) number) (apart-without number ((layout_of b).blocks) was_apart) rising, apart-without number ((layout_of b).blocks) was_apart, was_apart, lookup-without number)

-- what the code keeps, once one block is another one of its number and size
pub IsKept-put : (b n : Books) (number : ℕ) (old new : Block) → IsKept b → SameContext (layout_of b) (layout_of n) → n.last_number ≡ b.last_number → n.total ≡ b.total → n.blocks.entries ≡ with_block b.blocks.entries number new → PutsBlock (layout_of b) (layout_of n) number new → IsUnique nat_eq n.blocks → block_at (layout_of b) number ≡ Some old → new.number ≡ old.number → new.size ≡ old.size
    → AreUnique n.chunks.entries → IsLaid (layout_of n) → IsCounted (layout_of n) → IsKept n
IsKept-put b n number old new kept same last totals blocks puts apart owned number_is size unique laid counted = grind (arith, nat_tests, IsFirst-put b.keeper b.first_number b.blocks.entries number new, one_value (block_at (layout_of b) number) old, block_view b kept.apart number, rising_put b.first_number b.last_number number (layout_of b).blocks old new kept.numbered owned number_is, total-put (layout_of b) (layout_of n) number old new puts.blocks owned size)
