-- Lemmas on the bytes of all blocks.
use Rattle.ctx_blocks.proofs.Base.{[], arith, Block, block_at, Bool, if◌then◌else◌, is_some, IsFirst, Layout, length, List, lookup, None, PutsBlock, refl, rooms, Some, sum_by, sum_by-cons, sum_by-insert, sum_by-remove_entry, total, values_of, with_block, without_block, ℕ, ◌+◌, ◌==◌, ◌∷◌, ◌≡◌, ◌≤◌}

-- what a sum over the blocks becomes where a block is put in the place of another one, is new, or goes
module _ (f : Block → ℕ) (blocks : List (ℕ × Block)) (number : ℕ) where
  pub sum-put : (old block : Block) → lookup (λ n. number == n) blocks ≡ Some old → sum_by f (values_of (with_block blocks number block)) + f old ≡ sum_by f (values_of blocks) + f block
  sum-put old block was = rw was at (sum_by-insert (λ (a b : ℕ). a == b) number block f blocks)

  pub sum-new : (block : Block) → lookup (λ n. number == n) blocks ≡ None → sum_by f (values_of (with_block blocks number block)) ≡ sum_by f (values_of blocks) + f block
  sum-new block none = let sums = rw none at (sum_by-insert (λ (a b : ℕ). a == b) number block f blocks) in omega (arith, sums)

  pub sum-dropped : (old : Block) → lookup (λ n. number == n) blocks ≡ Some old → sum_by f (values_of (without_block blocks number)) + f old ≡ sum_by f (values_of blocks)
  sum-dropped old was = rw was at (sum_by-remove_entry f (λ n. number == n) blocks)

-- how many blocks there are then
length-put : (number : ℕ) (block : Block) (blocks : List (ℕ × Block)) → length (with_block blocks number block) ≡ length blocks + (if is_some (lookup (λ n. number == n) blocks) then 0 else 1)
length-put number block [] = refl
length-put number block (e ∷ es) = grind (arith, length-put number block es)

-- what the bytes of all blocks, their rooms and their number become where a block is put in the place of another
-- one, or is new
module _ (l m : Layout) (number : ℕ) (block : Block) (puts : PutsBlock l m number block) where
  pub total-same : (old : Block) → block_at l number ≡ Some old → total m + old.size ≡ total l + block.size
  total-same old was = rw puts.blocks (sum-put (λ b. b.size) l.blocks number old block was)

  pub rooms-same : (old : Block) → block_at l number ≡ Some old → rooms m + old.room ≡ rooms l + block.room
  rooms-same old was = rw puts.blocks (sum-put (λ b. b.room) l.blocks number old block was)

  pub rooms-more : block_at l number ≡ None → rooms m ≡ rooms l + block.room
  rooms-more none = rw puts.blocks (sum-new (λ b. b.room) l.blocks number block none)

  pub length-same : (old : Block) → block_at l number ≡ Some old → length m.blocks ≡ length l.blocks
  length-same old was = rw puts.blocks (let more = rw was at (length-put number block l.blocks) in omega arith)

  pub length-more : block_at l number ≡ None → length m.blocks ≡ length l.blocks + 1
  length-more none = rw puts.blocks (rw none at (length-put number block l.blocks))

-- what a block has is among what all have
value-within : (f : Block → ℕ) (test : ℕ → Bool) (blocks : List (ℕ × Block)) (block : Block) → lookup test blocks ≡ Some block → f block ≤ sum_by f (values_of blocks)
value-within f test [] block is = absurd (cc)
value-within f test (e ∷ es) block is = grind (arith, sum_by-cons f e.1 (values_of es), value-within f test es block)

pub room_within : (l : Layout) (number : ℕ) (block : Block) → block_at l number ≡ Some block → block.room ≤ rooms l
room_within l number block is = value-within (λ b. b.room) (λ n. number == n) l.blocks block is

-- the bytes stay where a block of the same size is put
pub total-put : (l m : Layout) (number : ℕ) (old block : Block) → m.blocks ≡ with_block l.blocks number block → block_at l number ≡ Some old → block.size ≡ old.size → total m ≡ total l
total-put l m number old block blocks was size = rw blocks (omega (arith, sum-put (λ (b : Block). b.size) l.blocks number old block was))

-- the bytes lessen where a block goes
pub total-dropped : (l m : Layout) (number : ℕ) (old : Block) → m.blocks ≡ without_block l.blocks number → block_at l number ≡ Some old → total m + old.size ≡ total l
total-dropped l m number old blocks was = rw blocks (sum-dropped (λ b. b.size) l.blocks number old was)

-- the keeper stays the first block, with its number
pub IsFirst-put : (keeper first : ℕ) (blocks : List (ℕ × Block)) (number : ℕ) (block : Block) → ((old : Block) → lookup (λ n. number == n) blocks ≡ Some old → block.number ≡ old.number) → IsFirst keeper first blocks → IsFirst keeper first (with_block blocks number block)
IsFirst-put keeper first [] number block same is = absurd is
IsFirst-put keeper first (e ∷ es) number block same is = grind (arith, same e.1)
