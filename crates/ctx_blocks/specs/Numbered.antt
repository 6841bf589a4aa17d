-- Blocks that are known by their numbers.
use Rattle.std.specs.Prelude.{◌≡◌, ℕ, ◌==◌, Bool, not, Some, unwrap_or, if◌then◌else◌}
use Rattle.ctx_blocks.specs.Layout.{Layout, block_at}
use Rattle.ctx_blocks.specs.declared.parts.Block.{Block}

-- the block of this number is another one: for a map over a list
abbrev pub put_at : Block → Block → Block
put_at new block = if block.number == new.number then new else block

-- the block has another number: for a filter of a list
abbrev pub is_other : ℕ → Block → Bool
is_other number block = not (block.number == number)

-- the number of the block in a region
abbrev pub no_block : Block
no_block = record { number = 0; size = 0; room = 0; live = 0; freed = 0 }

abbrev pub number_of : Layout → ℕ → ℕ
number_of l region = (unwrap_or (block_at l region) no_block).number

-- the blocks of one layout are among those of another one, with their numbers
abbrev pub AreAmong : Layout → Layout → Type 0
AreAmong l m = (region : ℕ) (block : Block) → block_at l region ≡ Some block → (other : Block) × (block_at m region ≡ Some other) × (other.number ≡ block.number)

-- a block that is there before and after keeps its number
abbrev pub KeepsNumbers : Layout → Layout → Type 0
KeepsNumbers l m = (region : ℕ) (old new : Block) → block_at l region ≡ Some old → block_at m region ≡ Some new → new.number ≡ old.number
