-- The blocks of a Slab by their ranks: the one with the least serves first.
use Rattle.std.specs.Prelude.{◌≡◌, ℕ, ◌+◌, ◌-◌, ◌==◌, nat_lt, if◌then◌else◌, Option, None, option_map}
use Rattle.ctx_blocks.specs.Layout.{Layout, block_at}
use Rattle.ctx_blocks.specs.declared.parts.Block.{Block}
use Rattle.slab_ctx.specs.declared.tree.Rank.{Rank}
use Rattle.slab_ctx.specs.declared.ranks.Ranks.{Ranks}
use Rattle.slab_ctx.specs.Ranks.{rank_at, IsRanked}

-- the rank of a block by its number and its live chunks, where a block has so many in all: the fewer free chunks
-- the less, and of equal ones the one taken earlier; one without a free chunk is behind all others
abbrev pub rank_from : ℕ → ℕ → ℕ → Rank
rank_from per number live = record { major = if nat_lt live per then per - live else per + 1; minor = number }

abbrev pub rank_of : ℕ → Block → Rank
rank_of per block = rank_from per block.number block.live

-- the block in a region, but for the first region
abbrev pub own_at : Layout → ℕ → Option Block
own_at l number = if l.keeper == number then None else block_at l number

-- each block has its rank, and nothing else has one
pub record IsOrdered (r : Ranks) (l : Layout) (per : ℕ) : Type 0 where
  pub ranked : IsRanked r
  pub at : (number : ℕ) → rank_at r.entries.entries number ≡ option_map (rank_of per) (own_at l number)
