-- How many live chunks the blocks of a Slab have, by their places: the code's own words for its ledger.
use Rattle.std.specs.Prelude.{ℕ, ◌-◌, List, sum_by}
unfoldable pub use Rattle.slab_ctx.specs.Ledger.{stride, per_block}
pub use Rattle.slab_ctx.specs.Ledger.{is_empty}

-- the size of all its chunks, and how many live chunks each block has, in the order in which the blocks were taken
pub record LiveCounts : Type 0 where
  pub size : ℕ
  pub lives : List ℕ

-- how many blocks have no live chunk
abbrev pub empties : List ℕ → ℕ
empties lives = sum_by is_empty lives

-- how many free chunks there are
abbrev pub free_in : ℕ → ℕ → ℕ
free_in per live = per - live

unfoldable pub free_chunks : LiveCounts → ℕ
free_chunks l = sum_by (free_in (per_block l.size)) l.lives
