-- Sizes of chunks and blocks.
use Rattle.std.specs.Prelude.{◌≡◌, ℕ, zero, suc, ◌+◌, ◌*◌, ◌/◌, ◌%◌, ◌≤◌, max, nat_lt, if◌then◌else◌}
use Rattle.chunk_header.specs.declared.TheConstants.{LEAST_BLOCK, LARGEST_BLOCK}

-- rounded up to a multiple of 8
unfoldable pub up8 : ℕ → ℕ
up8 n = (n + 7) / 8 * 8

-- the bytes of a chunk that is cut to measure: a multiple of 8, and 8 where none was asked for
unfoldable pub granted : ℕ → ℕ
granted size = up8 (max size 1)

-- doubled while it is below a need, so many times at most
unfoldable pub doubled : ℕ → ℕ → ℕ → ℕ
doubled zero size need = size
doubled (suc times) size need = if nat_lt size need then doubled times (2 * size) need else size

-- doubled while it is below a need
unfoldable pub grown : ℕ → ℕ → ℕ
grown size need = doubled need size need

-- the sizes of a context's blocks, and that of its next one
pub record AreSizes (init max next : ℕ) : Type 0 where
  pub least : LEAST_BLOCK ≤ init
  pub order : init ≤ max
  pub most : max ≤ LARGEST_BLOCK
  pub whole_init : init % 8 ≡ 0
  pub whole_max : max % 8 ≡ 0
  pub next_least : LEAST_BLOCK ≤ next
  pub next_most : next ≤ max
  pub next_whole : next % 8 ≡ 0
