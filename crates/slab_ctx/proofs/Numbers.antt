-- Lemmas on the bytes of a chunk with its header, and on how many a block has.
use Rattle.slab_ctx.proofs.Words.{◌≡◌, ◌≢◌, ℕ, ◌+◌, ◌*◌, ◌%◌, ◌<◌, ◌≤◌, ◌⊎◌, ◌↔◌, arith, le-div_iff_mul-le, mul-le-mul_right, up8, stride, per_block, IsSlot}

pub stride_least : (size : ℕ) → size + 8 ≤ stride size
unfolding stride up8
stride_least size = omega arith

pub stride-whole : (size : ℕ) → stride size % 8 ≡ 0
unfolding stride up8
stride-whole size = omega arith

pub stride-some : (size : ℕ) → 1 ≤ size → 16 ≤ stride size
stride-some size some = omega (arith, stride_least size, stride-whole size)

-- so many chunks have room in a block, and no more than so many
pub per_block-is : (size n : ℕ) → (n ≤ per_block size) ↔ (n * stride size ≤ 8152)
unfolding per_block
per_block-is size n = le-div_iff_mul-le (omega (arith, stride_least size))

pub per_block-few : (size : ℕ) → 1 ≤ size → per_block size ≤ 509
per_block-few size some = grind (arith, per_block-is size (per_block size), mul-le-mul_right (per_block size) (stride-some size some), stride-some size some)

pub per_block_some : (size : ℕ) → size ≤ 1024 → 1 ≤ per_block size
unfolding stride up8
per_block_some size small = (per_block-is size 1).1 (omega arith)

-- a slot ends where the next one begins, or before
slot-before : (f a b : ℕ) → a < b → a * f + f ≤ b * f
slot-before f a b before = let more = mul-le-mul_right f before in omega arith

-- two slots have no byte in common, with their headers
pub slots_apart : (size a b : ℕ) → IsSlot size a → IsSlot size b → a ≢ b → (a + stride size ≤ b) ⊎ (b + stride size ≤ a)
slots_apart size a b first second differs = grind (arith, slot-before (stride size) first.slot second.slot, slot-before (stride size) second.slot first.slot)
