-- How the total of a group lies in its chunk.
use Rattle.std.specs.Prelude.{ℕ, ◌^◌, ◌<◌, List, ◌++◌}
use Rattle.std.specs.Int.{to_le_bytes, w64}

-- a group, its count and its sum fit 32, 64 and 64 bits
abbrev pub IsTotal : ℕ × ℕ × ℕ → Type 0
IsTotal total = (total.0 < 2 ^ 32) × (total.1 < 2 ^ 64) × (total.2 < 2 ^ 64)

-- the 24 bytes of a total: the group, its count and its sum, the lowest byte of each first
unfoldable pub total_bytes : ℕ × ℕ × ℕ → List ℕ
total_bytes total = to_le_bytes w64 total.0 ++ to_le_bytes w64 total.1 ++ to_le_bytes w64 total.2
