-- How the bytes of a block lie in memory.
use Rattle.std.specs.Prelude.{◌≡◌, ℕ, ◌<◌, List, length, Option, Some, None, slice_index_or}

-- each known byte stands in its place
abbrev pub Holds : List ℕ → List (Option ℕ) → Type 0
Holds cells known = (k byte : ℕ) → slice_index_or known k None ≡ Some byte → (k < length cells) × (slice_index_or cells k 0 ≡ byte)
