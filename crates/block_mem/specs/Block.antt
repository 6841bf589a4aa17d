-- What a contract sees of a block: its bytes, where one that was never written is `None`.
use Rattle.std.specs.Prelude.{ℕ, ◌+◌, ◌-◌, ◌<◌, ◌++◌, List, length, Option, None, IsSome, slice_index_or, take, drop, replicate}

-- so many bytes from a place on
abbrev pub part : {X : Type 0} → List X → ℕ → ℕ → List X
part bytes at n = take n (drop at bytes)

-- the bytes with these from a place on
abbrev pub overwritten : {X : Type 0} → List X → ℕ → List X → List X
overwritten bytes at new = take at bytes ++ new ++ drop (at + length new) bytes

-- the block with so many bytes: cut off, or filled up with unknown ones
abbrev pub resized : List (Option ℕ) → ℕ → List (Option ℕ)
resized block n = take n block ++ replicate (n - length block) None

-- so many bytes from a place on are known
abbrev pub IsKnown : List (Option ℕ) → ℕ → ℕ → Type 0
IsKnown block at n = (k : ℕ) → k < n → IsSome (slice_index_or block (at + k) None)
