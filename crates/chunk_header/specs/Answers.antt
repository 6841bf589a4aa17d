-- What a context answers to a request, in plain numbers.
use Rattle.std.specs.Prelude.{ℕ, Bool}
use Rattle.addr_space.specs.declared.SpaceError.{SpaceError}
use Rattle.addr_space.specs.declared.SpaceError.TheVariants.{NoSpace as NoRegion, Memory as NoRegionMemory}
use Rattle.chunk_header.specs.declared.CtxError.{CtxError}
use Rattle.chunk_header.specs.declared.CtxError.TheVariants.{NoSpace, Memory}

-- what a ledger answers to a request: what it is then, what it has to know of the chunk while that is live, and how
-- many bytes it asks from the space
pub record Taken (L P : Type 0) : Type 0 where
  pub ledger : L
  pub place : P
  pub asked : ℕ

-- the same where a chunk gets another size, and whether it stays where it is
pub record Resized (L P : Type 0) : Type 0 where
  pub ledger : L
  pub place : P
  pub asked : ℕ
  pub stays : Bool

-- the refusal of a space as that of a context
abbrev pub refusal_of : SpaceError → CtxError
refusal_of NoRegion = NoSpace
refusal_of NoRegionMemory = Memory
