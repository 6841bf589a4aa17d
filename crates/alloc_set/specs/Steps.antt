-- What the steps of an AllocSet do to its state.
use Rattle.std.specs.Prelude.{◌≡◌, Option, if◌then◌else◌}
use Rattle.addr_space.specs.declared.Addr.{Addr}
use Rattle.addr_space.specs.Live.{same_addr}
use Rattle.alloc_set.specs.State.{SetState, chunk_at}
use Rattle.alloc_set.specs.declared.chunk.Chunk.{Chunk}

-- one address has another chunk or nothing, and every other one has what it had
abbrev pub PutsChunk : SetState → SetState → Addr → Option Chunk → Type 0
PutsChunk s t at chunk = (other : Addr) → chunk_at t other ≡ (if same_addr at other then chunk else chunk_at s other)

-- what stays while chunks come and go: where the blocks are, and the numbers of the context
pub record SameBlocks (s t : SetState) : Type 0 where
  pub account : t.account ≡ s.account
  pub context : t.context ≡ s.context
  pub keeper : t.keeper ≡ s.keeper
  pub blocks : t.blocks ≡ s.blocks
  pub init : t.ledger.init ≡ s.ledger.init
  pub total : t.ledger.total ≡ s.ledger.total
