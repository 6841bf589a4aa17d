-- What contracts see of a Bump context: its ledger, and where its blocks and chunks are.
use Rattle.std.specs.Prelude.{Option, option_map}
use Rattle.addr_space.specs.declared.Addr.{Addr}
use Rattle.addr_space.specs.Footprint.{Footprint}
use Rattle.ctx_blocks.specs.Layout.{Layout, chunk_at, footprint as footprint_of}
use Rattle.bump_ctx.specs.Ledger.{BumpLedger, BumpPlace, Anywhere}

-- the ledger, and the blocks and live chunks
pub record BumpState : Type 0 where
  pub ledger : BumpLedger
  pub layout : Layout

-- the place of the live chunk at an address, if there is one
abbrev pub place_in : Layout → Addr → Option BumpPlace
place_in l at = option_map (λ chunk. Anywhere) (chunk_at l at)

abbrev pub place_at : BumpState → Addr → Option BumpPlace
place_at s = place_in s.layout

-- what the context has in a space
abbrev pub footprint : BumpState → Footprint
footprint s = footprint_of s.layout
