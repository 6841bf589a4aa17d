-- What contracts see of a context of any kind.
use Rattle.std.specs.Prelude.{Option, option_map}
use Rattle.addr_space.specs.declared.Addr.{Addr}
use Rattle.addr_space.specs.Footprint.{Footprint}
use Rattle.chunk_header.specs.declared.Kind.{Kind}
use Rattle.chunk_header.specs.declared.Kind.TheVariants.{AllocSet as SetKind, Slab as SlabKind, Generation as GenerationKind, Bump as BumpKind}
use Rattle.alloc_set.specs.State as set_state
use Rattle.slab_ctx.specs.State as slab_state
use Rattle.generation_ctx.specs.State as generation_state
use Rattle.bump_ctx.specs.State as bump_state
use Rattle.any_ctx.specs.Ledgers.{Ledger, OfSet, OfSlab, OfGeneration, OfBump, Place, InSet, InSlab, InGeneration, InBump}
use Rattle.any_ctx.specs.declared.any.AnyCtx.{AnyCtx}
use Rattle.any_ctx.specs.declared.any.AnyCtx.TheVariants.{AllocSet, Slab, Generation, Bump}

-- its kind, as headers name it
abbrev pub kind_of : AnyCtx → Kind
kind_of (AllocSet s) = SetKind
kind_of (Slab s) = SlabKind
kind_of (Generation s) = GenerationKind
kind_of (Bump s) = BumpKind

-- what the context has in a space
abbrev pub footprint : AnyCtx → Footprint
footprint (AllocSet s) = set_state.footprint s
footprint (Slab s) = slab_state.footprint s
footprint (Generation s) = generation_state.footprint s
footprint (Bump s) = bump_state.footprint s

-- what it counts
abbrev pub ledger : AnyCtx → Ledger
ledger (AllocSet s) = OfSet s.ledger
ledger (Slab s) = OfSlab s.ledger
ledger (Generation s) = OfGeneration s.ledger
ledger (Bump s) = OfBump s.ledger

-- the place of the live chunk at an address
abbrev pub place_at : AnyCtx → Addr → Option Place
place_at (AllocSet s) at = option_map InSet (set_state.place_at s at)
place_at (Slab s) at = option_map InSlab (slab_state.place_at s at)
place_at (Generation s) at = option_map InGeneration (generation_state.place_at s at)
place_at (Bump s) at = option_map InBump (bump_state.place_at s at)
