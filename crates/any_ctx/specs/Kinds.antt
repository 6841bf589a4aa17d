-- What a context of a kind is like when it is new.
use Rattle.std.specs.Prelude.{ℕ, ◌≤◌}
use Rattle.alloc_set.specs.Ledger as set
use Rattle.slab_ctx.specs.Ledger as slab
use Rattle.generation_ctx.specs.Ledger as generation
use Rattle.bump_ctx.specs.Ledger as bump
use Rattle.any_ctx.specs.Ledgers.{Ledger, OfSet, OfSlab, OfGeneration, OfBump}
use Rattle.chunk_header.specs.declared.TheConstants.{CONTEXT_BYTES, LARGEST_BLOCK}
use Rattle.slab_ctx.specs.declared.slots.TheConstants.{LARGEST_CHUNK}
use Rattle.any_ctx.specs.declared.any.TheConstants.{DEFAULT_INIT, SMALL_INIT, SMALL_MAX, ERROR_BLOCK, ABORT_BLOCK}
use Rattle.any_ctx.specs.declared.any.CtxKind.{CtxKind}
use Rattle.any_ctx.specs.declared.any.CtxKind.TheVariants.{Default, Small, Error, Abort, Slab, Generation, Bump}

-- the bytes of the first block, or of the first region of a Slab
abbrev pub first_size : CtxKind → ℕ
first_size Default = DEFAULT_INIT
first_size Small = SMALL_INIT
first_size Error = ERROR_BLOCK
first_size Abort = ABORT_BLOCK
first_size (Slab size) = CONTEXT_BYTES
first_size Generation = DEFAULT_INIT
first_size Bump = DEFAULT_INIT

-- the size of a Slab's chunks is one that it may have
abbrev pub IsSlabSize : CtxKind → Type 0
IsSlabSize (Slab size) = (1 ≤ size) × (size ≤ LARGEST_CHUNK)
IsSlabSize kind = Unit {0}

-- the ledger of a new context
abbrev pub created : CtxKind → Ledger
created Default = OfSet (set.created DEFAULT_INIT LARGEST_BLOCK)
created Small = OfSet (set.created SMALL_INIT SMALL_MAX)
created Error = OfSet (set.created ERROR_BLOCK ERROR_BLOCK)
created Abort = OfSet (set.created ABORT_BLOCK ABORT_BLOCK)
created (Slab size) = OfSlab (slab.created size)
created Generation = OfGeneration (generation.created DEFAULT_INIT LARGEST_BLOCK)
created Bump = OfBump (bump.created DEFAULT_INIT LARGEST_BLOCK)
