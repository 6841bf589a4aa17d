-- The ledger of a context of any kind: its numbers, without addresses. Callers cite these functions and name no kind.
use Rattle.std.specs.Prelude.{ℕ, Option, Some, None, Result, Ok, Err}
use Rattle.chunk_header.specs.declared.CtxError.{CtxError}
use Rattle.chunk_header.specs.declared.CtxError.TheVariants.{Unsupported}
use Rattle.chunk_header.specs.declared.Stats.{Stats}
use Rattle.chunk_header.specs.Answers.{Taken, Resized}
use Rattle.alloc_set.specs.Ledger as set
use Rattle.slab_ctx.specs.Ledger as slab
use Rattle.generation_ctx.specs.Ledger as generation
use Rattle.bump_ctx.specs.Ledger as bump

-- the ledger of a context
pub data Ledger : Type 0 where
  OfSet : set.SetLedger → Ledger
  OfSlab : slab.SlabLedger → Ledger
  OfGeneration : generation.GenerationLedger → Ledger
  OfBump : bump.BumpLedger → Ledger

-- where a live chunk is, as far as the ledger of its context needs to know: the class or the own block of an
-- AllocSet's, the block of a Slab's, the block and the room of a Generation's
pub data Place : Type 0 where
  InSet : set.SetPlace → Place
  InSlab : ℕ → Place
  InGeneration : generation.GenerationPlace → Place
  InBump : bump.BumpPlace → Place

-- an answer of one kind's ledger as one of any kind
abbrev pub taken_as : {L P : Type 0} → (L → Ledger) → (P → Place) → Result (Taken L P) CtxError → Result (Taken Ledger Place) CtxError
taken_as ledger place (Ok t) = Ok (record { ledger = ledger t.ledger; place = place t.place; asked = t.asked })
taken_as ledger place (Err e) = Err e

abbrev pub resized_as : {L P : Type 0} → (L → Ledger) → (P → Place) → Result (Resized L P) CtxError → Result (Resized Ledger Place) CtxError
resized_as ledger place (Ok r) = Ok (record { ledger = ledger r.ledger; place = place r.place; asked = r.asked; stays = r.stays })
resized_as ledger place (Err e) = Err e

-- a request of so many bytes, where so much is left of the account: the ledger then, the chunk's place and the bytes
-- asked from the space, or the refusal
abbrev pub take : Ledger → ℕ → ℕ → Result (Taken Ledger Place) CtxError
take (OfSet l) left size = taken_as OfSet InSet (set.take l left size)
take (OfSlab l) left size = taken_as OfSlab InSlab (slab.take l left size)
take (OfGeneration l) left size = taken_as OfGeneration InGeneration (generation.take l left size)
take (OfBump l) left size = taken_as OfBump InBump (bump.take l left size)

-- the chunk at a place is freed: a Bump doesn't, and no context has a place of another kind
abbrev pub give : Ledger → Place → Result Ledger CtxError
give (OfSet l) (InSet place) = Ok (OfSet (set.give l place))
give (OfSlab l) (InSlab place) = Ok (OfSlab (slab.give l place))
give (OfGeneration l) (InGeneration place) = Ok (OfGeneration (generation.give l place))
give l place = Err Unsupported

-- the chunk at a place gets another size, where the account holds so much and may hold so much: the ledger then, the
-- chunk's place, the bytes asked, and whether the chunk keeps its address, or the refusal
abbrev pub resize : Ledger → ℕ → ℕ → Place → ℕ → Result (Resized Ledger Place) CtxError
resize (OfSet l) held limit (InSet place) size = resized_as OfSet InSet (set.resize l held limit place size)
resize (OfSlab l) held limit (InSlab place) size = resized_as OfSlab InSlab (slab.resize l held limit place size)
resize (OfGeneration l) held limit (InGeneration place) size = resized_as OfGeneration InGeneration (generation.resize l held limit place size)
resize (OfBump l) held limit (InBump place) size = resized_as OfBump InBump (bump.resize l held limit place size)
resize l held limit place size = Err Unsupported

-- all chunks are freed: the ledger is that of a new context
abbrev pub reset : Ledger → Ledger
reset (OfSet l) = OfSet (set.reset l)
reset (OfSlab l) = OfSlab (slab.reset l)
reset (OfGeneration l) = OfGeneration (generation.reset l)
reset (OfBump l) = OfBump (bump.reset l)

-- what `stats` answers
abbrev pub stats : Ledger → Stats
stats (OfSet l) = set.stats l
stats (OfSlab l) = slab.stats l
stats (OfGeneration l) = generation.stats l
stats (OfBump l) = bump.stats l

-- what the chunk at a place takes in its block, with its header; a Bump's chunks have none
abbrev pub chunk_bytes : Ledger → Place → Option ℕ
chunk_bytes (OfSet l) (InSet place) = Some (set.chunk_bytes l place)
chunk_bytes (OfSlab l) (InSlab place) = Some (slab.chunk_bytes l)
chunk_bytes (OfGeneration l) (InGeneration place) = Some (generation.chunk_bytes place)
chunk_bytes l place = None

-- the context frees no chunk, and its chunks have no headers
abbrev pub IsBump : Ledger → Type 0
IsBump (OfSet l) = ⊥
IsBump (OfSlab l) = ⊥
IsBump (OfGeneration l) = ⊥
IsBump (OfBump l) = Unit {0}
