-- What a call that serves a request does to a context of any kind, by the step of its ledger.
use Rattle.std.specs.Prelude.{◌≡◌, ◌↔◌, ◌-◌, ℕ, IsTrue, Some, Result, Ok, Err}
use Rattle.addr_space.specs.declared.Addr.{Addr}
use Rattle.addr_space.specs.Space.{Space, Asks, held}
use Rattle.addr_space.specs.Live.{PutsAt, MovesAt}
use Rattle.chunk_header.specs.declared.CtxError.{CtxError}
use Rattle.chunk_header.specs.declared.CtxError.TheVariants.{WrongSize, Unsupported}
use Rattle.bump_ctx.specs.Ledger as bump
use Rattle.chunk_header.specs.Answers.{Taken, Resized}
use Rattle.any_ctx.specs.Ledgers.{Ledger, Place, take, resize}
use Rattle.any_ctx.specs.Contexts.{footprint, ledger, place_at}
use Rattle.any_ctx.specs.declared.any.AnyCtx.{AnyCtx}
use Rattle.any_ctx.specs.declared.any.AnyCtx.TheVariants.{AllocSet, Slab, Generation, Bump}

-- what is left of the account of a context in a space
abbrev pub left_of : AnyCtx → Space → ℕ
left_of a s = s.limit - held s (footprint a).account

-- the ledger's step for a request
abbrev pub take_in : AnyCtx → Space → ℕ → Result (Taken Ledger Place) CtxError
take_in a s size = take (ledger a) (left_of a s) size

-- it gave an answer: it is the new ledger, its place is that of the chunk at an address, every other live chunk
-- keeps its place, and the account took the bytes asked
pub record Takes (a b : AnyCtx) (size : ℕ) (at : Addr) (s t : Space) : Type 0 where
  pub answer : Taken Ledger Place
  pub is : take_in a s size ≡ Ok answer
  pub ledger : ledger b ≡ answer.ledger
  pub place : PutsAt (place_at a) (place_at b) at (Some answer.place)
  pub asked : Asks (footprint a).account answer.asked s t

-- the ledger's step for another size of the chunk at a place
abbrev pub resize_in : AnyCtx → Space → Place → ℕ → Result (Resized Ledger Place) CtxError
resize_in a s place size = resize (ledger a) (held s (footprint a).account) s.limit place size

-- it gave an answer: the same, where the chunk is at an address now, which is the one that it had exactly where the
-- answer says so
pub record Resizes (a b : AnyCtx) (was : Place) (size : ℕ) (from to : Addr) (s t : Space) : Type 0 where
  pub answer : Resized Ledger Place
  pub is : resize_in a s was size ≡ Ok answer
  pub ledger : ledger b ≡ answer.ledger
  pub place : MovesAt (place_at a) (place_at b) from to answer.place
  pub asked : Asks (footprint a).account answer.asked s t
  pub stays : (to ≡ from) ↔ IsTrue answer.stays

-- the request has another size than the chunks of a Slab, as the ledger's step says
abbrev pub IsWrongSize : AnyCtx → Space → ℕ → Type 0
IsWrongSize (Slab a) s size = take_in (Slab a) s size ≡ Err WrongSize
IsWrongSize context s size = ⊥

-- the chunk at a place can't have another size: a Slab's chunks have one, and a Bump's stay as they are
abbrev pub IsUnsupported : AnyCtx → Space → Place → ℕ → Type 0
IsUnsupported (AllocSet a) s place size = ⊥
IsUnsupported (Slab a) s place size = resize_in (Slab a) s place size ≡ Err Unsupported
IsUnsupported (Generation a) s place size = ⊥
IsUnsupported (Bump a) s place size = bump.refusal size ≡ Unsupported
