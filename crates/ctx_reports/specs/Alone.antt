-- What holds of contexts that have an account for themselves.
use Rattle.std.specs.Prelude.{◌≡◌, ℕ, ◌+◌, ◌-◌, Some, Result, Ok}
use Rattle.addr_space.specs.declared.Addr.{Addr}
use Rattle.addr_space.specs.Space.{Space, held}
use Rattle.addr_space.specs.Footprint.{Agrees, AreDisjoint}
use Rattle.addr_space.specs.Live.{PutsAt}
use Rattle.chunk_header.specs.declared.CtxError.{CtxError}
use Rattle.chunk_header.specs.Answers.{Taken}
use Rattle.any_ctx.specs.Ledgers.{Ledger, Place, take, stats}
use Rattle.any_ctx.specs.Contexts.{footprint, ledger, place_at}
use Rattle.any_ctx.specs.declared.any.AnyCtx.{AnyCtx}

-- the bytes of all blocks of a ledger
abbrev pub total_of : Ledger → ℕ
total_of l = (stats l).total

-- the context is the only one of its account
pub record IsAlone (a : AnyCtx) (s : Space) : Type 0 where
  pub agrees : Agrees (footprint a) s
  pub total : (footprint a).total ≡ total_of (ledger a)
  pub held : held s (footprint a).account ≡ total_of (ledger a)

-- a request of a context that is alone, by what its ledger and the limit say
abbrev pub take_of : Ledger → ℕ → ℕ → Result (Taken Ledger Place) CtxError
take_of l limit size = take l (limit - total_of l) size

-- it was answered, and the chunk at an address has the place
pub record Served (a b : AnyCtx) (limit size : ℕ) (at : Addr) : Type 0 where
  pub answer : Taken Ledger Place
  pub is : take_of (ledger a) limit size ≡ Ok answer
  pub now : ledger b ≡ answer.ledger
  pub puts : PutsAt (place_at a) (place_at b) at (Some answer.place)

-- two contexts have an account together, and no other one has it
pub record AreBoth (a b : AnyCtx) (s : Space) : Type 0 where
  pub first : Agrees (footprint a) s
  pub second : Agrees (footprint b) s
  pub apart : AreDisjoint (footprint a) (footprint b)
  pub account : (footprint b).account ≡ (footprint a).account
  pub total : (footprint a).total ≡ total_of (ledger a)
  pub other_total : (footprint b).total ≡ total_of (ledger b)
  pub held : held s (footprint a).account ≡ total_of (ledger a) + total_of (ledger b)
