use Rattle.std.proofs.Common.{◌≡◌, ◌≢◌, ℕ, Result, Ok, Err, Some, refl, sym, subst, arith}
use Rattle.std.proofs.lemmas.Bool.Decides.{nat_tests}
use Rattle.addr_space.specs.declared.Addr.{Addr}
use Rattle.addr_space.specs.Space.{Space}
use Rattle.addr_space.specs.Footprint.{Footprint, Agrees}
use Rattle.chunk_header.specs.Header.{IsHeaded, IsMarked}
use Rattle.chunk_header.specs.Answers.{Taken}
use Rattle.chunk_header.specs.declared.CtxError.{CtxError}
use Rattle.any_ctx.specs.Ledgers.{Ledger, OfSet, OfSlab, OfGeneration, OfBump, Place, taken_as, take, IsBump}
use Rattle.any_ctx.specs.Kinds.{created}
use Rattle.any_ctx.specs.Contexts.{footprint, ledger}
use Rattle.any_ctx.specs.declared.any.CtxKind.{CtxKind}
use Rattle.any_ctx.specs.declared.any.CtxKind.TheVariants.{Default, Small, Error, Abort, Slab, Generation, Bump}
use Rattle.memory_trials.proofs.any_kinds.told.Goals.{After-headed}
use Rattle.memory_trials.proofs.any_kinds.told.Goals as goal

-- a ledger stays one of its kind
taken_ledger : {L P : Type 0} (f : L → Ledger) (g : P → Place) (r : Result (Taken L P) CtxError) (t : Taken Ledger Place) → taken_as f g r ≡ Ok t → (l : L) × (f l ≡ t.ledger)
taken_ledger f g (Ok u) t is = (u.ledger, cc)
taken_ledger f g (Err e) t is = absurd (cc)

same_bump : (l : Ledger) (left size : ℕ) (t : Taken Ledger Place) → take l left size ≡ Ok t → IsBump t.ledger → IsBump l
same_bump (OfSet l) left size t is bump = let it = taken_ledger OfSet _ _ t is in subst IsBump (sym it.1) bump
same_bump (OfSlab l) left size t is bump = let it = taken_ledger OfSlab _ _ t is in subst IsBump (sym it.1) bump
same_bump (OfGeneration l) left size t is bump = let it = taken_ledger OfGeneration _ _ t is in subst IsBump (sym it.1) bump
same_bump (OfBump l) left size t is bump = tt

not_bump : (kind : CtxKind) → kind ≢ Bump → IsBump (created kind) → ⊥
not_bump Default differs bump = bump
not_bump Small differs bump = bump
not_bump Error differs bump = bump
not_bump Abort differs bump = bump
not_bump (Slab size) differs bump = bump
not_bump Generation differs bump = bump
not_bump Bump differs bump = differs refl

pub headed-requires : goal.headed-requires
headed-requires c = λ bump.
    let had = c.in_ok-at.ensures.taken in
    let before = same_bump (ledger c.in_ok-context.context) _ c.args.size had.answer had.is (subst IsBump had.ledger bump) in
    not_bump c.args.kind c.requires.marked (subst IsBump c.in_ok-context.ensures.ledger before)

-- the chunk that was taken is marked
is_marked : (c : After-headed) → (marked : (f : Footprint) (s : Space) (at : Addr) → Agrees f s → IsHeaded f at → IsMarked s at f.context) → (context : ℕ) × IsMarked c.alloc.new.space c.in_ok-at.at context
is_marked c marked =
    let g = footprint c.alloc.new.self in
    let puts = c.in_ok-at.ensures.live c.in_ok-at.at in
    let live : g.live c.in_ok-at.at ≡ Some c.args.size = grind (arith, nat_tests) in
    (g.context, marked g c.alloc.new.space c.in_ok-at.at c.in_ok-at.ensures.moves.agrees (c.headed.ensures.headed c.in_ok-at.at c.args.size live))

pub owner_of-requires : goal.owner_of-requires
owner_of-requires c = is_marked (goal.at.owner_of-requires c).After-headed c.marked.ensures

pub chunk_space-requires : goal.chunk_space-requires
chunk_space-requires c = is_marked (goal.at.chunk_space-requires c).After-headed c.marked.ensures
