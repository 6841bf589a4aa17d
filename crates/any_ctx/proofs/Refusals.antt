-- Why a call is refused: the ledger refuses, but for want of memory.
use Rattle.std.proofs.Common.{◌≡◌, ◌⊎◌, ◌<◌, ◌≤◌, ℕ, IfSome, Result, Ok, Err, IfErr, ap, inl, inr, arith}
use Rattle.std.proofs.lemmas.Bool.{cases_lt}
use Rattle.std.proofs.lemmas.Bool.Decides.{nat_tests}
use Rattle.addr_space.specs.declared.Addr.{Addr}
use Rattle.addr_space.specs.Space.{Space}
use Rattle.chunk_header.specs.declared.CtxError.{CtxError}
use Rattle.chunk_header.specs.declared.CtxError.TheVariants.{TooBig, NoSpace, WrongSize, Unsupported, Memory}
use Rattle.alloc_set.specs.Ledger as set
use Rattle.alloc_set.specs.State as set_state
use Rattle.slab_ctx.specs.Ledger as slab
use Rattle.slab_ctx.specs.State as slab_state
use Rattle.generation_ctx.specs.Ledger as generation
use Rattle.generation_ctx.specs.State as generation_state
use Rattle.bump_ctx.specs.Ledger as bump
use Rattle.bump_ctx.specs.State as bump_state
use Rattle.any_ctx.specs.Ledgers.{InSet, InSlab, InGeneration, InBump}
use Rattle.any_ctx.specs.Contexts.{place_at}
use Rattle.any_ctx.specs.Calls.{take_in, resize_in}
use Rattle.any_ctx.specs.declared.any.AnyCtx.{AnyCtx}
use Rattle.any_ctx.specs.declared.any.AnyCtx.TheVariants.{AllocSet, Slab, Generation, Bump}
use Rattle.any_ctx.proofs.Steps.{each_some}

-- too great a request
pub take_big : (a : AnyCtx) (s : Space) (size : ℕ) → 1073741823 < size → take_in a s size ≡ Err TooBig
unfolding set.take slab.take generation.take bump.take
take_big (AllocSet a) s size big = grind (arith, nat_tests, big)
take_big (Slab a) s size big = grind (arith, nat_tests, big)
take_big (Generation a) s size big = grind (arith, nat_tests, big)
take_big (Bump a) s size big = grind (arith, nat_tests, big)

pub resize_big : (a : AnyCtx) (s : Space) (at : Addr) (size : ℕ) → 1073741823 < size → IfSome (place_at a at) (λ p. resize_in a s p size ≡ Err TooBig)
unfolding set.resize slab.resize generation.resize bump.refusal
resize_big (AllocSet a) s at size big = each_some _ InSet (set_state.place_at a at) (λ was. grind (arith, nat_tests, big))
resize_big (Slab a) s at size big = each_some _ InSlab (slab_state.place_at a at) (λ was. grind (arith, nat_tests, big))
resize_big (Generation a) s at size big = each_some _ InGeneration (generation_state.place_at a at) (λ was. grind (arith, nat_tests, big))
resize_big (Bump a) s at size big = each_some _ InBump (bump_state.place_at a at) (λ was. grind (arith, nat_tests, big))

-- why a Bump gives no chunk another size
pub refusal_cases : (size : ℕ) → ((1073741823 < size) × (bump.refusal size ≡ TooBig)) ⊎ ((size ≤ 1073741823) × (bump.refusal size ≡ Unsupported))
unfolding bump.refusal
refusal_cases size =
    elim (cases_lt 1073741823 size) [
      | inl above ↦ inl (above, grind (arith, nat_tests))
      | inr below ↦ inr (below, grind (arith, nat_tests))
    ]

-- each refusal but want of memory is the ledger's
pub refuses : {A : Type 0} (P : CtxError → Type 0) (r : Result A CtxError) → (r ≡ Err TooBig → P TooBig) → (r ≡ Err NoSpace → P NoSpace) → IfErr r (λ e. (e ≡ TooBig) ⊎ ((e ≡ NoSpace) ⊎ (e ≡ Memory))) → IfErr r (λ e. (e ≡ Memory) ⊎ P e)
refuses P (Ok a) big none other = other
refuses P (Err e) big none (inl is) = inr (rw is (big (ap Err is)))
refuses P (Err e) big none (inr (inl is)) = inr (rw is (none (ap Err is)))
refuses P (Err e) big none (inr (inr is)) = inl is

-- the refusals of a Slab
pub refuses_size : {A : Type 0} (P : CtxError → Type 0) (r : Result A CtxError) → (r ≡ Err TooBig → P TooBig) → (r ≡ Err WrongSize → P WrongSize) → (r ≡ Err NoSpace → P NoSpace) → IfErr r (λ e. (e ≡ TooBig) ⊎ ((e ≡ WrongSize) ⊎ ((e ≡ NoSpace) ⊎ (e ≡ Memory)))) → IfErr r (λ e. (e ≡ Memory) ⊎ P e)
refuses_size P (Ok a) big wrong none other = other
refuses_size P (Err e) big wrong none (inl is) = inr (rw is (big (ap Err is)))
refuses_size P (Err e) big wrong none (inr (inl is)) = inr (rw is (wrong (ap Err is)))
refuses_size P (Err e) big wrong none (inr (inr (inl is))) = inr (rw is (none (ap Err is)))
refuses_size P (Err e) big wrong none (inr (inr (inr is))) = inl is

pub refuses_resize : {A : Type 0} (P : CtxError → Type 0) (r : Result A CtxError) → (r ≡ Err TooBig → P TooBig) → (r ≡ Err Unsupported → P Unsupported) → IfErr r (λ e. (e ≡ TooBig) ⊎ (e ≡ Unsupported)) → IfErr r (λ e. (e ≡ Memory) ⊎ P e)
refuses_resize P (Ok a) big other refused = refused
refuses_resize P (Err e) big other (inl is) = inr (rw is (big (ap Err is)))
refuses_resize P (Err e) big other (inr is) = inr (rw is (other (ap Err is)))
