use Rattle.std.proofs.Common.{◌≡◌, ℕ, Option, Some, None, option_map, refl, subst, ap}
use Rattle.ctx_blocks.specs.Layout.{chunk_at}
use Rattle.ctx_blocks.specs.Numbered.{number_of}
use Rattle.ctx_blocks.specs.declared.parts.Chunk.{Chunk}
use Rattle.addr_space.proofs.Options.{from_map}
use Rattle.alloc_set.specs.State as set
use Rattle.slab_ctx.specs.State as slab
use Rattle.generation_ctx.specs.State as generation
use Rattle.any_ctx.specs.Ledgers.{Place, OfSet, OfSlab, OfGeneration, InSet, InSlab, InGeneration, chunk_bytes}
use Rattle.any_ctx.proofs.any.AnyCtx.headed.Goals as goal

-- what is said of the bytes of one kind's places is said of the bytes of the place of a chunk
of_kind : {P : Type 0} (in_kind : P → Place) (bytes : Place → Option ℕ) (own : P → ℕ) (T : ℕ → Type 0) (o : Option P) → ((p : P) → bytes (in_kind p) ≡ Some (own p)) → ((p : P) → o ≡ Some p → T (own p)) → (place : Place) (n : ℕ) → option_map in_kind o ≡ Some place → bytes place ≡ Some n → T n
of_kind in_kind bytes own T None same all place n is takes = absurd (cc)
of_kind in_kind bytes own T (Some p) same all place n is takes =
    let here = same p in
    let e : own p ≡ n = cc in
    subst T e (all p refl)

pub returns-in-AllocSet-clause-kinds : goal.returns-in-AllocSet-clause-kinds
returns-in-AllocSet-clause-kinds c = rw c.in-AllocSet.is c.headed.ensures.kinds

pub returns-in-AllocSet-clause-spaces : goal.returns-in-AllocSet-clause-spaces
returns-in-AllocSet-clause-spaces c =
    let a = c.in-AllocSet.set in
    rw c.in-AllocSet.is (λ at. of_kind InSet (chunk_bytes (OfSet a.ledger)) _ _ (set.place_at a at) (λ p. refl) (c.headed.ensures.spaces at))

pub returns-in-Slab-clause-kinds : goal.returns-in-Slab-clause-kinds
returns-in-Slab-clause-kinds c = rw c.in-Slab.is c.headed-in-Slab.ensures.kinds

pub returns-in-Slab-clause-spaces : goal.returns-in-Slab-clause-spaces
returns-in-Slab-clause-spaces c =
    let a = c.in-Slab.slab in
    rw c.in-Slab.is (λ at. of_kind InSlab (chunk_bytes (OfSlab a.ledger)) _ _ (slab.place_at a at) (λ p. refl) (λ p is.
    let chunk = from_map (slab.place (number_of a.layout at.region)) (chunk_at a.layout at) p is in
    c.headed-in-Slab.ensures.spaces at chunk.0.size (ap (option_map (λ (x : Chunk). x.size)) chunk.1)))

pub returns-in-Generation-clause-kinds : goal.returns-in-Generation-clause-kinds
returns-in-Generation-clause-kinds c = rw c.in-Generation.is c.headed-in-Generation.ensures.kinds

pub returns-in-Generation-clause-spaces : goal.returns-in-Generation-clause-spaces
returns-in-Generation-clause-spaces c =
    let a = c.in-Generation.generation in
    rw c.in-Generation.is (λ at. of_kind InGeneration (chunk_bytes (OfGeneration a.ledger)) _ _ (generation.place_at a at) (λ p. refl) (c.headed-in-Generation.ensures.spaces at))
