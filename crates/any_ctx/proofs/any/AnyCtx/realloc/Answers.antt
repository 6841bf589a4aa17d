use Rattle.std.proofs.Common.{ap, refl, arith}
use Rattle.addr_space.proofs.Options.{if_ok}
use Rattle.alloc_set.specs.State as set
use Rattle.slab_ctx.specs.State as slab
use Rattle.generation_ctx.specs.State as generation
use Rattle.any_ctx.specs.declared.any.AnyCtx.TheVariants.{AllocSet, Slab, Generation}
use Rattle.any_ctx.specs.Ledgers.{OfSet, OfSlab, OfGeneration, InSet, InSlab, InGeneration, resized_as}
use Rattle.any_ctx.proofs.Steps.{resizes, if_some}
use Rattle.any_ctx.proofs.Refusals.{resize_big, refusal_cases, refuses, refuses_resize}
use Rattle.any_ctx.proofs.any.AnyCtx.realloc.Goals as goal

pub returns-in-AllocSet-clause-resized : goal.returns-in-AllocSet-clause-resized
returns-in-AllocSet-clause-resized c =
    rw c.in-AllocSet.is (if_ok c.realloc.result (λ to. if_some _ _ InSet (set.place_at c.in-AllocSet.set c.args.at) (λ was had. resizes OfSet InSet (set.place_at c.in-AllocSet.set) (set.place_at c.realloc.new.self) (λ x. refl) (λ x. refl) had.answer had.is refl (ap OfSet had.ledger) had.place had.asked had.stays)) c.realloc.ensures.resized)

pub returns-in-AllocSet-clause-refused : goal.returns-in-AllocSet-clause-refused
returns-in-AllocSet-clause-refused c =
    rw c.in-AllocSet.is (refuses _ c.realloc.result (λ e. resize_big (AllocSet c.in-AllocSet.set) c.args.space.now c.args.at c.args.size (c.realloc.ensures.too_big.0 e)) (λ e. if_some _ _ InSet (set.place_at c.in-AllocSet.set c.args.at) (λ was h. ap (resized_as OfSet InSet) h) (c.realloc.ensures.no_space e)) c.realloc.ensures.no_other)

pub returns-in-AllocSet-clause-keeps : goal.returns-in-AllocSet-clause-keeps
returns-in-AllocSet-clause-keeps c = rw c.in-AllocSet.is c.realloc.ensures.keeps

pub returns-in-Slab-clause-resized : goal.returns-in-Slab-clause-resized
returns-in-Slab-clause-resized c =
    rw c.in-Slab.is (if_ok c.realloc-in-Slab.result (λ to. if_some _ _ InSlab (slab.place_at c.in-Slab.slab c.args.at) (λ was had. resizes OfSlab InSlab (slab.place_at c.in-Slab.slab) (slab.place_at c.realloc-in-Slab.new.self) (λ x. refl) (λ x. refl) had.answer had.is refl (ap OfSlab had.ledger) had.place had.asked had.stays)) c.realloc-in-Slab.ensures.resized)

pub returns-in-Slab-clause-refused : goal.returns-in-Slab-clause-refused
returns-in-Slab-clause-refused c =
    rw c.in-Slab.is (refuses_resize _ c.realloc-in-Slab.result (λ e. resize_big (Slab c.in-Slab.slab) c.args.space.now c.args.at c.args.size (c.realloc-in-Slab.ensures.too_big.0 e)) (λ e. if_some _ _ InSlab (slab.place_at c.in-Slab.slab c.args.at) (λ was h. ap (resized_as OfSlab InSlab) (h.0 e)) c.realloc-in-Slab.ensures.unsupported) c.realloc-in-Slab.ensures.no_other)

pub returns-in-Generation-clause-resized : goal.returns-in-Generation-clause-resized
returns-in-Generation-clause-resized c =
    rw c.in-Generation.is (if_ok c.realloc-in-Generation.result (λ to. if_some _ _ InGeneration (generation.place_at c.in-Generation.generation c.args.at) (λ was had. resizes OfGeneration InGeneration (generation.place_at c.in-Generation.generation) (generation.place_at c.realloc-in-Generation.new.self) (λ x. refl) (λ x. refl) had.answer had.is refl (ap OfGeneration had.ledger) had.place had.asked had.stays)) c.realloc-in-Generation.ensures.resized)

pub returns-in-Generation-clause-refused : goal.returns-in-Generation-clause-refused
returns-in-Generation-clause-refused c =
    rw c.in-Generation.is (refuses _ c.realloc-in-Generation.result (λ e. resize_big (Generation c.in-Generation.generation) c.args.space.now c.args.at c.args.size (c.realloc-in-Generation.ensures.too_big.0 e)) (λ e. if_some _ _ InGeneration (generation.place_at c.in-Generation.generation c.args.at) (λ was h. ap (resized_as OfGeneration InGeneration) h) (c.realloc-in-Generation.ensures.no_space e)) c.realloc-in-Generation.ensures.no_other)

pub returns-in-Generation-clause-keeps : goal.returns-in-Generation-clause-keeps
returns-in-Generation-clause-keeps c = rw c.in-Generation.is c.realloc-in-Generation.ensures.keeps

pub returns-in-Bump-clause-too_big : goal.returns-in-Bump-clause-too_big
returns-in-Bump-clause-too_big c = let refused = c.realloc-in-Bump.ensures.refused in grind (arith, refusal_cases)
