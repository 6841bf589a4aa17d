use Rattle.std.proofs.Common.{ap, refl}
use Rattle.addr_space.proofs.Options.{if_ok}
use Rattle.alloc_set.specs.State as set
use Rattle.slab_ctx.specs.State as slab
use Rattle.generation_ctx.specs.State as generation
use Rattle.bump_ctx.specs.State as bump
use Rattle.any_ctx.specs.declared.any.AnyCtx.TheVariants.{AllocSet, Slab, Generation, Bump}
use Rattle.any_ctx.specs.Ledgers.{OfSet, OfSlab, OfGeneration, OfBump, InSet, InSlab, InGeneration, InBump, taken_as}
use Rattle.any_ctx.proofs.Steps.{takes}
use Rattle.any_ctx.proofs.Refusals.{take_big, refuses, refuses_size}
use Rattle.any_ctx.proofs.any.AnyCtx.alloc.Goals as goal

pub returns-in-AllocSet-clause-taken : goal.returns-in-AllocSet-clause-taken
returns-in-AllocSet-clause-taken c =
    rw c.in-AllocSet.is (if_ok c.alloc.result (λ at had. takes OfSet InSet (set.place_at c.in-AllocSet.set) (set.place_at c.alloc.new.self) (λ x. refl) (λ x. refl) had.answer had.is refl (ap OfSet had.ledger) had.place had.asked) c.alloc.ensures.taken)

pub returns-in-AllocSet-clause-refused : goal.returns-in-AllocSet-clause-refused
returns-in-AllocSet-clause-refused c =
    rw c.in-AllocSet.is (refuses _ c.alloc.result (λ e. take_big (AllocSet c.in-AllocSet.set) c.args.space.now c.args.size (c.alloc.ensures.too_big.0 e)) (λ e. ap (taken_as OfSet InSet) (c.alloc.ensures.no_space e)) c.alloc.ensures.no_other)

pub returns-in-AllocSet-clause-keeps : goal.returns-in-AllocSet-clause-keeps
returns-in-AllocSet-clause-keeps c = rw c.in-AllocSet.is c.alloc.ensures.keeps

pub returns-in-Slab-clause-taken : goal.returns-in-Slab-clause-taken
returns-in-Slab-clause-taken c =
    rw c.in-Slab.is (if_ok c.alloc-in-Slab.result (λ at had. takes OfSlab InSlab (slab.place_at c.in-Slab.slab) (slab.place_at c.alloc-in-Slab.new.self) (λ x. refl) (λ x. refl) had.answer had.is refl (ap OfSlab had.ledger) had.place had.asked) c.alloc-in-Slab.ensures.taken)

pub returns-in-Slab-clause-refused : goal.returns-in-Slab-clause-refused
returns-in-Slab-clause-refused c =
    rw c.in-Slab.is (refuses_size _ c.alloc-in-Slab.result (λ e. take_big (Slab c.in-Slab.slab) c.args.space.now c.args.size (c.alloc-in-Slab.ensures.too_big.0 e)) (λ e. ap (taken_as OfSlab InSlab) (c.alloc-in-Slab.ensures.wrong_size.0 e)) (λ e. ap (taken_as OfSlab InSlab) (c.alloc-in-Slab.ensures.no_space e)) c.alloc-in-Slab.ensures.no_other)

pub returns-in-Slab-clause-keeps : goal.returns-in-Slab-clause-keeps
returns-in-Slab-clause-keeps c = rw c.in-Slab.is c.alloc-in-Slab.ensures.keeps

pub returns-in-Generation-clause-taken : goal.returns-in-Generation-clause-taken
returns-in-Generation-clause-taken c =
    rw c.in-Generation.is (if_ok c.alloc-in-Generation.result (λ at had. takes OfGeneration InGeneration (generation.place_at c.in-Generation.generation) (generation.place_at c.alloc-in-Generation.new.self) (λ x. refl) (λ x. refl) had.answer had.is refl (ap OfGeneration had.ledger) had.place had.asked) c.alloc-in-Generation.ensures.taken)

pub returns-in-Generation-clause-refused : goal.returns-in-Generation-clause-refused
returns-in-Generation-clause-refused c =
    rw c.in-Generation.is (refuses _ c.alloc-in-Generation.result (λ e. take_big (Generation c.in-Generation.generation) c.args.space.now c.args.size (c.alloc-in-Generation.ensures.too_big.0 e)) (λ e. ap (taken_as OfGeneration InGeneration) (c.alloc-in-Generation.ensures.no_space e)) c.alloc-in-Generation.ensures.no_other)

pub returns-in-Generation-clause-keeps : goal.returns-in-Generation-clause-keeps
returns-in-Generation-clause-keeps c = rw c.in-Generation.is c.alloc-in-Generation.ensures.keeps

pub returns-in-Bump-clause-taken : goal.returns-in-Bump-clause-taken
returns-in-Bump-clause-taken c =
    rw c.in-Bump.is (if_ok c.alloc-in-Bump.result (λ at had. takes OfBump InBump (bump.place_at c.in-Bump.bump) (bump.place_at c.alloc-in-Bump.new.self) (λ x. refl) (λ x. refl) had.answer had.is refl (ap OfBump had.ledger) had.place had.asked) c.alloc-in-Bump.ensures.taken)

pub returns-in-Bump-clause-refused : goal.returns-in-Bump-clause-refused
returns-in-Bump-clause-refused c =
    rw c.in-Bump.is (refuses _ c.alloc-in-Bump.result (λ e. take_big (Bump c.in-Bump.bump) c.args.space.now c.args.size (c.alloc-in-Bump.ensures.too_big.0 e)) (λ e. ap (taken_as OfBump InBump) (c.alloc-in-Bump.ensures.no_space e)) c.alloc-in-Bump.ensures.no_other)

pub returns-in-Bump-clause-keeps : goal.returns-in-Bump-clause-keeps
returns-in-Bump-clause-keeps c = rw c.in-Bump.is c.alloc-in-Bump.ensures.keeps
