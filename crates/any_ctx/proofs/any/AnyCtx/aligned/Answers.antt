use Rattle.any_ctx.proofs.any.AnyCtx.aligned.Goals as goal

pub returns-in-AllocSet : goal.returns-in-AllocSet
returns-in-AllocSet c = rw c.in-AllocSet.is c.aligned.ensures

pub returns-in-Slab : goal.returns-in-Slab
returns-in-Slab c = rw c.in-Slab.is c.aligned-in-Slab.ensures

pub returns-in-Generation : goal.returns-in-Generation
returns-in-Generation c = rw c.in-Generation.is c.aligned-in-Generation.ensures

pub returns-in-Bump : goal.returns-in-Bump
returns-in-Bump c = rw c.in-Bump.is c.aligned-in-Bump.ensures
