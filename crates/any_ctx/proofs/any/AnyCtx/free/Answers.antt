use Rattle.any_ctx.proofs.any.AnyCtx.free.Goals as goal

pub returns-in-AllocSet-clause-keeps : goal.returns-in-AllocSet-clause-keeps
returns-in-AllocSet-clause-keeps c = rw c.in-AllocSet.is c.free.ensures.keeps

pub returns-in-Slab-clause-keeps : goal.returns-in-Slab-clause-keeps
returns-in-Slab-clause-keeps c = simp c.in-Slab.is c.free-in-Slab.ensures.keeps

pub returns-in-Generation-clause-keeps : goal.returns-in-Generation-clause-keeps
returns-in-Generation-clause-keeps c = rw c.in-Generation.is c.free-in-Generation.ensures.keeps
