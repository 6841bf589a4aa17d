use Rattle.slab_ctx.proofs.Words.{ap, arith, items_of}
use Rattle.slab_ctx.proofs.slots.close.Goals as goal

pub returns : goal.returns
returns c = λ other differs.
    ap items_of (c.swap_remove.ensures.updates.2 other (grind arith))
