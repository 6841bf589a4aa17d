use Rattle.slab_ctx.proofs.Words.{arith}
use Rattle.slab_ctx.proofs.Lemmas.{room-left}
use Rattle.slab_ctx.proofs.slots.Slots.take.Goals as goal

pub cut-requires-clause-block : goal.cut-requires-clause-block
cut-requires-clause-block c =
    let l = c.args.self.now.blocks in
    let b = c.args.block in
    let found = c.requires.block in
    (b, found, room-left l c.args.self.now.size c.args.self.now.stacks.entries c.requires.slots c.args.number c.requires.not_keeper b found (omega arith) c.requires.free)
