use Rattle.slab_ctx.proofs.Words.{refl, arith}
use Rattle.slab_ctx.proofs.Lemmas.{IsSlotted-drop}
use Rattle.slab_ctx.proofs.slots.Slots.give.Goals as goal

pub returns-clause-slots : goal.returns-clause-slots
returns-clause-slots c =
    let slotted = c.requires.slots in
    IsSlotted-drop _ _ _ _ c.close.new.stacks.entries c.args.number slotted c.give.ensures.same c.requires.not_keeper
    (λ at apart. rw c.give.ensures.chunks refl) c.close.ensures (λ at chunk region found. let was = rw c.give.ensures.chunks at found in (slotted.chunk at chunk was, slotted.slot at chunk was)) c.give.ensures.block

pub returns-clause-total : goal.returns-clause-total
returns-clause-total c =
    let b = c.requires.block.0 in
    let found = c.requires.block.1 in
    let filled = c.requires.slots.filled c.args.number b c.requires.not_keeper found in
    omega (arith, c.give.ensures.total b found, filled.bytes)
