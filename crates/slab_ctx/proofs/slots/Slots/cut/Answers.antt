use Rattle.slab_ctx.proofs.Words.{◌+◌, ◌-◌, sym, ◌∙◌, refl, arith, Block, header_room}
use Rattle.slab_ctx.proofs.Lemmas.{stride-whole, gap-is, counted, IsSlotted-cut}
use Rattle.slab_ctx.proofs.slots.Slots.cut.Goals as goal

pub cut-requires-clause-whole : goal.cut-requires-clause-whole
cut-requires-clause-whole c = omega (arith, c.stride-room.ensures.value, c.stride-room.ensures.least, stride-whole c.args.self.now.size)

pub returns-clause-slots : goal.returns-clause-slots
returns-clause-slots c =
    let slotted = c.requires.slots in
    let b = c.requires.block.0 in
    let found = c.requires.block.1 in
    let region = c.cut.ensures.region in
    let gap = gap-is _ _ _ slotted in
    let now : Block = record b { room = b.room - (header_room c.args.self.now.blocks + (c.stride-room.result - 8)); live = b.live + 1 } in
    IsSlotted-cut _ _ _ _ c.cut.result slotted c.cut.ensures.same (λ e. c.requires.not_keeper (sym region ∙ e)) b (rw region found) (rw c.stride-room.ensures.value at c.cut.ensures.chunk)
    now refl refl (rw region (c.cut.ensures.block b found)) (omega (arith, gap, c.stride-room.ensures.value, c.stride-room.ensures.least, c.requires.block.2)) refl (omega (arith, c.cut.ensures.offset b found, gap))

pub returns-clause-block : goal.returns-clause-block
returns-clause-block c = λ b found.
    counted _ _ _ _ c.args.number b (record b { room = b.room - (header_room c.args.self.now.blocks + (c.stride-room.result - 8)); live = b.live + 1 }) c.requires.slots c.requires.not_keeper found (c.cut.ensures.block b found) refl refl
