use Rattle.slab_ctx.proofs.Words.{◌+◌, ◌-◌, ap, ◌∙◌, refl, arith, Addr, Block, IsFree}
use Rattle.slab_ctx.proofs.Lemmas.{gap-is, start-is, slot-whole, depth-few, clear-of, counted, IsSlotted-placed}
use Rattle.slab_ctx.proofs.slots.Slots.reuse.Goals as goal

pub seek-self-requires : goal.seek-self-requires
seek-self-requires c = omega (arith, depth-few _ _ _ c.requires.slots c.args.number c.requires.not_keeper c.requires.block.0 c.requires.block.1 c.args.depth c.requires.block.2)

pub offset_at-requires-clause-depth : goal.offset_at-requires-clause-depth
offset_at-requires-clause-depth c = depth-few _ _ _ c.requires.slots c.args.number c.requires.not_keeper c.requires.block.0 c.requires.block.1 c.args.depth c.requires.block.2

free_at : (c : goal.After-place-arg-2-1) → IsFree c.args.self.now.blocks c.args.self.now.size c.args.number c.requires.block.0 c.from.result
free_at c =
    rw (c.from.ensures ∙ c.offset_at.ensures) ((c.requires.slots.filled c.args.number c.requires.block.0 c.requires.not_keeper c.requires.block.1).free c.args.depth (omega (arith, c.requires.block.2)))

pub place-requires-clause-block : goal.place-requires-clause-block
place-requires-clause-block c =
    let free = free_at c in
    (c.requires.block.0, c.requires.block.1, omega (arith, free.last, c.stride-room.ensures.value), omega (arith, c.requires.block.2))

pub place-requires-clause-first : goal.place-requires-clause-first
place-requires-clause-first c =
    omega (arith, start-is _ _ _ c.requires.slots c.args.number c.requires.not_keeper, gap-is _ _ _ c.requires.slots, (free_at c).slot.at_slot)

pub place-requires-clause-whole : goal.place-requires-clause-whole
place-requires-clause-whole c = slot-whole c.args.self.now.size c.from.result (free_at c).slot

pub place-requires-clause-clear : goal.place-requires-clause-clear
place-requires-clause-clear c =
    clear-of _ _ _ c.requires.slots c.args.number c.requires.not_keeper c.requires.block.0 c.requires.block.1 c.from.result (c.stride-room.result - 8) (ap (λ n. n - 8) c.stride-room.ensures.value) (free_at c)

pub returns-clause-slots : goal.returns-clause-slots
returns-clause-slots c =
    let at : Addr = record { region = c.args.number; offset = c.from.result } in
    let b = c.requires.block.0 in
    let found = c.requires.block.1 in
    let now : Block = record b { live = b.live + 1; freed = b.freed - 1 } in
    IsSlotted-placed _ _ _ _ at c.requires.slots c.place.ensures.same c.requires.not_keeper b found (rw c.stride-room.ensures.value at c.place.ensures.chunk)
    now refl refl (c.place.ensures.block b found) c.args.depth refl (omega (arith, c.requires.block.2)) c.requires.block.2 (c.from.ensures ∙ c.offset_at.ensures)

pub returns-clause-block : goal.returns-clause-block
returns-clause-block c = λ b found.
    counted _ _ _ _ c.args.number b (record b { live = b.live + 1; freed = b.freed - 1 }) c.requires.slots c.requires.not_keeper found (c.place.ensures.block b found) refl refl
