use Rattle.slab_ctx.proofs.Words.{◌∙◌, refl, first_region}
use Rattle.slab_ctx.proofs.Lemmas.{IsSlotted_none}
use Rattle.slab_ctx.proofs.slots.Slots.reset.Goals as goal

pub returns-clause-blocks : goal.returns-clause-blocks
returns-clause-blocks c = rw c.reset.ensures.same.keeper (c.reset.ensures.blocks first_region c.requires.slots.keeper ∙ rw c.requires.slots.first refl)

pub returns-clause-slots : goal.returns-clause-slots
returns-clause-slots c =
    let slotted = c.requires.slots in
    let same = c.reset.ensures.same in
    IsSlotted_none c.reset.new.self c.args.self.now.size c.clear.new.self.entries (same.kind ∙ slotted.kind) (same.first_number ∙ slotted.first) slotted.least slotted.most
    (rw same.keeper (c.reset.ensures.blocks first_region slotted.keeper ∙ rw slotted.first refl)) c.reset.ensures.chunks
