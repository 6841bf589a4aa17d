use Rattle.slab_ctx.proofs.Words.{◌≡◌, length, sym, ◌∙◌, per_block}
use Rattle.slab_ctx.proofs.Lemmas.{IsSlotted-added}
use Rattle.slab_ctx.proofs.slots.Slots.add.Goals as goal

pub returns-clause-slots : goal.returns-clause-slots
returns-clause-slots c =
    let stack = c.in-Ok.stack in
    let long : length stack.items ≡ per_block c.args.self.now.size = sym stack.ok.0 ∙ c.in-Ok.ensures.len ∙ c.per_block.ensures.value in
    let opened = rw c.reserve.ensures.entries at c.open.ensures in
    IsSlotted-added c.args.self.now.blocks c.add.new.self c.args.self.now.size c.args.self.now.stacks.entries c.open.new.stacks.entries c.in_ok-number.number stack.items c.requires.slots c.in_ok-number.ensures.same c.in_ok-number.ensures.fresh c.in_ok-number.ensures.block c.in_ok-number.ensures.chunks opened long
