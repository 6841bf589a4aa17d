use Rattle.slab_ctx.proofs.Words.{◌<◌, length, ◌+◌, ◌-◌, refl, arith, block_at, stack_at, one_value}
use Rattle.slab_ctx.proofs.Lemmas.{one-more, counted, IsSlotted-removed}
use Rattle.slab_ctx.proofs.slots.Slots.remove.Goals as goal
use Rattle.slab_ctx.proofs.slots.Slots.remove.Goals.{After-remove-block}

pub overflow_cast-at : goal.overflow_cast-at
overflow_cast-at c =
    let chunk = c.requires.chunk.0 in
    let placed = c.laid.ensures.placed c.args.at chunk c.requires.chunk.1 in
    let filled = c.requires.slots.filled c.args.at.region placed.block (c.requires.slots.owned c.args.at chunk c.requires.chunk.1) placed.owned in
    omega (arith, placed.last, filled.bytes)

-- the stack has room for one more offset
room : (c : After-remove-block) → c.remove-block.result.freed < length (stack_at c.args.self.now.stacks.entries c.args.at.region)
room c =
    let b = c.remove-block.result in
    let found = c.remove-block.ensures.was in
    one-more _ _ _ c.requires.slots c.args.at.region (c.requires.slots.owned c.args.at c.requires.chunk.0 c.requires.chunk.1) b found (c.laid.ensures.some c.args.at c.requires.chunk.0 b c.requires.chunk.1 found)

pub seek-self-requires : goal.seek-self-requires
seek-self-requires c = omega (arith, room (goal.at.seek-self-requires c).After-remove-block)

pub push-requires-clause-depth : goal.push-requires-clause-depth
push-requires-clause-depth c = room (goal.at.push-requires-clause-depth c).After-remove-block

pub returns-clause-slots : goal.returns-clause-slots
returns-clause-slots c =
    let l = c.args.self.now.blocks in
    let at = c.args.at in
    let chunk = c.requires.chunk.0 in
    let has = c.requires.chunk.1 in
    let b = c.remove-block.result in
    let found = c.remove-block.ensures.was in
    let placed = c.laid.ensures.placed at chunk has in
    let last = rw (one_value (block_at l at.region) placed.block b placed.owned found) at placed.last in
    IsSlotted-removed _ _ _ _ at c.requires.slots c.remove-block.ensures.same (c.requires.slots.owned at chunk has) b found c.remove-block.ensures.chunk
    c.push.new.stacks.entries (grind (arith, c.push.ensures at.region)) (λ other apart. grind (arith, c.push.ensures other)) chunk has last (c.laid.ensures.some at chunk b has found)
    (record b { live = b.live - 1; freed = b.freed + 1 }) refl refl refl refl (c.remove-block.ensures.block b found)

pub returns-clause-block : goal.returns-clause-block
returns-clause-block c =
    let b = c.remove-block.result in
    let found = c.remove-block.ensures.was in
    let has = c.requires.chunk.1 in (
      b,
      found,
      c.laid.ensures.some c.args.at c.requires.chunk.0 b has found,
      counted _ _ _ _ c.args.at.region b (record b { live = b.live - 1; freed = b.freed + 1 }) c.requires.slots (c.requires.slots.owned c.args.at c.requires.chunk.0 has) found (c.remove-block.ensures.block b found) refl refl,
    )
