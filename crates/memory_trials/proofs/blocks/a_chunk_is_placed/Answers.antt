use Rattle.std.proofs.Common.{◌≡◌, Some, None, ap, arith, refl}
use Rattle.ctx_blocks.specs.Layout.{block_at, chunk_at, gap_of, header_room}
use Rattle.ctx_blocks.specs.declared.parts.Block.{Block}
use Rattle.ctx_blocks.proofs.New.{keeper_is}
use Rattle.memory_trials.proofs.blocks.a_chunk_is_placed.Given.{Over}
use Rattle.memory_trials.proofs.blocks.a_chunk_is_placed.Goals as goal
use Rattle.memory_trials.proofs.blocks.a_chunk_is_placed.Goals.{After-keeper-number}

-- the keeper, before a chunk is cut
first : Block
first = record { number = 0; size = 1024; room = 784; live = 0; freed = 0 }

owned : (g : Over) (c : After-keeper-number g) → block_at c.in_ok-blocks.blocks c.keeper-number.result ≡ Some first
unfolding first
owned g c = rw c.keeper-number.ensures (keeper_is c.in_ok-blocks.blocks first c.in_ok-blocks.ensures.blocks c.in_ok-blocks.ensures.chunks)

gap : (g : Over) (c : After-keeper-number g) → header_room c.in_ok-blocks.blocks ≡ 8
gap g c = ap gap_of c.in_ok-blocks.ensures.kind

pub cut-at-requires-clause-block : goal.cut-at-requires-clause-block
unfolding first
cut-at-requires-clause-block g c =
    let now = (goal.at.cut-at-requires-clause-block g c).After-keeper-number in
    (first, owned g now, omega (arith, gap g now))

pub place-requires-clause-clear : goal.place-requires-clause-clear
unfolding first
place-requires-clause-clear g c = λ other it found region.
    (let before : chunk_at c.in_ok-blocks.blocks other ≡ None = rw c.in_ok-blocks.ensures.chunks refl in
    absurd (grind (arith, c.remove.ensures.chunk other, c.cut-at.ensures.chunk other, before, found)))
