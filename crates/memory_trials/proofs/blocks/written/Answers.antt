use Rattle.std.proofs.Common.{◌≡◌, length, Some, IsSome, false, refl, sym, ap, subst, arith}
use Rattle.addr_space.specs.declared.Addr.{Addr}
use Rattle.addr_space.specs.Footprint.{WritesInside}
use Rattle.addr_space.proofs.Apart.{Moves-inside}
use Rattle.addr_space.proofs.Carried.{IsInside-live}
use Rattle.addr_space.proofs.Written.{HasBytes-written}
use Rattle.ctx_blocks.specs.Layout.{Layout, block_at, gap_of, header_room, footprint}
use Rattle.ctx_blocks.specs.Steps.{PutsChunk}
use Rattle.ctx_blocks.specs.declared.parts.Block.{Block}
use Rattle.ctx_blocks.specs.declared.parts.Chunk.{Chunk}
use Rattle.ctx_blocks.proofs.New.{keeper_is}
use Rattle.memory_trials.proofs.blocks.written.Goals as goal
use Rattle.memory_trials.proofs.blocks.written.Goals.{After-keeper-number, After-write}

-- the keeper, before the chunk is cut
first : Block
first = record { number = 1; size = 1024; room = 784; live = 0; freed = 0 }

-- the chunk that is cut
cut : Chunk
cut = record { size = 5; room = 8; own = false }

owned : (c : After-keeper-number) → block_at c.in_ok-blocks.blocks c.keeper-number.result ≡ Some first
unfolding first
owned c = rw c.keeper-number.ensures (keeper_is c.in_ok-blocks.blocks first c.in_ok-blocks.ensures.blocks c.in_ok-blocks.ensures.chunks)

gap : (c : After-keeper-number) → header_room c.in_ok-blocks.blocks ≡ 8
gap c = ap gap_of c.in_ok-blocks.ensures.kind

pub cut-at-requires-clause-block : goal.cut-at-requires-clause-block
unfolding first
cut-at-requires-clause-block c =
    let now = (goal.at.cut-at-requires-clause-block c).After-keeper-number in
    (first, owned now, omega (arith, gap now))

live : (l m : Layout) (at : Addr) → PutsChunk l m at (Some cut) → (footprint m).live at ≡ Some 5
unfolding cut
live l m at puts = grind (arith, puts at)

pub write-requires : goal.write-requires
unfolding cut
write-requires c =
    IsInside-live (footprint c.cut-at.new.self) c.cut-at.new.space c.cut-at.result 5 (length c.args.bytes.now) c.cut-at.ensures.moves.agrees
    (live c.in_ok-blocks.blocks c.cut-at.new.self c.cut-at.result c.cut-at.ensures.chunk) (omega arith)

writes : (c : After-write) → WritesInside (footprint c.cut-at.new.self) c.cut-at.new.space c.write.new.self c.cut-at.result c.cut-at.result 5 c.args.bytes.now
unfolding cut
writes c = record {
  live = live c.in_ok-blocks.blocks c.cut-at.new.self c.cut-at.result c.cut-at.ensures.chunk;
  region = refl;
  first = omega arith;
  last = omega arith;
  writes = c.write.ensures.changes;
}

pub returns-clause-agrees : goal.returns-clause-agrees
returns-clause-agrees c =
    (Moves-inside (footprint c.cut-at.new.self) c.cut-at.new.space c.write.new.self c.cut-at.result c.cut-at.result 5 c.args.bytes.now c.cut-at.ensures.moves.agrees (writes c)).agrees

pub returns-clause-block : goal.returns-clause-block
unfolding first
returns-clause-block c =
    let now = (goal.at.returns-clause-block c).After-keeper-number in
    let put = c.cut-at.ensures.block first (owned now) in
    rw c.cut-at.ensures.region (grind (arith, put.at c.keeper-number.result, gap now))

pub returns-clause-known : goal.returns-clause-known
returns-clause-known c = λ k below.
    let at = c.cut-at.result in
    let within = c.cut-at.ensures.moves.agrees.sound.live_inside at 5 (writes c).live in
    let has = c.cut-at.ensures.moves.agrees.regions at.region within.0 within.1 in
    let bytes = HasBytes-written c.cut-at.new.space c.write.new.self at c.args.bytes.now has.0 has.1 (omega (arith, within.2, has.3)) c.write.ensures.changes in
    subst IsSome (sym (bytes k (omega arith))) refl
