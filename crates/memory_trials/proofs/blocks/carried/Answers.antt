use Rattle.std.proofs.Common.{◌≡◌, Some, false, ap, arith}
use Rattle.addr_space.proofs.Carried.{IsInside-live}
use Rattle.ctx_blocks.specs.Layout.{chunk_at, gap_of, header_room, footprint}
use Rattle.ctx_blocks.specs.declared.parts.Chunk.{Chunk}
use Rattle.ctx_blocks.proofs.Laid.{live_is}
use Rattle.memory_trials.proofs.blocks.carried.Goals as goal

pub cut-to-requires-clause-block : goal.cut-to-requires-clause-block
cut-to-requires-clause-block c =
    let gap : header_room c.args.blocks.now ≡ 8 = ap gap_of c.requires.kind in
    (record { number = 1; size = 1024; room = 768; live = 1; freed = 0 }, c.requires.block, omega (arith, gap))

pub returns-clause-inside : goal.returns-clause-inside
returns-clause-inside c =
    let to : Chunk = record { size = 16; room = 16; own = false } in
    let found : chunk_at c.cut-to.new.self c.cut-to.result ≡ Some to = grind (arith, c.cut-to.ensures.chunk c.cut-to.result) in
    IsInside-live (footprint c.cut-to.new.self) c.carry.new.space c.cut-to.result 16 5 c.carry.ensures.moves.agrees (live_is c.cut-to.new.self c.cut-to.result to found) (omega arith)
