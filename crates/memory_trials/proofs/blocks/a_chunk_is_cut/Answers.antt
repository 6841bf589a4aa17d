use Rattle.std.proofs.Common.{false, arith}
use Rattle.ctx_blocks.specs.declared.parts.Chunk.{Chunk}
use Rattle.memory_trials.proofs.blocks.a_chunk_is_cut.Goals as goal

pub header-requires-clause-chunk : goal.header-requires-clause-chunk
header-requires-clause-chunk g c =
    let cut : Chunk = record { size = 20; room = 24; own = false } in
    (cut, grind (arith, c.cut-at.ensures.chunk c.cut-at.result))
