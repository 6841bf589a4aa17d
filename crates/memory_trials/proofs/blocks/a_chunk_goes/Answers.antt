use Rattle.std.proofs.Common.{Some, false}
use Rattle.ctx_blocks.specs.declared.parts.Chunk.{Chunk}
use Rattle.ctx_blocks.proofs.Put.{chunk_here}
use Rattle.memory_trials.proofs.blocks.a_chunk_goes.Goals as goal

pub remove-was-requires : goal.remove-was-requires
remove-was-requires g c =
    let cut : Chunk = record { size = 20; room = 24; own = false } in
    let less : Chunk = record { size = 8; room = 24; own = false } in
    (less, chunk_here c.cut-at.new.self c.set_size.new.self c.cut-at.result (Some less) (c.set_size.ensures.chunk cut (chunk_here c.add.new.self c.cut-at.new.self c.cut-at.result (Some cut) c.cut-at.ensures.chunk)))
