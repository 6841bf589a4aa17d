use Rattle.generation_ctx.proofs.Words.{None, refl, ap, ◌∙◌, Agrees, chunk_at, places_put, numbers_among, state_of}
use Rattle.generation_ctx.proofs.Lemmas.{chunk_there, place}
use Rattle.ctx_blocks.specs.Layout.{footprint as blocks_footprint}
use Rattle.generation_ctx.proofs.GenerationCtx.free.Goals as goal

pub free-requires-clause-chunk : goal.free-requires-clause-chunk
free-requires-clause-chunk c =
    chunk_there (chunk_at c.deref_mut.result.now.blocks c.args.at) (rw (← (ap state_of c.deref_mut.ensures.value ∙ c.self.view_is)) at c.requires.live)

pub returns-clause-place : goal.returns-clause-place
returns-clause-place c =
    let l = c.deref_mut.result.now.blocks in
    let m = c.free.new.self.blocks in
    let f = c.free.ensures.frees in
    let agrees : Agrees (blocks_footprint l) c.args.space.now = rw (← (ap state_of c.deref_mut.ensures.value ∙ c.self.view_is)) at c.requires.agrees in
    rw (← (ap state_of c.deref_mut.ensures.value ∙ c.self.view_is)) (places_put place l m c.args.space.now c.free.new.space agrees f.moves.agrees (numbers_among l m f.among) c.args.at None None f.chunk refl)

pub returns-clause-keeps : goal.returns-clause-keeps
returns-clause-keeps c = rw (← (ap state_of c.deref_mut.ensures.value ∙ c.self.view_is)) c.free.ensures.frees.keeps
