use Rattle.generation_ctx.proofs.Words.{◌≡◌, ◌∙◌, ℕ, Some, option_map, ap, Agrees, if_ok, on_ok, on_err, either_way, both_err, Moves-same, KeepsBut-same, place_in, state_of, chunk_at, move_whole}
use Rattle.generation_ctx.proofs.Lemmas.{chunk_kept, places, places_move}
use Rattle.generation_ctx.specs.State.{footprint}
use Rattle.ctx_blocks.specs.Layout.{footprint as blocks_footprint}
use Rattle.generation_ctx.proofs.GenerationCtx.realloc.Goals as goal

pub realloc-resized-requires-clause-chunk : goal.realloc-resized-requires-clause-chunk
realloc-resized-requires-clause-chunk c =
    let view = ap state_of c.deref_mut.ensures.value ∙ c.self.view_is in
    chunk_kept (chunk_at c.deref_mut.result.now.blocks c.args.at) c.args.keep (rw (← view) at c.requires.live) (rw (← view) at c.requires.keep)

pub returns-clause-resized : goal.returns-clause-resized
returns-clause-resized c =
    let l = c.deref_mut.result.now.blocks in
    let m = c.realloc-resized.new.self.blocks in
    let agrees : Agrees (blocks_footprint l) c.args.space.now = rw (← (ap state_of c.deref_mut.ensures.value ∙ c.self.view_is)) at c.requires.agrees in
    rw (← (ap state_of c.deref_mut.ensures.value ∙ c.self.view_is)) (if_ok c.realloc-resized.result (λ to had.
    (let there : places l c.args.at ≡ Some (place_in l c.args.at.region had.old) = ap (option_map (place_in l c.args.at.region)) had.was in
    rw there (record {
      answer = had.answer;
      is = had.step;
      ledger = had.ledger;
      place = places_move l m _ _ agrees had.moves.agrees had.numbers c.args.at to _ had.answer.place had.chunk (ap (λ (n : ℕ). record { block = n; room = had.answer.place.room; own = had.answer.place.own }) had.number);
      asked = had.asked;
      stays = had.stays;
    }))) c.realloc-resized.ensures.ok)

pub returns-clause-moves : goal.returns-clause-moves
returns-clause-moves c =
    rw (← (ap state_of c.deref_mut.ensures.value ∙ c.self.view_is)) (either_way c.realloc-resized.result
    (on_ok c.realloc-resized.result (λ at had. had.moves) c.realloc-resized.ensures.ok)
    (both_err c.realloc-resized.result (λ same same_space. Moves-same _ _ _ _ (rw (← (ap state_of c.deref_mut.ensures.value ∙ c.self.view_is)) at c.requires.agrees) (ap footprint same) same_space) c.realloc-resized.ensures.err c.realloc-resized.ensures.err_space))

pub returns-clause-keeps : goal.returns-clause-keeps
returns-clause-keeps c =
    rw (← (ap state_of c.deref_mut.ensures.value ∙ c.self.view_is)) (either_way c.realloc-resized.result
    (on_ok c.realloc-resized.result (λ at had. had.keeps) c.realloc-resized.ensures.ok)
    (on_err c.realloc-resized.result (λ same_space. KeepsBut-same _ (footprint (state_of c.deref_mut.result.now)) (footprint (state_of c.realloc-resized.new.self)) _ _ same_space) c.realloc-resized.ensures.err_space))

pub returns-clause-aligned : goal.returns-clause-aligned
returns-clause-aligned c =
    let l = c.deref_mut.result.now.blocks in
    let m = c.realloc-resized.new.self.blocks in
    if_ok c.realloc-resized.result (λ to had. move_whole m (rw c.deref.ensures at c.laid.ensures.placed) l c.args.at to _ had.chunk) c.realloc-resized.ensures.ok
