use Rattle.generation_ctx.proofs.Words.{◌∙◌, ℕ, Some, ap, Agrees, if_ok, on_ok, on_err, either_way, both_err, Moves-same, Keeps-same, state_of, chunk_whole, places_put}
use Rattle.generation_ctx.proofs.Lemmas.{place}
use Rattle.ctx_blocks.specs.Layout.{footprint as blocks_footprint}
use Rattle.generation_ctx.specs.State.{footprint}
use Rattle.generation_ctx.proofs.GenerationCtx.alloc.Goals as goal

pub returns-clause-taken : goal.returns-clause-taken
returns-clause-taken c =
    let l = c.deref_mut.result.now.blocks in
    let m = c.alloc-taken.new.self.blocks in
    let agrees : Agrees (blocks_footprint l) c.args.space.now = rw (← (ap state_of c.deref_mut.ensures.value ∙ c.self.view_is)) at c.requires in
    rw (← (ap state_of c.deref_mut.ensures.value ∙ c.self.view_is)) (if_ok c.alloc-taken.result (λ at had. record {
      answer = had.answer;
      is = had.is;
      ledger = had.does.ledger;
      place = places_put place l m _ _ agrees had.does.moves.agrees had.does.numbers at _ (Some had.answer.place) had.does.chunk (ap (λ (n : ℕ). Some (record { block = n; room = had.answer.place.room; own = had.answer.place.own })) had.does.number);
      asked = had.does.asked;
    }) c.alloc-taken.ensures.ok)

pub returns-clause-moves : goal.returns-clause-moves
returns-clause-moves c =
    rw (← (ap state_of c.deref_mut.ensures.value ∙ c.self.view_is)) (either_way c.alloc-taken.result
    (on_ok c.alloc-taken.result (λ at had. had.does.moves) c.alloc-taken.ensures.ok)
    (both_err c.alloc-taken.result (λ same same_space. Moves-same _ _ _ _ (rw (← (ap state_of c.deref_mut.ensures.value ∙ c.self.view_is)) at c.requires) (ap footprint same) same_space) c.alloc-taken.ensures.err c.alloc-taken.ensures.err_space))

pub returns-clause-keeps : goal.returns-clause-keeps
returns-clause-keeps c =
    rw (← (ap state_of c.deref_mut.ensures.value ∙ c.self.view_is)) (either_way c.alloc-taken.result
    (on_ok c.alloc-taken.result (λ at had. had.does.keeps) c.alloc-taken.ensures.ok)
    (on_err c.alloc-taken.result (λ same_space. Keeps-same (footprint (state_of c.deref_mut.result.now)) (footprint (state_of c.alloc-taken.new.self)) _ _ same_space) c.alloc-taken.ensures.err_space))

pub returns-clause-aligned : goal.returns-clause-aligned
returns-clause-aligned c =
    let l = c.deref_mut.result.now.blocks in
    let m = c.alloc-taken.new.self.blocks in
    if_ok c.alloc-taken.result (λ at had. chunk_whole m (rw c.deref.ensures at c.laid.ensures.placed) l at _ had.does.chunk) c.alloc-taken.ensures.ok
