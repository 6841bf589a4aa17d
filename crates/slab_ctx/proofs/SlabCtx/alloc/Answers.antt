use Rattle.slab_ctx.proofs.Words.{Some, ap, ◌∙◌, if_ok, on_ok, on_err, either_way, both_err, Moves-same, Keeps-same, chunk_whole, places_put, state_of, footprint, place}
use Rattle.slab_ctx.proofs.Lemmas.{Agrees_plain}
use Rattle.slab_ctx.proofs.SlabCtx.alloc.Goals as goal

pub returns-clause-taken : goal.returns-clause-taken
returns-clause-taken c =
    let b = c.deref_mut.result.now in
    let n = c.alloc-taken.new.self in
    let l = b.slots.blocks in
    let m = n.slots.blocks in
    let agrees = Agrees_plain b.slots.size l c.args.space.now (rw (← (ap state_of c.deref_mut.ensures.value ∙ c.self.view_is)) at c.requires) in
    rw (← (ap state_of c.deref_mut.ensures.value ∙ c.self.view_is)) (if_ok c.alloc-taken.result (λ at had. record {
      answer = had.answer;
      is = had.is;
      ledger = had.does.ledger;
      place = places_put place l m _ _ agrees (Agrees_plain n.slots.size m _ had.does.moves.agrees) had.does.numbers at _ (Some had.answer.place) had.does.chunk (ap Some had.does.number);
      asked = had.does.asked;
    }) c.alloc-taken.ensures.ok)

pub returns-clause-moves : goal.returns-clause-moves
returns-clause-moves c =
    rw (← (ap state_of c.deref_mut.ensures.value ∙ c.self.view_is)) (either_way c.alloc-taken.result
    (on_ok c.alloc-taken.result (λ at had. had.does.moves) c.alloc-taken.ensures.ok)
    (both_err c.alloc-taken.result (λ same same_space. Moves-same _ _ _ _ (rw (← (ap state_of c.deref_mut.ensures.value ∙ c.self.view_is)) at c.requires) (ap footprint same) same_space) c.alloc-taken.ensures.err_state c.alloc-taken.ensures.err_space))

pub returns-clause-keeps : goal.returns-clause-keeps
returns-clause-keeps c =
    rw (← (ap state_of c.deref_mut.ensures.value ∙ c.self.view_is)) (either_way c.alloc-taken.result
    (on_ok c.alloc-taken.result (λ at had. had.does.keeps) c.alloc-taken.ensures.ok)
    (on_err c.alloc-taken.result (λ same_space. Keeps-same (footprint (state_of c.deref_mut.result.now)) (footprint (state_of c.alloc-taken.new.self)) _ _ same_space) c.alloc-taken.ensures.err_space))

pub returns-clause-aligned : goal.returns-clause-aligned
returns-clause-aligned c =
    let l = c.deref_mut.result.now.slots.blocks in
    let m = c.alloc-taken.new.self.slots.blocks in
    if_ok c.alloc-taken.result (λ at had. chunk_whole m (rw c.deref.ensures at c.laid.ensures.placed) l at _ had.does.chunk) c.alloc-taken.ensures.ok
