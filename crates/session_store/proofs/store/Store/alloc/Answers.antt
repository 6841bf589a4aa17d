-- The chunk is taken in the current context.
use Rattle.session_store.proofs.Words.{false, OnOk, subst, CtxId, ShelfState, CommonState, memory_taken, Acted, IsSilent}
use Rattle.session_store.proofs.store.Store.alloc.Goals as goal

pub returns-clause-acted : goal.returns-clause-acted
returns-clause-acted g c =
    subst (λ (id : CtxId). OnOk c.alloc_at.result ((x : ShelfState) (commons : CommonState) → Acted (memory_taken c.args.chunk c.args.size false id.number) c.args.self.now c.alloc_at.new.self c.args.space.now c.alloc_at.new.space x x commons commons IsSilent))
    c.current-at.ensures.current c.alloc_at.ensures.acted
