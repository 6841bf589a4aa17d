-- Where the store has the chunk.
use Rattle.session_core.proofs.Base.{arith, ◌+◌, ◌≤◌, length, IfSome, sym, subst}
use Rattle.session_core.proofs.Words.{found, written, contexts_become, StoreState, contexts_in, Acted, ContextsAlone, IsSilent}
use Rattle.session_core.proofs.Lemmas.{placed_lines, keeps_of}
use Rattle.session_core.proofs.session.Session.place.Goals as goal

pub returns-clause-alone : goal.returns-clause-alone
returns-clause-alone g c s t offset bytes keeps within changes commons =
    subst (λ (a : StoreState). ContextsAlone a a s t commons commons) c.self.view_is
    (c.place.ensures.alone s t offset bytes (keeps_of c.self.inside.store c.args.self.now c.self.view_is s keeps)
    (subst (λ (a : StoreState). IfSome (found c.args.chunk.now (contexts_in a s)) (λ f. offset + length bytes ≤ length f.chunk.known)) (sym c.self.view_is) within) changes commons)

pub returns-clause-written : goal.returns-clause-written
returns-clause-written g c s t offset bytes keeps within changes x commons =
    subst (λ (a : StoreState). Acted (contexts_become (written c.args.chunk.now offset bytes)) a a s t x x commons commons IsSilent) c.self.view_is
    (c.place.ensures.written s t offset bytes (keeps_of c.self.inside.store c.args.self.now c.self.view_is s keeps)
    (subst (λ (a : StoreState). IfSome (found c.args.chunk.now (contexts_in a s)) (λ f. offset + length bytes ≤ length f.chunk.known)) (sym c.self.view_is) within) changes x commons)

pub returns-clause-between : goal.returns-clause-between
returns-clause-between g c s t offset bytes within changes x commons calls lines = grind (arith, placed_lines c.args.self.now s t x commons calls c.args.chunk.now offset bytes, returns-clause-alone g c s t offset bytes lines.keeps within changes commons, returns-clause-written g c s t offset bytes lines.keeps within changes x commons)
