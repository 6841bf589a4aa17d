-- The search in the stack is that of the rules.
use Rattle.session_store.proofs.Words.{rules, ◌≤◌, length, IfSome, ◌∙◌, ap, subst, savepoint, StoreState, levels_of}
use Rattle.session_store.proofs.Savepoints.{savepoint_is}
use Rattle.session_store.proofs.store.Store.savepoint.Goals as goal

pub returns-clause-found : goal.returns-clause-found
returns-clause-found g c =
    c.find.ensures.found ∙ savepoint_is c.args.name.now c.self.inside.levels ∙ ap (λ (v : StoreState). savepoint c.args.name.now (levels_of v.levels)) c.self.view_is

pub returns-clause-within : goal.returns-clause-within
returns-clause-within g c = subst (λ (v : StoreState). IfSome c.find.result (λ level. level ≤ length v.levels)) c.self.view_is c.find.ensures.within
