use Rattle.context_tree.proofs.Base.{◌≡◌, true, [], sym, subst}
use Rattle.context_tree.proofs.Words.{has, TreeState, IsLive, stands_for}
use Rattle.context_tree.proofs.Lemmas.{placed_as, own_lives}
use Rattle.context_tree.proofs.tree.ContextTree.abort_context.Goals as goal

pub returns-clause-stands : goal.returns-clause-stands
returns-clause-stands g c s h =
    let a : TreeState = record { kept = c.self.inside.nodes.forest; places = c.self.inside.nodes.places; account = c.self.inside.account; current = c.self.inside.current; next = c.self.inside.next } in
    subst (λ (x : TreeState). IsLive x c.self.inside.own.abort) c.self.view_is
    (own_lives a s 5 c.self.inside.own.abort c.self.invariant.abort (placed_as _ _ _ _ _ _ _ _ c.self.invariant s [] 5)
    (subst (λ (x : TreeState). has 5 (stands_for x s) ≡ true) (sym c.self.view_is) h))
