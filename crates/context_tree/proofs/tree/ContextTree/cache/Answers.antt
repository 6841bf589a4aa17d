use Rattle.context_tree.proofs.Base.{◌≡◌, true, [], sym, subst}
use Rattle.context_tree.proofs.Words.{has, TreeState, IsLive, stands_for}
use Rattle.context_tree.proofs.Lemmas.{placed_as, own_lives}
use Rattle.context_tree.proofs.tree.ContextTree.cache.Goals as goal

pub returns-clause-stands : goal.returns-clause-stands
returns-clause-stands g c s h =
    let a : TreeState = record { kept = c.self.inside.nodes.forest; places = c.self.inside.nodes.places; account = c.self.inside.account; current = c.self.inside.current; next = c.self.inside.next } in
    subst (λ (x : TreeState). IsLive x c.self.inside.own.cache) c.self.view_is
    (own_lives a s 3 c.self.inside.own.cache c.self.invariant.cache (placed_as _ _ _ _ _ _ _ _ c.self.invariant s [] 3)
    (subst (λ (x : TreeState). has 3 (stands_for x s) ≡ true) (sym c.self.view_is) h))
