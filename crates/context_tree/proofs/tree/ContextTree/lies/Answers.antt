use Rattle.context_tree.proofs.Base.{◌≡◌, [], ◌∙◌, subst}
use Rattle.context_tree.proofs.Words.{has, TreeState, stands_for}
use Rattle.context_tree.proofs.Lemmas.{placed_as, stands_has}
use Rattle.context_tree.proofs.tree.ContextTree.lies.Goals as goal

pub returns : goal.returns
returns g c n s =
    let a : TreeState = record { kept = c.self.inside.nodes.forest; places = c.self.inside.nodes.places; account = c.self.inside.account; current = c.self.inside.current; next = c.self.inside.next } in
    subst (λ (x : TreeState). has n (stands_for x s) ≡ has n x.places) c.self.view_is (stands_has a s n ∙ placed_as _ _ _ _ _ _ _ _ c.self.invariant s [] n)
