use Rattle.context_tree.proofs.Base.{◌≡◌, true, false, Some, refl, sym, ap, ◌∙◌}
use Rattle.context_tree.proofs.Words.{NodeId, at, children, mapped, is_nothing, context_of, TreeState, stands_for}
use Rattle.context_tree.proofs.Lemmas.{stands_at, stands_children, first_told}
use Rattle.context_tree.proofs.tree.ContextTree.is_empty.Goals as goal

pub returns-then-not-is_used : goal.returns-then-not-is_used
returns-then-not-is_used g c s =
    let lies : at c.args.at.number (stands_for c.args.self.now s) ≡ Some (context_of s c.get.result.now) =
    stands_at c.args.self.now s c.args.at.number c.get.result.now
    (ap (λ (t : TreeState). at c.args.at.number t.kept) (sym c.self.view_is) ∙ ap (λ (x : NodeId). at x.number c.self.inside.nodes.forest) (sym c.node_at.ensures) ∙ c.get.ensures) in
    let used : c.is_used.result ≡ c.get.result.now.used = c.is_used.ensures in
    let is : c.get.result.now.used ≡ false = sym used ∙ c.if-not-is_used.true in
    let below : c.is_none.result ≡ is_nothing (children c.args.at.number (stands_for c.args.self.now s)) =
    first_told s _ c.first_child.result _ c.is_none.result c.first_child.ensures c.is_none.ensures
    ∙ ap (λ (x : NodeId). is_nothing (mapped (context_of s) (children x.number c.self.inside.nodes.forest))) c.node_at-then-not-is_used.ensures
    ∙ ap (λ (t : TreeState). is_nothing (mapped (context_of s) (children c.args.at.number t.kept))) c.self.view_is
    ∙ ap is_nothing (sym (stands_children c.args.self.now s c.args.at.number)) in
    rw (lies, is) below

pub returns-else-not-is_used : goal.returns-else-not-is_used
returns-else-not-is_used g c s =
    let lies : at c.args.at.number (stands_for c.args.self.now s) ≡ Some (context_of s c.get.result.now) =
    stands_at c.args.self.now s c.args.at.number c.get.result.now
    (ap (λ (t : TreeState). at c.args.at.number t.kept) (sym c.self.view_is) ∙ ap (λ (x : NodeId). at x.number c.self.inside.nodes.forest) (sym c.node_at.ensures) ∙ c.get.ensures) in
    let used : c.is_used.result ≡ c.get.result.now.used = c.is_used.ensures in
    let is : c.get.result.now.used ≡ true = sym used ∙ c.if-not-is_used.false in
    rw (lies, used, is) refl
