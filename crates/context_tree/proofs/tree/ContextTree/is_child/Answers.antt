use Rattle.context_tree.proofs.Base.{◌≡◌, ℕ, false, Option, Some, None, sym, ap, ◌∙◌, ◌==◌, option_map_or}
use Rattle.context_tree.proofs.Words.{NodeId, parent_of, TreeState}
use Rattle.context_tree.proofs.Lemmas.{child_stands}
use Rattle.context_tree.proofs.tree.ContextTree.is_child.Goals as goal

pub returns-in-Some : goal.returns-in-Some
returns-in-Some g c s =
    let above : parent_of c.args.at.number c.args.self.now.kept ≡ Some c.in-Some.above.number =
    ap (λ (t : TreeState). parent_of c.args.at.number t.kept) (sym c.self.view_is)
    ∙ ap (λ (x : NodeId). parent_of x.number c.self.inside.nodes.forest) (sym c.node_at.ensures) ∙ c.in-Some.ensures.0 in
    sym (child_stands c.args.self.now s c.args.at.number c.args.parent.number ∙ ap (λ (o : Option ℕ). option_map_or (λ q. q == c.args.parent.number) o false) above)

pub returns-in-None : goal.returns-in-None
returns-in-None g c s =
    let above : parent_of c.args.at.number c.args.self.now.kept ≡ None =
    ap (λ (t : TreeState). parent_of c.args.at.number t.kept) (sym c.self.view_is)
    ∙ ap (λ (x : NodeId). parent_of x.number c.self.inside.nodes.forest) (sym c.node_at.ensures) ∙ c.in-None.ensures in
    sym (child_stands c.args.self.now s c.args.at.number c.args.parent.number ∙ ap (λ (o : Option ℕ). option_map_or (λ q. q == c.args.parent.number) o false) above)
