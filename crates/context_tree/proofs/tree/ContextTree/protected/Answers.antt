use Rattle.context_tree.proofs.Base.{◌≡◌, false, Option, Some, sym, ap, ◌∙◌, option_map_or}
use Rattle.context_tree.proofs.Words.{NodeId, at, Context, context_of, TreeState, stands_for}
use Rattle.context_tree.proofs.Lemmas.{stands_at}
use Rattle.context_tree.proofs.tree.ContextTree.protected.Goals as goal

pub returns : goal.returns
returns g c s =
    let lies : at c.args.at.number (stands_for c.args.self.now s) ≡ Some (context_of s c.get.result.now) =
    stands_at c.args.self.now s c.args.at.number c.get.result.now
    (ap (λ (t : TreeState). at c.args.at.number t.kept) (sym c.self.view_is) ∙ ap (λ (x : NodeId). at x.number c.self.inside.nodes.forest) (sym c.node_at.ensures) ∙ c.get.ensures) in
    c.is_protected.ensures ∙ ap (λ (o : Option Context). option_map_or (λ x. x.protected) o false) (sym lies)
