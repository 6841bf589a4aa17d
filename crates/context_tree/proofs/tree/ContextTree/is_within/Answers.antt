use Rattle.context_tree.proofs.Base.{◌≡◌, false, sym, ap, ◌∙◌, arith, ◌==◌, ne_eqb}
use Rattle.context_tree.proofs.Words.{NodeId, is_above, TreeState}
use Rattle.context_tree.proofs.Lemmas.{above_stands}
use Rattle.context_tree.proofs.tree.ContextTree.is_within.Goals as goal

pub returns-else-other-at : goal.returns-else-other-at
returns-else-other-at g c s =
    let n = c.args.at.number in
    let m = c.args.other.number in
    let ne : (m == n) ≡ false = ne_eqb m n (λ e. omega (arith, e)) in
    rw ne
    (c.is_above.ensures
    ∙ ap (λ (x : NodeId). is_above x.number c.node_at-else-other-at.result.number c.self.inside.nodes.forest) c.node_at.ensures
    ∙ ap (λ (x : NodeId). is_above n x.number c.self.inside.nodes.forest) c.node_at-else-other-at.ensures
    ∙ ap (λ (t : TreeState). is_above n m t.kept) c.self.view_is
    ∙ sym (above_stands c.args.self.now s n m))
