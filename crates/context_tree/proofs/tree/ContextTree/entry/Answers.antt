use Rattle.context_tree.proofs.Base.{◌≡◌, Some, sym, ap, ◌∙◌}
use Rattle.context_tree.proofs.Words.{NodeId, at, Kept, TreeState}
use Rattle.context_tree.proofs.tree.ContextTree.entry.Goals as goal

pub returns-clause-some : goal.returns-clause-some
returns-clause-some g c =
    let leads = c.in_ok-id.ensures.some in
    let one : Some leads.chunk.context ≡ Some c.get.result.now =
    sym leads.chunk.stands ∙ ap (λ (t : TreeState). at c.in_ok-id.id.context.number t.kept) (sym c.self.view_is)
    ∙ ap (λ (x : NodeId). at x.number c.self.inside.nodes.forest) (sym c.node_at.ensures) ∙ c.get.ensures in
    let it : leads.chunk.context ≡ c.get.result.now = cc in
    let two : Some leads.chunk.entry ≡ Some c.entry.result =
    sym leads.chunk.listed ∙ ap (λ (x : Kept). at c.in_ok-id.id.entry.number x.chunks) it ∙ c.entry.ensures in
    (c.in_ok-id.id, leads, cc)
