use Rattle.context_node.proofs.Words.{sym, ap, ◌∙◌, at, KeptChunks}
use Rattle.context_node.proofs.Lemmas.{kept_at}
use Rattle.context_node.proofs.chunks.Chunks.get.Goals as goal

pub returns : goal.returns
returns c =
    ap (λ (x : KeptChunks). at c.args.id.number x.forest) (sym c.self.view_is)
    ∙ (kept_at c.self.inside.named.forest c.self.inside.named.places c.self.inside.all.entries c.self.invariant c.args.id.number c.get.result.now c.get.ensures).0
