use Rattle.context_node.proofs.Words.{ap, ◌∙◌, has, KeptChunks}
use Rattle.context_node.proofs.Lemmas.{kept_nameless}
use Rattle.context_node.proofs.chunks.Chunks.put_nameless.Goals as goal

pub invariant_of-self : goal.invariant_of-self
invariant_of-self c =
    kept_nameless c.self.inside.named.forest c.self.inside.named.places c.self.inside.all.entries c.self.invariant c.args.number c.args.entry.now c.with.result.entries
    (ap (λ (x : KeptChunks). has c.args.number x.forest) c.self.view_is ∙ c.requires.fresh) c.with.ensures c.requires.nameless
