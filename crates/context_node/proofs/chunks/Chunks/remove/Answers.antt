use Rattle.context_node.proofs.Words.{ap, ◌∙◌, at, KeptChunks}
use Rattle.context_node.proofs.Lemmas.{kept_flat, kept_removed}
use Rattle.context_node.proofs.Removals.{flat_leaf}
use Rattle.context_node.proofs.chunks.Chunks.remove.Goals as goal

pub remove-requires-clause-leaf : goal.remove-requires-clause-leaf
remove-requires-clause-leaf c =
    flat_leaf c.args.id.number c.self.inside.named.forest (kept_flat c.self.inside.named.forest c.self.inside.named.places c.self.inside.all.entries c.self.invariant)

pub invariant_of-self : goal.invariant_of-self
invariant_of-self c =
    kept_removed c.self.inside.named.forest c.self.inside.named.places c.self.inside.all.entries c.self.invariant c.args.id.number c.args.id.slot c.remove.new.self.forest c.remove.new.self.places c.without.result.entries
    (ap (λ (x : KeptChunks). at c.args.id.number x.places) c.self.view_is ∙ c.requires) c.remove.ensures.forest c.remove.ensures.places c.without.ensures
