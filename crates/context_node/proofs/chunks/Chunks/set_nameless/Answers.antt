use Rattle.context_node.proofs.Words.{◌≡◌, Option, None, sym, ap, ◌∙◌, subst, IfSome, at, Entry, KeptChunks}
use Rattle.context_node.proofs.Lemmas.{kept_same}
use Rattle.context_node.proofs.chunks.Chunks.set_nameless.Goals as goal

pub invariant_of-self : goal.invariant_of-self
invariant_of-self c =
    kept_same c.self.inside.named.forest c.self.inside.named.places c.self.inside.all.entries c.self.invariant c.args.number c.args.entry.now c.changed.result.entries c.changed.ensures c.requires.nameless
    (λ e h. subst (λ (o : Option Entry). IfSome o (λ x. x.name ≡ None)) (sym (ap (λ (x : KeptChunks). at c.args.number x.forest) c.self.view_is) ∙ h) c.requires.was)
