use Rattle.context_node.proofs.Words.{◌≡◌, false, refl, ap, ◌∙◌, has, KeptChunks}
use Rattle.context_node.proofs.Lemmas.{kept_fresh, kept_put}
use Rattle.context_node.proofs.chunks.Chunks.put.Goals as goal

pub insert_root-requires : goal.insert_root-requires
insert_root-requires c =
    kept_fresh c.self.inside.named.forest c.self.inside.named.places c.self.inside.all.entries c.self.invariant c.args.number (ap (λ (x : KeptChunks). has c.args.number x.forest) c.self.view_is ∙ c.requires.fresh)

pub invariant_of-self-2 : goal.invariant_of-self-2
invariant_of-self-2 c =
    let fresh : has c.args.number c.self.inside.all.entries ≡ false = ap (λ (x : KeptChunks). has c.args.number x.forest) c.self.view_is ∙ c.requires.fresh in
    kept_put c.self.inside.named.forest c.self.inside.named.places c.self.inside.all.entries c.self.invariant c.args.number _ c.with-all.result.entries fresh c.with-all.ensures
    c.in-Ok.id.slot c.insert_root.new.self.forest c.insert_root.new.self.places refl c.in-Ok.ensures.forest c.in-Ok.ensures.places
