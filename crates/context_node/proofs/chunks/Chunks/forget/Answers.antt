use Rattle.context_node.proofs.Words.{ap, ◌∙◌, get, KeptChunks, same, left_names}
use Rattle.context_node.proofs.Lemmas.{kept_flat, kept_once, kept_none, left_same}
use Rattle.context_node.proofs.chunks.Chunks.forget.Goals as goal

pub forget_all-requires-clause-flat : goal.forget_all-requires-clause-flat
forget_all-requires-clause-flat c = kept_flat c.self.inside.named.forest c.self.inside.named.places c.self.inside.all.entries c.self.invariant

pub forget_all-requires-clause-once : goal.forget_all-requires-clause-once
forget_all-requires-clause-once c = kept_once c.self.inside.named.forest c.self.inside.named.places c.self.inside.all.entries c.self.invariant

pub invariant_of-self : goal.invariant_of-self
invariant_of-self c = kept_none _ _ _ c.forget_all.ensures.none c.forget_all.ensures.nowhere c.none.ensures

pub returns-clause-names : goal.returns-clause-names
returns-clause-names c = λ w.
    c.forget_all.ensures.names w
    ∙ ap (λ f. left_names f (get same c.args.names.now) w) c.self.invariant.part
    ∙ left_same c.self.inside.all.entries (get same c.args.names.now) w c.self.invariant.flat
    ∙ ap (λ (x : KeptChunks). left_names x.forest (get same c.args.names.now) w) c.self.view_is
