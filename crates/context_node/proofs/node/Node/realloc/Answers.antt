use Rattle.context_node.proofs.Words.{◌≡◌, ℕ, Option, Some, None, Err, IsSome, unwrap_or, refl, sym, ap, ◌∙◌, subst, inl, inr, IfSome, at, changed, Place, InSlab, resize, footprint, ledger, place_at, Entry, Kept, IsSoundContext}
use Rattle.context_node.proofs.Lemmas.{kept_back}
use Rattle.addr_space.specs.Space.{held}
use Rattle.any_ctx.specs.Calls.{Resizes, resize_in}
use Rattle.context_rules.specs.Refusals.{refusal}
use Rattle.context_node.proofs.node.Node.realloc.Goals as goal

some_value : {A : Type 0} (o : Option A) → IsSome o → (x : A) × (o ≡ Some x)
some_value None is = absurd (cc)
some_value (Some x) is = (x, refl)

pub returns-in-Ok-clause-refitted : goal.returns-in-Ok-clause-refitted
returns-in-Ok-clause-refitted g c =
    let k : Kept = record {
      name = c.self.inside.name;
      kind = c.self.inside.kind;
      protected = c.self.inside.protected;
      used = c.self.inside.used;
      memory = c.self.inside.memory;
      chunks = c.self.inside.chunks.forest;
      chunk_places = c.self.inside.chunks.places;
      hooks = c.self.inside.callbacks;
    } in
    let sound : IsSoundContext k = subst IsSoundContext (sym c.self.view_is) c.requires.sound in
    let lists : at c.args.entry.number k.chunks ≡ Some c.entry-chunk.result = ap (λ (x : Kept). at c.args.entry.number x.chunks) c.self.view_is ∙ c.entry-chunk.ensures in
    let put : (place : Place) × (place_at k.memory c.entry-chunk.result.at ≡ Some place) = some_value _ (sound.placed c.args.entry.number c.entry-chunk.result lists) in
    rw (← c.self.view_is) (record {
      entry = c.entry-chunk.result;
      listed = lists;
      to = c.in-Ok.to;
      place = put.0;
      placed = put.1;
      resizes = subst (λ (o : Option Place). IfSome o (λ place. Resizes k.memory c.realloc.new.self place c.args.size c.entry-chunk.result.at c.in-Ok.to c.args.space.now c.realloc.new.space)) put.1 c.in-Ok.ensures.resized;
      fresh = c.in-Ok.ensures.fresh;
      live = c.in-Ok.ensures.live;
      bytes = c.in-Ok.ensures.bytes;
      known = c.in-Ok.ensures.known;
      moves = c.in-Ok.ensures.moves;
      keeps = c.in-Ok.ensures.keeps;
      now = kept_back k c.realloc.new.self c.realloc.new.self _ _ _ _ refl
          (c.set.ensures.forest c.entry-chunk.result lists ∙ ap (λ (m : ℕ). changed c.args.entry.number (λ _. record c.entry-chunk.result { at = c.in-Ok.to; size = c.args.size; known = m }) k.chunks) c.min.ensures)
          c.set.ensures.places;
      total = c.counted.ensures;
    })

pub returns-in-Err-clause-refused : goal.returns-in-Err-clause-refused
returns-in-Err-clause-refused g c =
    let k : Kept = record {
      name = c.self.inside.name;
      kind = c.self.inside.kind;
      protected = c.self.inside.protected;
      used = c.self.inside.used;
      memory = c.self.inside.memory;
      chunks = c.self.inside.chunks.forest;
      chunk_places = c.self.inside.chunks.places;
      hooks = c.self.inside.callbacks;
    } in
    let sound : IsSoundContext k = subst IsSoundContext (sym c.self.view_is) c.requires.sound in
    let lists : at c.args.entry.number k.chunks ≡ Some c.entry-chunk.result = ap (λ (x : Kept). at c.args.entry.number x.chunks) c.self.view_is ∙ c.entry-chunk.ensures in
    let put : (place : Place) × (place_at k.memory c.entry-chunk.result.at ≡ Some place) = some_value _ (sound.placed c.args.entry.number c.entry-chunk.result lists) in
    rw (← c.self.view_is) (elim c.told.ensures [
      | inl memory ↦ inl memory
      | inr other ↦ elim c.in-Err.ensures.refused [
        | inl memory ↦ absurd (other.0 memory)
        | inr why ↦ inr (λ x h.
            let one : Some x ≡ Some c.entry-chunk.result = sym h ∙ lists in
            let it : x ≡ c.entry-chunk.result = cc in
            let told : resize_in k.memory c.args.space.now put.0 c.args.size ≡ Err c.in-Err.error =
            subst (λ (o : Option Place). IfSome o (λ place. resize_in k.memory c.args.space.now place c.args.size ≡ Err c.in-Err.error)) put.1 why in
            ap (λ (y : Entry). refusal (resize (ledger k.memory) (held c.args.space.now (footprint k.memory).account) c.args.space.now.limit (unwrap_or (place_at k.memory y.at) (InSlab 0)) c.args.size)) it
            ∙ ap (λ (o : Option Place). refusal (resize (ledger k.memory) (held c.args.space.now (footprint k.memory).account) c.args.space.now.limit (unwrap_or o (InSlab 0)) c.args.size)) put.1
            ∙ ap refusal told
            ∙ ap Some (sym other.1))
      ]
    ])
