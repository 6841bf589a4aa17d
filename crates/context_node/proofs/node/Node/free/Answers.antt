use Rattle.context_node.proofs.Words.{◌≡◌, Option, Some, None, Ok, IsSome, refl, sym, ap, ◌∙◌, subst, IfSome, at, Place, give, ledger, place_at, Kept, IsSoundContext}
use Rattle.context_node.proofs.Lemmas.{kept_back}
use Rattle.context_node.proofs.node.Node.free.Goals as goal

some_value : {A : Type 0} (o : Option A) → IsSome o → (x : A) × (o ≡ Some x)
some_value None is = absurd (cc)
some_value (Some x) is = (x, refl)

pub returns-clause-freed : goal.returns-clause-freed
returns-clause-freed g c =
    let k : Kept = record {
      name = c.self.inside.name;
      kind = c.self.inside.kind;
      protected = c.self.inside.protected;
      used = c.self.inside.used;
      memory = c.self.inside.memory;
      chunks = c.self.inside.chunks.forest;
      chunk_places = c.self.inside.chunks.places;
      hooks = c.self.inside.callbacks;
    } in
    let sound : IsSoundContext k = subst IsSoundContext (sym c.self.view_is) c.requires.sound in
    let put : (place : Place) × (place_at k.memory c.get.result.now.at ≡ Some place) = some_value _ (sound.placed c.args.entry.number c.get.result.now c.get.ensures) in
    rw (← c.self.view_is) (record {
      entry = c.get.result.now;
      listed = c.get.ensures;
      place = put.0;
      placed = put.1;
      given = subst (λ (o : Option Place). IfSome o (λ place. give (ledger k.memory) place ≡ Ok (ledger c.free.new.self))) put.1 c.in_default.ensures.given;
      places = c.in_default.ensures.place;
      live = c.in_default.ensures.live;
      moves = c.in_default.ensures.moves;
      keeps = c.in_default.ensures.keeps;
      now = kept_back k c.free.new.self c.free.new.self _ _ _ _ refl c.remove.ensures.forest c.remove.ensures.places;
      stays = λ other ne. ap (at other) (sym c.remove.ensures.places) ∙ c.remove.ensures.stays other ne;
      total = c.counted.ensures;
    })
