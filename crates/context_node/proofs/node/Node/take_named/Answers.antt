use Rattle.context_node.proofs.Words.{◌≡◌, false, Some, ap, ◌∙◌, arith, has, Entry, Kept, taken_entry}
use Rattle.context_node.proofs.Lemmas.{front_at, front_changed, front_removed, kept_now}
use Rattle.context_node.proofs.node.Node.take_named.Goals as goal
use Rattle.std.proofs.lemmas.Bool.Decides.{nat_tests}

pub returns-in-Ok-clause-took : goal.returns-in-Ok-clause-took
returns-in-Ok-clause-took g c =
    let fresh : has c.args.number c.self.inside.chunks.forest ≡ false = ap (λ (x : Kept). has c.args.number x.chunks) c.self.view_is ∙ c.requires.fresh in
    let waiting : Entry = taken_entry (Some c.args.word) (record { region = 0; offset = 0 }) c.args.size 0 in
    let k : Kept = record {
      name = c.self.inside.name;
      kind = c.self.inside.kind;
      protected = c.self.inside.protected;
      used = c.self.inside.used;
      memory = c.self.inside.memory;
      chunks = c.self.inside.chunks.forest;
      chunk_places = c.self.inside.chunks.places;
      hooks = c.self.inside.callbacks;
    } in
    rw (← c.self.view_is) (record {
      at = c.in-Ok.at;
      takes = c.in-Ok.ensures.taken;
      fresh = c.in-Ok.ensures.fresh;
      live = c.in-Ok.ensures.live;
      moves = c.in-Ok.ensures.moves;
      keeps = c.in-Ok.ensures.keeps;
      now = kept_now k c.alloc.new.self _ _ _ _
          (c.set.ensures.forest waiting (front_at c.args.number c.in_ok-id.id.number waiting _ _ c.in_ok-id.ensures.number c.in_ok-id.ensures.forest)
          ∙ front_changed c.args.number c.in_ok-id.id.number waiting (taken_entry (Some c.args.word) c.in-Ok.at c.args.size 0) _ _ c.in_ok-id.ensures.number fresh c.in_ok-id.ensures.forest)
          (c.set.ensures.places ∙ c.in_ok-id.ensures.places);
      total = c.counted.ensures;
      fits = omega arith;
      has = λ i below. absurd (omega (arith, below));
    })

pub returns-in-Err-clause-err : goal.returns-in-Err-clause-err
returns-in-Err-clause-err g c = grind (arith, nat_tests, c.self.inside.chunks.forest, c.requires.fresh, c.self.inside.chunks.places, c.requires.unplaced, c.self.inside.name, c.self.inside.kind, c.self.inside.protected, c.self.inside.used, c.self.inside.memory, c.self.inside.callbacks, c.in-Err.ensures.err, c.remove.ensures.forest, front_removed, c.in_ok-id.ensures.number, c.in_ok-id.ensures.forest, c.remove.ensures.places, c.in_ok-id.ensures.places)
