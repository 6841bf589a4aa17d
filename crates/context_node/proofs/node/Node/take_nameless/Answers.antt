use Rattle.context_node.proofs.Words.{refl, ap, ◌∙◌, arith, Empty, Node, Entry, Kept}
use Rattle.context_node.proofs.Lemmas.{kept_now}
use Rattle.context_node.proofs.node.Node.take_nameless.Goals as goal

pub returns-in-Ok-clause-took : goal.returns-in-Ok-clause-took
returns-in-Ok-clause-took g c =
    let k : Kept = record {
      name = c.self.inside.name;
      kind = c.self.inside.kind;
      protected = c.self.inside.protected;
      used = c.self.inside.used;
      memory = c.self.inside.memory;
      chunks = c.self.inside.chunks.forest;
      chunk_places = c.self.inside.chunks.places;
      hooks = c.self.inside.callbacks;
    } in
    rw (← c.self.view_is) (
      record {
        at = c.in-Ok.at;
        takes = c.in-Ok.ensures.taken;
        fresh = c.in-Ok.ensures.fresh;
        live = c.in-Ok.ensures.live;
        moves = c.in-Ok.ensures.moves;
        keeps = c.in-Ok.ensures.keeps;
        now = kept_now k c.alloc.new.self _ _ _ _ (c.put_nameless.ensures.forest ∙ ap (λ (e : Entry). Node c.args.number e Empty k.chunks) c.nameless.ensures) c.put_nameless.ensures.places;
        total = c.counted.ensures;
        fits = omega arith;
        has = λ i below. absurd (omega (arith, below));
      },
      refl,
    )
