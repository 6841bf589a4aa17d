use Rattle.context_node.proofs.Words.{◌≡◌, ℕ, map, Some, refl, ap, ◌∙◌, subst, arith, Addr, Changes, region_at, overwritten, ends_small, IsInside-live_part, at, changed, footprint, Kept}
use Rattle.context_node.proofs.Lemmas.{kept_back}
use Rattle.context_node.proofs.node.Node.put.Goals as goal
use Rattle.std.proofs.lemmas.Bool.Decides.{nat_tests}

pub room_at-requires : goal.room_at-requires
room_at-requires g c = grind (arith, nat_tests, ends_small (footprint c.args.self.now.memory) c.args.space.now c.entry-chunk.result.at c.entry-chunk.result.size c.requires.agrees (c.requires.sound.live c.args.entry.number c.entry-chunk.result c.entry-chunk.ensures), c.requires.agrees, c.requires.sound.live c.args.entry.number c.entry-chunk.result c.entry-chunk.ensures, c.entry-chunk.ensures)

pub write-requires : goal.write-requires
write-requires g c = grind (arith, nat_tests, IsInside-live_part, c.requires.agrees, c.requires.sound.live c.args.entry.number c.entry-chunk.result c.entry-chunk.ensures, c.entry-chunk.ensures, c.in-Some.ensures.1, c.in-Some.ensures.0.1)

pub returns-clause-written : goal.returns-clause-written
returns-clause-written g c =
    let k : Kept = record {
      name = c.self.inside.name;
      kind = c.self.inside.kind;
      protected = c.self.inside.protected;
      used = c.self.inside.used;
      memory = c.self.inside.memory;
      chunks = c.self.inside.chunks.forest;
      chunk_places = c.self.inside.chunks.places;
      hooks = c.self.inside.callbacks;
    } in
    let lists : at c.args.entry.number k.chunks ≡ Some c.entry-chunk.result = ap (λ (x : Kept). at c.args.entry.number x.chunks) c.self.view_is ∙ c.entry-chunk.ensures in
    rw (← c.self.view_is) (record {
      entry = c.entry-chunk.result;
      listed = lists;
      within = c.in-Some.ensures.0.0;
      fits = c.in-Some.ensures.0.1;
      now = kept_back k k.memory k.memory _ _ _ _ refl
          (c.set.ensures.forest c.entry-chunk.result lists ∙ ap (λ (m : ℕ). changed c.args.entry.number (λ _. record c.entry-chunk.result { known = m }) k.chunks) c.max-known.ensures)
          c.set.ensures.places;
      writes = subst (λ (a : Addr). Changes c.args.space.now c.write.new.self a.region (overwritten (region_at c.args.space.now a.region) a.offset (map Some c.args.bytes.now))) c.in-Some.ensures.1 c.write.ensures.changes;
    })
