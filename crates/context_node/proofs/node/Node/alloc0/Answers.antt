use Rattle.context_node.proofs.Words.{◌≡◌, ℕ, List, map, Option, Some, None, refl, sym, ap, ◌∙◌, subst, arith, Addr, Changes, region_at, overwritten, ends_small, IsInside-live_part, Forest, Empty, Node, at, changed, zeros, Entry, Kept, Took, taken_entry}
use Rattle.context_node.proofs.Lemmas.{front_changed, live_now, taken_is, took_zeros}
use Rattle.context_node.proofs.node.Node.alloc0.Goals as goal
use Rattle.std.proofs.lemmas.Bool.Decides.{nat_tests}

pub write_zeros-requires-clause-inside : goal.write_zeros-requires-clause-inside
write_zeros-requires-clause-inside g c = grind (arith, nat_tests, c.in_ok-id-in-Some.ensures.took, c.get.ensures, taken_is, c.in_ok-id-in-Some.ensures.number, IsInside-live_part, live_now)

pub write_zeros-requires-clause-ends : goal.write_zeros-requires-clause-ends
write_zeros-requires-clause-ends g c = grind (arith, nat_tests, c.in_ok-id-in-Some.ensures.took, c.get.ensures, taken_is, c.in_ok-id-in-Some.ensures.number, ends_small, live_now)

pub write_zeros-requires-in-None-clause-inside : goal.write_zeros-requires-in-None-clause-inside
write_zeros-requires-in-None-clause-inside g c = grind (arith, nat_tests, c.in_ok-at-in-None.ensures.took.0, IsInside-live_part, live_now, c.in_ok-at-in-None.ensures.took.1)

pub returns-in_ok-id-in-Some-clause-took : goal.returns-in_ok-id-in-Some-clause-took
returns-in_ok-id-in-Some-clause-took g c =
    let took = c.in_ok-id-in-Some.ensures.took in
    let n = c.in_ok-id-in-Some.id.number in
    let slot = c.in_ok-id-in-Some.id.slot in
    let m : Kept = record {
      name = c.self.inside.name;
      kind = c.self.inside.kind;
      protected = c.self.inside.protected;
      used = c.self.inside.used;
      memory = c.self.inside.memory;
      chunks = c.self.inside.chunks.forest;
      chunk_places = c.self.inside.chunks.places;
      hooks = c.self.inside.callbacks;
    } in
    let lies : at n c.take_named.new.self.chunks ≡ Some c.get.result.now = ap (λ (y : Kept). at n y.chunks) (sym c.self.view_is) ∙ c.get.ensures in
    let first : c.get.result.now ≡ taken_entry (Some c.in-Some.word) took.at c.args.size 0 = taken_is _ _ _ _ _ _ _ _ took n c.get.result.now c.in_ok-id-in-Some.ensures.number lies in
    let writes : Changes c.take_named.new.space c.write_zeros.new.space took.at.region (overwritten (region_at c.take_named.new.space took.at.region) took.at.offset (map Some (zeros c.args.size))) =
    subst (λ (x : Entry). Changes c.take_named.new.space c.write_zeros.new.space x.at.region (overwritten (region_at c.take_named.new.space x.at.region) x.at.offset (map Some (zeros c.args.size)))) first c.write_zeros.ensures.changes in
    let all : c.self.inside.chunks.forest ≡ Node c.args.number (taken_entry (Some c.in-Some.word) took.at c.args.size 0) Empty c.args.self.now.chunks =
    ap (λ (y : Kept). y.chunks) c.self.view_is ∙ ap (λ (y : Kept). y.chunks) took.now in
    let now : c.set.new.self.forest ≡ Node c.args.number (taken_entry (Some c.in-Some.word) took.at c.args.size c.args.size) Empty c.args.self.now.chunks =
    c.set.ensures.forest c.get.result.now c.get.ensures
    ∙ ap (λ (x : Entry). changed n (λ _. record x { size = c.args.size; known = c.args.size }) c.self.inside.chunks.forest) first
    ∙ front_changed c.args.number n (taken_entry (Some c.in-Some.word) took.at c.args.size 0) (taken_entry (Some c.in-Some.word) took.at c.args.size c.args.size) c.self.inside.chunks.forest c.args.self.now.chunks c.in_ok-id-in-Some.ensures.number c.requires.fresh all in
    let whole = took_zeros c.args.self.now c.take_named.new.self c.args.number slot (Some c.in-Some.word) c.args.size c.args.space.now c.take_named.new.space c.write_zeros.new.space took writes c.write_zeros.ensures.taken in
    let front : Forest Entry = Node c.args.number (taken_entry (Some c.in-Some.word) took.at c.args.size c.args.size) Empty c.args.self.now.chunks in
    subst (λ (o : Option (List ℕ)). Took c.args.self.now (record m { chunks = c.set.new.self.forest; chunk_places = c.set.new.self.places }) c.args.number slot o c.args.size (zeros c.args.size) c.args.space.now c.write_zeros.new.space) (sym c.in-Some.is)
    (subst (λ (f : Forest Entry). Took c.args.self.now (record m { chunks = f; chunk_places = c.set.new.self.places }) c.args.number slot (Some c.in-Some.word) c.args.size (zeros c.args.size) c.args.space.now c.write_zeros.new.space) (sym now)
    (subst (λ (p : Forest ℕ). Took c.args.self.now (record m { chunks = front; chunk_places = p }) c.args.number slot (Some c.in-Some.word) c.args.size (zeros c.args.size) c.args.space.now c.write_zeros.new.space) (sym c.set.ensures.places)
    (subst (λ (y : Kept). Took c.args.self.now (record y { chunks = front }) c.args.number slot (Some c.in-Some.word) c.args.size (zeros c.args.size) c.args.space.now c.write_zeros.new.space) (sym c.self.view_is) whole)))

pub returns-in_ok-at-in-None-clause-took : goal.returns-in_ok-at-in-None-clause-took
returns-in_ok-at-in-None-clause-took g c =
    let took = c.in_ok-at-in-None.ensures.took.0 in
    let same = c.in_ok-at-in-None.ensures.took.1 in
    let m : Kept = record {
      name = c.self-in-None.inside.name;
      kind = c.self-in-None.inside.kind;
      protected = c.self-in-None.inside.protected;
      used = c.self-in-None.inside.used;
      memory = c.self-in-None.inside.memory;
      chunks = c.self-in-None.inside.chunks.forest;
      chunk_places = c.self-in-None.inside.chunks.places;
      hooks = c.self-in-None.inside.callbacks;
    } in
    let writes : Changes c.take_nameless.new.space c.write_zeros-in-None.new.space took.at.region (overwritten (region_at c.take_nameless.new.space took.at.region) took.at.offset (map Some (zeros c.args.size))) =
    subst (λ (a : Addr). Changes c.take_nameless.new.space c.write_zeros-in-None.new.space a.region (overwritten (region_at c.take_nameless.new.space a.region) a.offset (map Some (zeros c.args.size)))) (sym same) c.write_zeros-in-None.ensures.changes in
    let all : c.self-in-None.inside.chunks.forest ≡ Node c.args.number (taken_entry None took.at c.args.size 0) Empty c.args.self.now.chunks =
    ap (λ (y : Kept). y.chunks) c.self-in-None.view_is ∙ ap (λ (y : Kept). y.chunks) took.now in
    let now : c.set_nameless.new.self.forest ≡ Node c.args.number (taken_entry None took.at c.args.size c.args.size) Empty c.args.self.now.chunks =
    c.set_nameless.ensures.forest
    ∙ ap (λ (x : Entry). changed c.args.number (λ _. x) c.self-in-None.inside.chunks.forest) (c.nameless.ensures ∙ ap (λ (a : Addr). taken_entry None a c.args.size c.args.size) (sym same))
    ∙ front_changed c.args.number c.args.number (taken_entry None took.at c.args.size 0) (taken_entry None took.at c.args.size c.args.size) c.self-in-None.inside.chunks.forest c.args.self.now.chunks refl c.requires.fresh all in
    let whole = took_zeros c.args.self.now c.take_nameless.new.self c.args.number 0 None c.args.size c.args.space.now c.take_nameless.new.space c.write_zeros-in-None.new.space took writes c.write_zeros-in-None.ensures.taken in
    let front : Forest Entry = Node c.args.number (taken_entry None took.at c.args.size c.args.size) Empty c.args.self.now.chunks in
    subst (λ (o : Option (List ℕ)). Took c.args.self.now (record m { chunks = c.set_nameless.new.self.forest; chunk_places = c.set_nameless.new.self.places }) c.args.number 0 o c.args.size (zeros c.args.size) c.args.space.now c.write_zeros-in-None.new.space) (sym c.in-None.is)
    (subst (λ (f : Forest Entry). Took c.args.self.now (record m { chunks = f; chunk_places = c.set_nameless.new.self.places }) c.args.number 0 None c.args.size (zeros c.args.size) c.args.space.now c.write_zeros-in-None.new.space) (sym now)
    (subst (λ (p : Forest ℕ). Took c.args.self.now (record m { chunks = front; chunk_places = p }) c.args.number 0 None c.args.size (zeros c.args.size) c.args.space.now c.write_zeros-in-None.new.space) (sym c.set_nameless.ensures.places)
    (subst (λ (y : Kept). Took c.args.self.now (record y { chunks = front }) c.args.number 0 None c.args.size (zeros c.args.size) c.args.space.now c.write_zeros-in-None.new.space) (sym c.self-in-None.view_is) whole)))
