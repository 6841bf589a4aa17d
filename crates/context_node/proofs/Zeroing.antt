-- Zeros written in a space, and in a chunk that was just taken.
use Rattle.context_node.proofs.Words.{◌≡◌, ◌≢◌, ℕ, ◌+◌, ◌≤◌, true, List, [], ◌++◌, length, map, replicate, Option, Some, refl, sym, ap, ◌∙◌, inl, inr, arith, length-map, length-replicate, replicate-append-replicate, map-append, Addr, Region, Space, region_at, overwritten, Changes, HasRegion, WritesInside, put_at-cases, Moves-inside, KeepsBut-inside, overwritten-more, none_or_some, HasBytes-written, Empty, Node, at, footprint, Entry, Kept, Took, placed, taken_entry}
use Rattle.addr_space.proofs.Steps.{Moves-more}
use Rattle.context_node.proofs.Names.{at_here}
use Rattle.std.proofs.lemmas.Bool.Decides.{nat_tests}

-- a piece more
pub zeros_more : (init now new : Space) (a : Addr) (done step : ℕ) (piece : List ℕ) (target : Region) → region_at init a.region ≡ Some target → a.offset + done ≤ length target.bytes
    → Changes init now a.region (overwritten (region_at init a.region) a.offset (map Some (replicate done 0)))
    → Changes now new a.region (overwritten (region_at now a.region) (a.offset + done) (map Some piece)) → piece ≡ replicate step 0
    → Changes init new a.region (overwritten (region_at init a.region) a.offset (map Some (replicate (done + step) 0)))
zeros_more init now new a done step piece target found inside changes wrote is =
    let first : List (Option ℕ) = map Some (replicate done 0) in
    let second : List (Option ℕ) = map Some (replicate step 0) in
    let len : length first ≡ done = length-map (replicate done 0) Some ∙ length-replicate done 0 in
    let fits : a.offset + length first ≤ length target.bytes = omega (arith, len, inside) in
    let now_is : region_at now a.region ≡ overwritten (Some target) a.offset first = changes.changed ∙ ap (λ (r : Option Region). overwritten r a.offset (map Some (replicate done 0))) found in
    let new_is : region_at new a.region ≡ overwritten (overwritten (Some target) a.offset first) (a.offset + done) second =
    wrote.changed ∙ ap (λ (r : Option Region). overwritten r (a.offset + done) (map Some piece)) now_is ∙ ap (λ (xs : List ℕ). overwritten (overwritten (Some target) a.offset (map Some (replicate done 0))) (a.offset + done) (map Some xs)) is in
    let shifted : overwritten (overwritten (Some target) a.offset first) (a.offset + done) second ≡ overwritten (overwritten (Some target) a.offset first) (a.offset + length first) second =
    ap (λ (j : ℕ). overwritten (overwritten (Some target) a.offset (map Some (replicate done 0))) (a.offset + j) (map Some (replicate step 0))) (sym len) in
    let joined : overwritten (overwritten (Some target) a.offset first) (a.offset + length first) second ≡ overwritten (Some target) a.offset (first ++ second) =
    ap (λ (b : List (Option ℕ)). Some (record { account = target.account; bytes = b })) (overwritten-more target.bytes first second a.offset fits) in
    let both : first ++ second ≡ map Some (replicate (done + step) 0) =
    sym (map-append Some (replicate done 0) (replicate step 0)) ∙ ap (λ (xs : List ℕ). map Some xs) (replicate-append-replicate done step 0) in
    record {
      changed = new_is ∙ shifted ∙ joined ∙ ap (overwritten (Some target) a.offset) both ∙ sym (ap (λ (r : Option Region). overwritten r a.offset (map Some (replicate (done + step) 0))) found);
      others = λ other differs. wrote.others other differs ∙ changes.others other differs;
      limit = wrote.limit ∙ changes.limit;
      accounts = wrote.accounts ∙ changes.accounts;
    }

module _ (k m : Kept) (number slot : ℕ) (name : Option (List ℕ)) (size : ℕ) (s u : Space) (took : Took k m number slot name size [] s u) where
  pub live_now : (footprint m.memory).live took.at ≡ Some size
  live_now = elim (put_at-cases (footprint k.memory).live (footprint m.memory).live took.at (Some size) took.live took.at) [ inl it ↦ it.1 | inr it ↦ absurd (it.0 refl) ]

  long : length {A = ℕ} (replicate size 0) ≡ size
  long = length-replicate size 0

  -- the entry that was taken
  pub taken_is : (i : ℕ) (x : Entry) → i ≡ number → at i m.chunks ≡ Some x → x ≡ taken_entry name took.at size 0
  taken_is i x same h = grind (arith, nat_tests, at_here number (taken_entry name took.at size 0) Empty k.chunks)

module _ (k m : Kept) (number slot : ℕ) (name : Option (List ℕ)) (size : ℕ) (s u t : Space) (took : Took k m number slot name size [] s u)
    (writes : Changes u t took.at.region (overwritten (region_at u took.at.region) took.at.offset (map Some (replicate size 0)))) (taken : t.taken ≡ u.taken) where
  inside : WritesInside (footprint m.memory) u t took.at took.at size (replicate size 0)
  inside = record {
    live = live_now k m number slot name size s u took;
    region = refl;
    first = omega arith;
    last = omega (arith, long k m number slot name size s u took);
    writes = writes;
  }

  pub took_zeros : Took k (record m { chunks = Node number (taken_entry name took.at size size) Empty k.chunks }) number slot name size (replicate size 0) s t
  took_zeros =
      let w = took.moves.agrees.sound.live_inside took.at size (live_now k m number slot name size s u took) in
      let target : HasRegion u took.at.region (footprint m.memory).account w.0 = took.moves.agrees.regions took.at.region w.0 w.1 in
      record {
        at = took.at;
        takes = record {
          answer = took.takes.answer;
          is = took.takes.is;
          ledger = took.takes.ledger;
          place = took.takes.place;
          asked = taken ∙ took.takes.asked;
        };
        fresh = took.fresh;
        live = took.live;
        moves = Moves-more (footprint k.memory) (footprint m.memory) (footprint m.memory) s u t took.moves (Moves-inside (footprint m.memory) u t took.at took.at size (replicate size 0) took.moves.agrees inside);
        keeps = λ at i j b live again below short.
            let ne : at ≢ took.at = λ same. none_or_some ((footprint k.memory).live took.at) i took.fresh (ap (footprint k.memory).live (sym same) ∙ live) in
            KeepsBut-inside (footprint m.memory) u t took.at took.at size (replicate size 0) took.moves.agrees inside at j j b ne again again short short ∙ took.keeps at i j b live again below short;
        now = ap (λ (x : Kept). record x { chunks = Node number (taken_entry name took.at size size) Empty k.chunks }) took.now
            ∙ ap (λ (n : ℕ). record k { used = true; memory = m.memory; chunks = Node number (taken_entry name took.at size n) Empty k.chunks; chunk_places = placed name number slot k.chunk_places }) (sym (long k m number slot name size s u took));
        total = took.total;
        fits = omega (arith, long k m number slot name size s u took);
        has = HasBytes-written u t took.at (replicate size 0) target.0 target.1 (omega (arith, long k m number slot name size s u took, w.2, target.3)) writes;
      }
