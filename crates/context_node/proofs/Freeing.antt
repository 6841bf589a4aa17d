-- A context in which a chunk was freed.
use Rattle.context_node.proofs.Words.{◌≡◌, ◌≢◌, ℕ, ◌+◌, ◌<◌, true, List, map, Some, None, IsSome, sym, ap, ◌∙◌, subst, arith, Space, byte_at, IsKnown, put_at-cases, at, has, Once, removed, has_at, at_some, has_of_removed, once_removed, footprint, ledger, place_at, Chunk, Context, without, Entry, Kept, AreFlat, IsSoundContext, chunk_of, entries, context_of, Freed}
use Rattle.addr_space.specs.Footprint as foot
use Rattle.context_node.proofs.Names.{named_not, named_so}
use Rattle.context_node.proofs.Steps.{chunk_same}
use Rattle.context_node.proofs.Bytes.{in_live, bytes_same}
use Rattle.context_node.proofs.Removals.{flat_removed, other_than_removed, left_at, still_at, without_entries}
use Rattle.std.proofs.lemmas.Bool.Decides.{nat_tests}

module _ (k l : Kept) (n : ℕ) (s t : Space) (gone : Freed k l n s t) (sound : IsSoundContext k) (agrees : foot.Agrees (footprint k.memory) s) where
  pub chunks_now : l.chunks ≡ removed n k.chunks
  chunks_now = ap (λ (x : Kept). x.chunks) gone.now

  -- an entry that is left
  pub left : (c : ℕ) (e : Entry) → at c l.chunks ≡ Some e → (c ≢ n) × (at c k.chunks ≡ Some e)
  left c e h = left_at c n e k.chunks sound.once sound.flat (ap (at c) (sym chunks_now) ∙ h)

  elsewhere : (c : ℕ) (e : Entry) → c ≢ n → at c k.chunks ≡ Some e → e.at ≢ gone.entry.at
  elsewhere c e ne h = sound.differ c n e gone.entry ne h gone.listed

  live_left : (c : ℕ) (e : Entry) → c ≢ n → at c k.chunks ≡ Some e → (footprint l.memory).live e.at ≡ Some e.size
  live_left c e ne h = grind (arith, nat_tests, put_at-cases (footprint k.memory).live (footprint l.memory).live gone.entry.at None gone.live e.at, e.at, elsewhere)

  place_left : (c : ℕ) (e : Entry) → c ≢ n → at c k.chunks ≡ Some e → place_at l.memory e.at ≡ place_at k.memory e.at
  place_left c e ne h = grind (arith, nat_tests, put_at-cases (place_at k.memory) (place_at l.memory) gone.entry.at None gone.places e.at, e.at, elsewhere)

  pub sound_freed : IsSoundContext l
  sound_freed = record {
    flat = subst AreFlat (sym chunks_now) (flat_removed n k.chunks sound.flat);
    once = subst Once (sym chunks_now) (once_removed n k.chunks sound.once (has_at n k.chunks gone.entry gone.listed));
    numbers = λ c h.
        let there : has c (removed n k.chunk_places) ≡ true = ap (λ (x : Kept). has c x.chunk_places) (sym gone.now) ∙ h in
        let ne : c ≢ n = other_than_removed c n k.chunk_places there in
        let some = at_some c k.chunks (sound.numbers c (has_of_removed c n k.chunk_places there)) in
        ap (has c) chunks_now ∙ has_at c (removed n k.chunks) some.0 (still_at c n some.0 k.chunks sound.once sound.flat ne some.1);
    live = λ c e h. let was = left c e h in live_left c e was.0 was.1;
    placed = λ c e h. let was = left c e h in subst IsSome (sym (place_left c e was.0 was.1)) (sound.placed c e was.1);
    known = λ c e h. sound.known c e (left c e h).1;
    differ = λ b c d e differs h q. sound.differ b c d e differs (left b d h).1 (left c e q).1;
    total = gone.total;
  }

  byte_left : (c : ℕ) (e : Entry) (i : ℕ) → c ≢ n → at c k.chunks ≡ Some e → i < e.known → byte_at t e.at.region (e.at.offset + i) ≡ byte_at s e.at.region (e.at.offset + i)
  byte_left c e i ne h below =
      let fit : i < e.size = omega (arith, below, sound.known c e h) in
      gone.keeps e.at e.size e.size i (sound.live c e h) (live_left c e ne h) fit fit

  pub known_freed : ((c : ℕ) (e : Entry) → at c k.chunks ≡ Some e → IsKnown s e.at e.known) → (c : ℕ) (e : Entry) → at c l.chunks ≡ Some e → IsKnown t e.at e.known
  known_freed known c e h i below = grind (arith, nat_tests, left c e h, byte_left)

  chunk_left : (c : ℕ) (e : Entry) → c ≢ n → at c k.chunks ≡ Some e → chunk_of t l.memory e ≡ chunk_of s k.memory e
  chunk_left c e ne h = grind (arith, nat_tests, chunk_same, place_left c e ne h, bytes_same, e.at, e.known, in_live (footprint k.memory) s e.at e.size e.known agrees (sound.live c e h) (sound.known c e h), e.size, in_live (footprint l.memory) t e.at e.size e.known gone.moves.agrees (live_left c e ne h) (sound.known c e h), live_left c e ne h, byte_left)

  abbrev built : List Chunk → Context
  built chunks = record {
    name = k.name;
    kind = k.kind;
    protected = k.protected;
    ledger = ledger l.memory;
    used = k.used;
    chunks = chunks;
    hooks = k.hooks;
  }

  pub context_freed : (w : List ℕ) → gone.entry.name ≡ Some w → ((c : ℕ) (e : Entry) → c ≢ n → at c k.chunks ≡ Some e → e.name ≢ Some w)
      → built (without w (map (chunk_of s k.memory) (entries k.chunks))) ≡ context_of t l
  context_freed w named others =
      sym (
      ap (context_of t) gone.now
      ∙ ap built (without_entries w (chunk_of s k.memory) (chunk_of t l.memory) k.chunks n gone.entry sound.once sound.flat gone.listed
      (named_so s w gone.entry.name named) (λ d x ne h. named_not s w x.name (others d x ne h)) (λ d x ne h. chunk_left d x ne h))
      )
