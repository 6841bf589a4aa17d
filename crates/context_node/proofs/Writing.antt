-- A context in which bytes were written in a chunk.
use Rattle.context_node.proofs.Words.{◌≡◌, ◌≢◌, ◌⊎◌, ℕ, ◌+◌, ◌-◌, ◌<◌, ◌≤◌, List, ◌++◌, length, map, get_or, take, drop, Some, refl, sym, ap, ◌∙◌, subst, inl, inr, arith, max, cases_lt, length-append, length-take, length-drop, get_or-take, get_or-drop, get_or_append_left, get_or-append_right, append_assoc, Addr, Space, byte_at, IsKnown, HasBytes, HasRegion, WritesInside, Moves-inside, KeepsBut-inside, HasBytes-written, byte_at-apart, changed, once_changed, has_changed, footprint, ledger, Chunk, Context, with_changed, written_over, Entry, Kept, IsSoundContext, bytes_at, chunk_of, entries, context_of, Written}
use Rattle.addr_space.specs.Footprint as foot
use Rattle.forest.specs.Forest.{at as entry_at}
use Rattle.context_node.proofs.Names.{named_not, named_so}
use Rattle.context_node.proofs.Steps.{chunk_same}
use Rattle.context_node.proofs.Sounds.{step_at}
use Rattle.context_node.proofs.Bytes.{IsIn, in_live, length-bytes_at, has_known, known_has, bytes_are, bytes_same}
use Rattle.context_node.proofs.Changes.{flat_changed, changed_entries}
use Rattle.std.proofs.lemmas.Bool.Decides.{nat_tests}

module _ (place : ℕ) (bytes known : List ℕ) (within : place ≤ length known) where
  front : length (take place known) ≡ place
  front = simp length-take (omega arith)

  pub over_long : length (written_over place bytes known) ≡ max (length known) (place + length bytes)
  over_long = simp (length-append, length-take, length-drop) (omega arith)

  pub over_before : (i : ℕ) → i < place → get_or (written_over place bytes known) i 0 ≡ get_or known i 0
  over_before i below =
      let short : i < length (take place known) = omega (arith, front, below) in
      ap (λ (xs : List ℕ). get_or xs i 0) (append_assoc (take place known) bytes (drop (place + length bytes) known)) ∙ get_or_append_left (take place known) (bytes ++ drop (place + length bytes) known) 0 i short ∙ get_or-take place known i 0 below

  pub over_in : (i : ℕ) → place ≤ i → i < place + length bytes → get_or (written_over place bytes known) i 0 ≡ get_or bytes (i - place) 0
  over_in i above below =
      let short : i - place < length bytes = omega arith in
      ap (λ (xs : List ℕ). get_or xs i 0) (append_assoc (take place known) bytes (drop (place + length bytes) known)) ∙ get_or-append_right (take place known) (bytes ++ drop (place + length bytes) known) place i 0 front above ∙ get_or_append_left bytes (drop (place + length bytes) known) 0 (i - place) short

  pub over_behind : (i : ℕ) → place + length bytes ≤ i → get_or (written_over place bytes known) i 0 ≡ get_or known i 0
  over_behind i above =
      let low : place ≤ i = omega arith in
      let more : length bytes ≤ i - place = omega arith in
      let there : place + length bytes + (i - place - length bytes) ≡ i = omega arith in
      ap (λ (xs : List ℕ). get_or xs i 0) (append_assoc (take place known) bytes (drop (place + length bytes) known)) ∙ get_or-append_right (take place known) (bytes ++ drop (place + length bytes) known) place i 0 front low
      ∙ get_or-append_right bytes (drop (place + length bytes) known) (length bytes) (i - place) 0 refl more
      ∙ get_or-drop (place + length bytes) known (i - place - length bytes) 0
      ∙ ap (λ (j : ℕ). get_or known j 0) there

module _ (k l : Kept) (n place : ℕ) (bytes : List ℕ) (s t : Space) (wrote : Written k l n place bytes s t) (sound : IsSoundContext k) (agrees : foot.Agrees (footprint k.memory) s)
    (known : (c : ℕ) (e : Entry) → entry_at c k.chunks ≡ Some e → IsKnown s e.at e.known) where
  live : (footprint k.memory).live wrote.entry.at ≡ Some wrote.entry.size
  live = sound.live n wrote.entry wrote.listed

  inside : WritesInside (footprint k.memory) s t wrote.entry.at (record { region = wrote.entry.at.region; offset = wrote.entry.at.offset + place }) wrote.entry.size bytes
  inside = record {
    live = live;
    region = refl;
    first = omega arith;
    last = omega (arith, wrote.fits);
    writes = wrote.writes;
  }

  chunks_now : l.chunks ≡ changed n (λ _. record wrote.entry { known = max wrote.entry.known (place + length bytes) }) k.chunks
  chunks_now = ap (λ (x : Kept). x.chunks) wrote.now

  cases : (c : ℕ) (e : Entry) → entry_at c l.chunks ≡ Some e
      → ((c ≡ n) × (e ≡ record wrote.entry { known = max wrote.entry.known (place + length bytes) })) ⊎ ((c ≢ n) × (entry_at c k.chunks ≡ Some e))
  cases c e h = step_at n wrote.entry (record wrote.entry { known = max wrote.entry.known (place + length bytes) }) k.chunks wrote.listed c e (ap (entry_at c) (sym chunks_now) ∙ h)

  -- the bytes of the chunk then
  was_in : IsIn s wrote.entry.at wrote.entry.known
  was_in = in_live (footprint k.memory) s wrote.entry.at wrote.entry.size wrote.entry.known agrees live (sound.known n wrote.entry wrote.listed)

  old_long : length (bytes_at s wrote.entry.at wrote.entry.known) ≡ wrote.entry.known
  old_long = length-bytes_at s wrote.entry.at wrote.entry.known was_in

  reaches : place ≤ length (bytes_at s wrote.entry.at wrote.entry.known)
  reaches = omega (arith, old_long, wrote.within)

  over : length (written_over place bytes (bytes_at s wrote.entry.at wrote.entry.known)) ≡ max wrote.entry.known (place + length bytes)
  over = over_long place bytes (bytes_at s wrote.entry.at wrote.entry.known) reaches ∙ ap (λ (m : ℕ). max m (place + length bytes)) old_long

  least : max wrote.entry.known (place + length bytes) ≤ wrote.entry.size
  least = omega (arith, wrote.fits, sound.known n wrote.entry wrote.listed)

  now_in : IsIn t wrote.entry.at (max wrote.entry.known (place + length bytes))
  now_in = in_live (footprint k.memory) t wrote.entry.at wrote.entry.size (max wrote.entry.known (place + length bytes))
      (Moves-inside (footprint k.memory) s t wrote.entry.at (record { region = wrote.entry.at.region; offset = wrote.entry.at.offset + place }) wrote.entry.size bytes agrees inside).agrees live least

  has_now : HasBytes t wrote.entry.at (written_over place bytes (bytes_at s wrote.entry.at wrote.entry.known))
  has_now i below =
      let w = agrees.sound.live_inside wrote.entry.at wrote.entry.size live in
      let target : HasRegion s wrote.entry.at.region (footprint k.memory).account w.0 = agrees.regions wrote.entry.at.region w.0 w.1 in
      let room : wrote.entry.at.offset + place + length bytes ≤ length target.0.bytes = omega (arith, wrote.fits, w.2, target.3) in
      let to : Addr = record { region = wrote.entry.at.region; offset = wrote.entry.at.offset + place } in
      let kept : (i < place) ⊎ (place + length bytes ≤ i) → byte_at t wrote.entry.at.region (wrote.entry.at.offset + i) ≡ byte_at s wrote.entry.at.region (wrote.entry.at.offset + i) =
      λ out. byte_at-apart s t to bytes target.0 target.1 room wrote.writes wrote.entry.at.region (wrote.entry.at.offset + i)
      (λ same. elim out [ inl before ↦ inl (omega arith) | inr after ↦ inr (omega arith) ]) in
      let stood : i < wrote.entry.known → byte_at s wrote.entry.at.region (wrote.entry.at.offset + i) ≡ Some (get_or (bytes_at s wrote.entry.at wrote.entry.known) i 0) =
      λ short. has_known s wrote.entry.at wrote.entry.known was_in (known n wrote.entry wrote.listed) i (omega (arith, old_long, short)) in
      elim (cases_lt i place) [
        | inl before ↦ kept (inl before) ∙ stood (omega (arith, wrote.within)) ∙ ap Some (sym (over_before place bytes (bytes_at s wrote.entry.at wrote.entry.known) reaches i before))
        | inr after ↦ elim (cases_lt i (place + length bytes)) [
          | inl among ↦
              let short : i - place < length bytes = omega arith in
              let sums : wrote.entry.at.offset + place + (i - place) ≡ wrote.entry.at.offset + i = omega arith in
              ap (byte_at t wrote.entry.at.region) (sym sums) ∙ HasBytes-written s t to bytes target.0 target.1 room wrote.writes (i - place) short
              ∙ ap Some (sym (over_in place bytes (bytes_at s wrote.entry.at wrote.entry.known) reaches i after among))
          | inr behind ↦
              let short : i < wrote.entry.known = omega (arith, over, below) in
              kept (inr behind) ∙ stood short ∙ ap Some (sym (over_behind place bytes (bytes_at s wrote.entry.at wrote.entry.known) reaches i behind))
        ]
      ]

  bytes_now : bytes_at t wrote.entry.at (max wrote.entry.known (place + length bytes)) ≡ written_over place bytes (bytes_at s wrote.entry.at wrote.entry.known)
  bytes_now = grind (arith, nat_tests, bytes_at t wrote.entry.at, over, bytes_are t wrote.entry.at (written_over place bytes (bytes_at s wrote.entry.at wrote.entry.known)) (subst (IsIn t wrote.entry.at) (sym over) now_in) has_now, bytes_at s wrote.entry.at wrote.entry.known, now_in, has_now)

  -- every other chunk stays
  byte_other : (c : ℕ) (e : Entry) (i : ℕ) → c ≢ n → entry_at c k.chunks ≡ Some e → i < e.known → byte_at t e.at.region (e.at.offset + i) ≡ byte_at s e.at.region (e.at.offset + i)
  byte_other c e i ne h below =
      let fit : i < e.size = omega (arith, below, sound.known c e h) in
      KeepsBut-inside (footprint k.memory) s t wrote.entry.at (record { region = wrote.entry.at.region; offset = wrote.entry.at.offset + place }) wrote.entry.size bytes agrees inside
      e.at e.size e.size i (sound.differ c n e wrote.entry ne h wrote.listed) (sound.live c e h) (sound.live c e h) fit fit

  pub moves_now : foot.Moves (footprint k.memory) (footprint l.memory) s t
  moves_now =
      subst (λ (x : Kept). foot.Moves (footprint k.memory) (footprint x.memory) s t) (sym wrote.now)
      (Moves-inside (footprint k.memory) s t wrote.entry.at (record { region = wrote.entry.at.region; offset = wrote.entry.at.offset + place }) wrote.entry.size bytes agrees inside)

  pub sound_written : IsSoundContext l
  sound_written = grind (arith, nat_tests, flat_changed, once_changed, has_changed, cases, least)

  pub known_written : (c : ℕ) (e : Entry) → entry_at c l.chunks ≡ Some e → IsKnown t e.at e.known
  known_written c e h = grind (arith, nat_tests, cases c e h, over, known_has t wrote.entry.at (written_over place bytes (bytes_at s wrote.entry.at wrote.entry.known)) has_now, bytes_at s wrote.entry.at wrote.entry.known, has_now, byte_other)

  chunk_other : (c : ℕ) (e : Entry) → c ≢ n → entry_at c k.chunks ≡ Some e → chunk_of t k.memory e ≡ chunk_of s k.memory e
  chunk_other c e ne h =
      chunk_same s t k.memory k.memory e refl
      (bytes_same s t e.at e.at e.known (in_live (footprint k.memory) s e.at e.size e.known agrees (sound.live c e h) (sound.known c e h))
      (in_live (footprint k.memory) t e.at e.size e.known
      (Moves-inside (footprint k.memory) s t wrote.entry.at (record { region = wrote.entry.at.region; offset = wrote.entry.at.offset + place }) wrote.entry.size bytes agrees inside).agrees
      (sound.live c e h) (sound.known c e h)) (λ i below. byte_other c e i ne h below))

  abbrev built : List Chunk → Context
  built chunks = record {
    name = k.name;
    kind = k.kind;
    protected = k.protected;
    ledger = ledger k.memory;
    used = k.used;
    chunks = chunks;
    hooks = k.hooks;
  }

  abbrev put_in : Chunk → Chunk
  put_in chunk = record chunk { known = written_over place bytes chunk.known }

  pub context_written : (w : List ℕ) → wrote.entry.name ≡ Some w → ((c : ℕ) (e : Entry) → c ≢ n → entry_at c k.chunks ≡ Some e → e.name ≢ Some w)
      → built (with_changed w put_in (map (chunk_of s k.memory) (entries k.chunks))) ≡ context_of t l
  context_written w named others =
      let y : Entry = record wrote.entry { known = max wrote.entry.known (place + length bytes) } in
      sym (
      ap (context_of t) wrote.now
      ∙ ap built (changed_entries w put_in (chunk_of s k.memory) (chunk_of t k.memory) k.chunks n wrote.entry y sound.once sound.flat wrote.listed
      (named_so s w wrote.entry.name named) (λ d x ne h. named_not s w x.name (others d x ne h)) (λ d x ne h. chunk_other d x ne h)
      (ap (λ (bs : List ℕ). record (chunk_of s k.memory wrote.entry) { known = bs }) bytes_now))
      )
