-- A context in which a chunk got another size.
use Rattle.context_node.proofs.Words.{◌≡◌, ◌≢◌, ◌⊎◌, ℕ, ◌+◌, ◌<◌, List, length, map, take, Option, Some, None, IsSome, refl, sym, ap, ◌∙◌, subst, inl, inr, arith, min, if◌then◌else◌, same_number_lists, length-take, get_or-take, Addr, Space, byte_at, IsKnown, same_addr-cases, none_or_some, at, has, Once, changed, once_changed, has_changed, Ledger, footprint, place_at, Chunk, Context, with_changed, with_size, Entry, Kept, AreFlat, IsSoundContext, bytes_at, chunk_of, entries, context_of, Refitted}
use Rattle.addr_space.specs.Footprint as foot
use Rattle.addr_space.specs.Live.{same_addr}
use Rattle.context_node.proofs.Names.{named_not, named_so}
use Rattle.context_node.proofs.Steps.{chunk_same}
use Rattle.context_node.proofs.Sounds.{step_at}
use Rattle.context_node.proofs.Bytes.{IsIn, in_live, length-bytes_at, get-bytes_at, bytes_same}
use Rattle.context_node.proofs.Changes.{flat_changed, changed_entries}
use Rattle.std.proofs.lemmas.Bool.Decides.{nat_tests}

-- the first of so many bytes
pub cut_bytes : (s : Space) (a : Addr) (known size : ℕ) → IsIn s a known → take size (bytes_at s a known) ≡ bytes_at s a (min known size)
cut_bytes s a known size inside =
    let long : length (bytes_at s a known) ≡ known = length-bytes_at s a known inside in
    let less : IsIn s a (min known size) = omega (arith, inside) in
    let one : length (take size (bytes_at s a known)) ≡ min known size = simp length-take (omega (arith, long)) in
    same_number_lists (take size (bytes_at s a known)) (bytes_at s a (min known size)) (one ∙ sym (length-bytes_at s a (min known size) less))
    (λ i below.
    let short : i < min known size = omega (arith, one, below) in
    let first : i < size = omega (arith, short) in
    let second : i < known = omega (arith, short) in
    get_or-take size (bytes_at s a known) i 0 first ∙ get-bytes_at s a known i inside second ∙ sym (get-bytes_at s a (min known size) i less short))

module _ (k l : Kept) (n size : ℕ) (s t : Space) (fit : Refitted k l n size s t) (sound : IsSoundContext k) (agrees : foot.Agrees (footprint k.memory) s) where
  abbrev now_entry : Entry
  now_entry = record fit.entry { at = fit.to; size = size; known = min fit.entry.known size }

  chunks_now : l.chunks ≡ changed n (λ _. now_entry) k.chunks
  chunks_now = ap (λ (x : Kept). x.chunks) fit.now

  cases : (c : ℕ) (e : Entry) → at c l.chunks ≡ Some e → ((c ≡ n) × (e ≡ now_entry)) ⊎ ((c ≢ n) × (at c k.chunks ≡ Some e))
  cases c e h = step_at n fit.entry now_entry k.chunks fit.listed c e (ap (at c) (sym chunks_now) ∙ h)

  -- another chunk is neither where this one was nor where it is
  was_elsewhere : (c : ℕ) (e : Entry) → c ≢ n → at c k.chunks ≡ Some e → e.at ≢ fit.entry.at
  was_elsewhere c e ne h = sound.differ c n e fit.entry ne h fit.listed

  is_elsewhere : (c : ℕ) (e : Entry) → c ≢ n → at c k.chunks ≡ Some e → e.at ≢ fit.to
  is_elsewhere c e ne h same = grind (arith, nat_tests, same_addr-cases fit.to fit.entry.at, was_elsewhere, none_or_some, e.size)

  apart : {X : Type 0} (f g : Addr → Option X) (x : X) → ((other : Addr) → g other ≡ (if same_addr fit.to other then Some x else (if same_addr fit.entry.at other then None else f other)))
      → (c : ℕ) (e : Entry) → c ≢ n → at c k.chunks ≡ Some e → g e.at ≡ f e.at
  apart f g x moved c e ne h = grind (arith, nat_tests, same_addr-cases fit.to e.at, e.at, is_elsewhere, same_addr-cases fit.entry.at e.at, was_elsewhere)

  lands : {X : Type 0} (f g : Addr → Option X) (x : X) → ((other : Addr) → g other ≡ (if same_addr fit.to other then Some x else (if same_addr fit.entry.at other then None else f other))) → g fit.to ≡ Some x
  lands f g x moved = grind (arith, nat_tests, same_addr-cases fit.to fit.to)

  live_now : (footprint l.memory).live fit.to ≡ Some size
  live_now = lands (footprint k.memory).live (footprint l.memory).live size fit.live

  live_other : (c : ℕ) (e : Entry) → c ≢ n → at c k.chunks ≡ Some e → (footprint l.memory).live e.at ≡ Some e.size
  live_other c e ne h = apart (footprint k.memory).live (footprint l.memory).live size fit.live c e ne h ∙ sound.live c e h

  place_now : place_at l.memory fit.to ≡ Some fit.resizes.answer.place
  place_now = lands (place_at k.memory) (place_at l.memory) fit.resizes.answer.place fit.resizes.place

  place_other : (c : ℕ) (e : Entry) → c ≢ n → at c k.chunks ≡ Some e → place_at l.memory e.at ≡ place_at k.memory e.at
  place_other c e ne h = apart (place_at k.memory) (place_at l.memory) fit.resizes.answer.place fit.resizes.place c e ne h

  pub sound_refitted : IsSoundContext l
  sound_refitted = record {
    flat = subst AreFlat (sym chunks_now) (flat_changed n (λ _. now_entry) k.chunks sound.flat);
    once = subst Once (sym chunks_now) (once_changed n (λ _. now_entry) k.chunks sound.once);
    numbers = λ c h. ap (has c) chunks_now ∙ has_changed c n (λ _. now_entry) k.chunks ∙ sound.numbers c (ap (λ (x : Kept). has c x.chunk_places) (sym fit.now) ∙ h);
    live = λ c e h. elim (cases c e h) [ inl it ↦ rw it.1 live_now | inr it ↦ live_other c e it.0 it.1 ];
    placed = λ c e h. elim (cases c e h) [
      | inl it ↦ rw it.1 (subst IsSome (sym place_now) refl)
      | inr it ↦ subst IsSome (sym (place_other c e it.0 it.1)) (sound.placed c e it.1)
    ];
    known = λ c e h. elim (cases c e h) [ inl it ↦ rw it.1 (omega arith) | inr it ↦ sound.known c e it.1 ];
    differ = λ b c d e differs h q same. elim (cases b d h) [
      | inl one ↦ elim (cases c e q) [
        | inl two ↦ differs (one.0 ∙ sym two.0)
        | inr two ↦ is_elsewhere c e two.0 two.1 (sym same ∙ ap (λ (x : Entry). x.at) one.1)
      ]
      | inr one ↦ elim (cases c e q) [
        | inl two ↦ is_elsewhere b d one.0 one.1 (same ∙ ap (λ (x : Entry). x.at) two.1)
        | inr two ↦ sound.differ b c d e differs one.1 two.1 same
      ]
    ];
    total = fit.total;
  }

  byte_other : (c : ℕ) (e : Entry) (i : ℕ) → c ≢ n → at c k.chunks ≡ Some e → i < e.known → byte_at t e.at.region (e.at.offset + i) ≡ byte_at s e.at.region (e.at.offset + i)
  byte_other c e i ne h below =
      let within : i < e.size = omega (arith, below, sound.known c e h) in
      fit.keeps e.at e.size e.size i (was_elsewhere c e ne h) (sound.live c e h) (live_other c e ne h) within within

  pub known_refitted : ((c : ℕ) (e : Entry) → at c k.chunks ≡ Some e → IsKnown s e.at e.known) → (c : ℕ) (e : Entry) → at c l.chunks ≡ Some e → IsKnown t e.at e.known
  known_refitted known c e h = grind (arith, nat_tests, cases c e h, byte_other)

  chunk_other : (c : ℕ) (e : Entry) → c ≢ n → at c k.chunks ≡ Some e → chunk_of t l.memory e ≡ chunk_of s k.memory e
  chunk_other c e ne h = grind (arith, nat_tests, chunk_same, place_other c e ne h, bytes_same, e.at, e.known, in_live (footprint k.memory) s e.at e.size e.known agrees (sound.live c e h) (sound.known c e h), e.size, in_live (footprint l.memory) t e.at e.size e.known fit.moves.agrees (live_other c e ne h) (sound.known c e h), live_other c e ne h, byte_other)

  bytes_now : bytes_at t fit.to (min fit.entry.known size) ≡ take size (bytes_at s fit.entry.at fit.entry.known)
  bytes_now = grind (arith, nat_tests, in_live (footprint k.memory) s fit.entry.at fit.entry.size fit.entry.known agrees (sound.live n fit.entry fit.listed) (sound.known n fit.entry fit.listed), in_live, live_now, bytes_same, cut_bytes)

  abbrev built : Ledger → List Chunk → Context
  built led chunks = record {
    name = k.name;
    kind = k.kind;
    protected = k.protected;
    ledger = led;
    used = k.used;
    chunks = chunks;
    hooks = k.hooks;
  }

  chunk_now : chunk_of t l.memory now_entry ≡ with_size size fit.resizes.answer.place (chunk_of s k.memory fit.entry)
  chunk_now = grind (arith, nat_tests, bytes_at t fit.to (min fit.entry.known size), place_now, bytes_now)

  pub context_refitted : (w : List ℕ) → fit.entry.name ≡ Some w → ((c : ℕ) (e : Entry) → c ≢ n → at c k.chunks ≡ Some e → e.name ≢ Some w)
      → built fit.resizes.answer.ledger (with_changed w (with_size size fit.resizes.answer.place) (map (chunk_of s k.memory) (entries k.chunks))) ≡ context_of t l
  context_refitted w named others =
      sym (
      ap (context_of t) fit.now
      ∙ ap (λ (x : Ledger). built x (map (chunk_of t l.memory) (entries (changed n (λ _. now_entry) k.chunks)))) fit.resizes.ledger
      ∙ ap (built fit.resizes.answer.ledger) (changed_entries w (with_size size fit.resizes.answer.place) (chunk_of s k.memory) (chunk_of t l.memory) k.chunks n fit.entry now_entry sound.once sound.flat fit.listed
      (named_so s w fit.entry.name named) (λ d x ne h. named_not s w x.name (others d x ne h)) (λ d x ne h. chunk_other d x ne h) chunk_now)
      )
