-- A context once a chunk was taken in it.
use Rattle.context_node.proofs.Words.{◌≡◌, ◌≢◌, ◌⊎◌, ℕ, ◌+◌, ◌<◌, true, false, List, ◌∷◌, length, map, Option, Some, refl, sym, ap, ◌∙◌, inl, inr, arith, ne_eqb, Space, byte_at, IsKnown, put_at-cases, none_or_some, Forest, Empty, Node, at, has, once_front, Ledger, footprint, place_at, Chunk, Context, with_chunk, Entry, Kept, IsSoundContext, chunk_of, entries, context_of, Took, placed, taken_entry}
use Rattle.addr_space.specs.Footprint as foot
use Rattle.context_node.proofs.Names.{at_here, one_at}
use Rattle.context_node.proofs.Steps.{entries_same, chunk_same}
use Rattle.context_node.proofs.Bytes.{in_live, bytes_same, bytes_are, known_has}
use Rattle.std.proofs.lemmas.Bool.Decides.{nat_tests}

-- what lies at a number among entries with one more in front
pub front_cases : {A : Type 0} (n c : ℕ) (a e : A) (old : Forest A) → at c (Node n a Empty old) ≡ Some e → ((c ≡ n) × (a ≡ e)) ⊎ ((c ≢ n) × (at c old ≡ Some e))
front_cases n c a e old h = grind (arith, nat_tests, one_at)

pub front_other : {A : Type 0} (n c : ℕ) (a e : A) (old : Forest A) → c ≢ n → at c old ≡ Some e → at c (Node n a Empty old) ≡ Some e
front_other n c a e old ne h = rw (ne_eqb n c (λ z. ne (sym z))) h

pub front_has : {A B : Type 0} (n c : ℕ) (a : A) (b : B) (old : Forest A) (others : Forest B) → (has c others ≡ true → has c old ≡ true) → has c (Node n b Empty others) ≡ true → has c (Node n a Empty old) ≡ true
front_has n c a b old others all h = grind (arith, nat_tests)

-- what has a place, with one more chunk in front
pub placed_has : {A : Type 0} (n c slot : ℕ) (name : Option (List ℕ)) (a : A) (old : Forest A) (places : Forest ℕ) → (has c places ≡ true → has c old ≡ true)
    → has c (placed name n slot places) ≡ true → has c (Node n a Empty old) ≡ true
placed_has n c slot x3 a old places all h = grind (arith, nat_tests, front_has)

pub placed_other : (n c slot at_slot : ℕ) (name : Option (List ℕ)) (places : Forest ℕ) → c ≢ n → at c places ≡ Some at_slot → at c (placed name n slot places) ≡ Some at_slot
placed_other n c slot at_slot x4 places ne h = grind (arith, nat_tests, front_other)

-- a chunk with a name has the place where it is kept
pub placed_here : (n slot : ℕ) (name : Option (List ℕ)) (w : List ℕ) (places : Forest ℕ) → name ≡ Some w → at n (placed name n slot places) ≡ Some slot
placed_here n slot name w places is = ap (λ (o : Option (List ℕ)). at n (placed o n slot places)) is ∙ at_here n slot Empty places

module _ (k l : Kept) (number slot : ℕ) (name : Option (List ℕ)) (size : ℕ) (known : List ℕ) (s t : Space) (took : Took k l number slot name size known s t) (sound : IsSoundContext k)
    (agrees : foot.Agrees (footprint k.memory) s) (fresh : has number k.chunks ≡ false) where
  pub chunks_now : l.chunks ≡ Node number (taken_entry name took.at size (length known)) Empty k.chunks
  chunks_now = ap (λ (x : Kept). x.chunks) took.now

  pub entry_cases : (c : ℕ) (e : Entry) → at c l.chunks ≡ Some e → ((c ≡ number) × (taken_entry name took.at size (length known) ≡ e)) ⊎ ((c ≢ number) × (at c k.chunks ≡ Some e))
  entry_cases c e h = front_cases number c (taken_entry name took.at size (length known)) e k.chunks (ap (at c) (sym chunks_now) ∙ h)

  -- an older chunk is elsewhere
  elsewhere : (c : ℕ) (e : Entry) → at c k.chunks ≡ Some e → e.at ≢ took.at
  elsewhere c e h same = none_or_some ((footprint k.memory).live took.at) e.size took.fresh (ap (footprint k.memory).live (sym same) ∙ sound.live c e h)

  pub live_new : (footprint l.memory).live took.at ≡ Some size
  live_new = elim (put_at-cases (footprint k.memory).live (footprint l.memory).live took.at (Some size) took.live took.at) [ inl it ↦ it.1 | inr it ↦ absurd (it.0 refl) ]

  live_old : (c : ℕ) (e : Entry) → at c k.chunks ≡ Some e → (footprint l.memory).live e.at ≡ Some e.size
  live_old c e h = grind (arith, nat_tests, put_at-cases (footprint k.memory).live (footprint l.memory).live took.at (Some size) took.live e.at, e.at, elsewhere)

  place_new : place_at l.memory took.at ≡ Some took.takes.answer.place
  place_new = elim (put_at-cases (place_at k.memory) (place_at l.memory) took.at (Some took.takes.answer.place) took.takes.place took.at) [ inl it ↦ it.1 | inr it ↦ absurd (it.0 refl) ]

  place_old : (c : ℕ) (e : Entry) → at c k.chunks ≡ Some e → place_at l.memory e.at ≡ place_at k.memory e.at
  place_old c e h = grind (arith, nat_tests, put_at-cases (place_at k.memory) (place_at l.memory) took.at (Some took.takes.answer.place) took.takes.place e.at, e.at, elsewhere)

  pub sound_took : IsSoundContext l
  sound_took = grind (arith, nat_tests, chunks_now, once_front, placed_has, entry_cases, live_new, live_old, place_new, place_old, elsewhere)

  -- the bytes of an older chunk stay
  byte_old : (c : ℕ) (e : Entry) (i : ℕ) → at c k.chunks ≡ Some e → i < e.known → byte_at t e.at.region (e.at.offset + i) ≡ byte_at s e.at.region (e.at.offset + i)
  byte_old c e i h below =
      let fit : i < e.size = omega (arith, below, sound.known c e h) in
      took.keeps e.at e.size e.size i (sound.live c e h) (live_old c e h) fit fit

  pub known_took : ((c : ℕ) (e : Entry) → at c k.chunks ≡ Some e → IsKnown s e.at e.known) → (c : ℕ) (e : Entry) → at c l.chunks ≡ Some e → IsKnown t e.at e.known
  known_took knows c e h = grind (arith, nat_tests, entry_cases c e h, known_has t took.at known took.has, byte_old)

  abbrev built : Ledger → List Chunk → Context
  built led chunks = record {
    name = k.name;
    kind = k.kind;
    protected = k.protected;
    ledger = led;
    used = true;
    chunks = chunks;
    hooks = k.hooks;
  }

  pub context_took : with_chunk name size known took.takes.answer (context_of s k) ≡ context_of t l
  context_took =
      let olds : map (chunk_of t l.memory) (entries k.chunks) ≡ map (chunk_of s k.memory) (entries k.chunks) =
      entries_same (chunk_of t l.memory) (chunk_of s k.memory) k.chunks sound.once (λ c e h.
      chunk_same s t k.memory l.memory e (place_old c e h)
      (bytes_same s t e.at e.at e.known (in_live (footprint k.memory) s e.at e.size e.known agrees (sound.live c e h) (sound.known c e h))
      (in_live (footprint l.memory) t e.at e.size e.known took.moves.agrees (live_old c e h) (sound.known c e h)) (λ i below. byte_old c e i h below))) in
      let first : chunk_of t l.memory (taken_entry name took.at size (length known)) ≡ record { name = name; size = size; place = took.takes.answer.place; known = known } =
      rw (place_new, bytes_are t took.at known (in_live (footprint l.memory) t took.at size (length known) took.moves.agrees live_new took.fits) took.has) refl in
      sym (
      ap (context_of t) took.now
      ∙ ap (λ (x : Ledger). built x (chunk_of t l.memory (taken_entry name took.at size (length known)) ∷ map (chunk_of t l.memory) (entries k.chunks))) took.takes.ledger
      ∙ ap (λ (x : Chunk). built took.takes.answer.ledger (x ∷ map (chunk_of t l.memory) (entries k.chunks))) first
      ∙ ap (λ (x : List Chunk). built took.takes.answer.ledger (record { name = name; size = size; place = took.takes.answer.place; known = known } ∷ x)) olds
      )
