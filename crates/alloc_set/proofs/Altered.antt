-- Lemmas on a step that puts one chunk at most, and gives other lengths to no regions but fresh ones.
use Rattle.alloc_set.proofs.Base.{Addr, Agrees, ap, arith, block_bytes, capacity_of, cases_eq, Chunk, chunk_at, footprint, Free, header_bytes, header_of, IfSome, inl, inr, IsAlone, IsPlaced, IsSettled, IsSound, link_of, List, Live, mark_of, Moves, Moves-still, nat_tests, None, Option, Own, put_at-cases, PutsChunk, refl, region_of, SameBlocks, SetState, Some, Space, start_of, sym, ℕ, ◌+◌, ◌-◌, ◌<◌, ◌^◌, ◌∙◌, ◌≡◌, ◌≢◌, ◌≤◌, ◌⊎◌}
use Rattle.alloc_set.proofs.Settled.{block, header, link, behind, mark_cases, mark_from_block, mark_from_chunk, mark_from_link}

-- what stands at an address after one chunk was put
pub put_cases : (s t : SetState) (at : Addr) (chunk : Option Chunk) → PutsChunk s t at chunk → (other : Addr) → ((other ≡ at) × (chunk_at t other ≡ chunk)) ⊎ ((other ≢ at) × (chunk_at t other ≡ chunk_at s other))
put_cases s t at chunk puts other = put_at-cases (chunk_at s) (chunk_at t) at chunk puts other

-- what stays: the context's numbers, the regions but for fresh ones, and each chunk that isn't put, with its region
pub record Alters (s t : SetState) (Fresh : ℕ → Type 0) (at : Addr) (slot : Option Chunk) : Type 0 where
  pub account : t.account ≡ s.account
  pub context : t.context ≡ s.context
  pub keeper : t.keeper ≡ s.keeper
  pub is_fresh : (number : ℕ) → Fresh number ⊎ (Fresh number → ⊥)
  pub regions : (number : ℕ) → (Fresh number → ⊥) → region_of t number ≡ region_of s number
  pub found : (other : Addr) (chunk : Chunk) → chunk_at t other ≡ Some chunk → ((chunk_at s other ≡ Some chunk) × (Fresh other.region → ⊥)) ⊎ ((other ≡ at) × (slot ≡ Some chunk))

pub region_same : (s t : SetState) → SameBlocks s t → (number : ℕ) → region_of t number ≡ region_of s number
region_same s t same number = rw (same.keeper, same.blocks, same.init) refl

-- a chunk is put, and the blocks stay
abbrev pub Puts : SetState → SetState → Addr → Option Chunk → Type 0
Puts s t at slot = Alters s t (λ _. ⊥) at slot

pub Puts-chunk : (s t : SetState) (at : Addr) (slot : Option Chunk) → SameBlocks s t → PutsChunk s t at slot → Puts s t at slot
Puts-chunk s t at slot same puts = grind (arith, nat_tests, region_same, put_cases)

-- a region has another length or none, and the chunks stay, none of which is in it
pub Alters-blocks : (s t : SetState) (number : ℕ) (at : Addr) → t.account ≡ s.account → t.context ≡ s.context → t.keeper ≡ s.keeper → t.chunks ≡ s.chunks → ((other : ℕ) → other ≢ number → region_of t other ≡ region_of s other)
    → ((other : Addr) (chunk : Chunk) → chunk_at s other ≡ Some chunk → other.region ≢ number) → Alters s t (λ n. n ≡ number) at None
Alters-blocks s t number at account context keeper chunks others elsewhere = grind (arith, nat_tests, cases_eq)

-- a chunk has its block for itself still, where another block may be active
pub alone_kept : (s t : SetState) (was now : ℕ) (at : Addr) (chunk : Chunk) → t.keeper ≡ s.keeper → region_of t at.region ≡ region_of s at.region → (at.region ≢ was → at.region ≢ now) → IsAlone s was at chunk → IsAlone t now at chunk
alone_kept s t was now at (Live class size) keeper same elsewhere is = tt
alone_kept s t was now at (Free class next) keeper same elsewhere is = tt
alone_kept s t was now at (Own size room) keeper same elsewhere is = (elsewhere is.0, (λ e. is.1 (e ∙ keeper)), is.2, same ∙ is.3)

-- a mark is an old one, or that of a fresh block or of the chunk that is put
pub data NewMark (s t : SetState) (Fresh : ℕ → Type 0) (at : Addr) (slot : Option Chunk) (b : Addr) (bytes : List ℕ) : Type 0 where
  old : (Fresh b.region → ⊥) → mark_of s b ≡ Some bytes → NewMark s t Fresh at slot b bytes
  new_block : (len : ℕ) → Fresh b.region → b.offset ≡ start_of s b.region → region_of t b.region ≡ Some len → block_bytes s.context len ≡ bytes → NewMark s t Fresh at slot b bytes
  new_header : (chunk : Chunk) → b.offset ≢ start_of s b.region → behind b ≡ at → slot ≡ Some chunk → header_bytes (header_of chunk (b.offset - start_of s b.region)) ≡ bytes → NewMark s t Fresh at slot b bytes
  new_link : (chunk : Chunk) → b ≡ at → slot ≡ Some chunk → link_of chunk ≡ Some bytes → NewMark s t Fresh at slot b bytes

-- where nothing is put, it is an old one or that of a fresh block
pub old_or_fresh : (s t : SetState) (Fresh : ℕ → Type 0) (at b : Addr) (bytes : List ℕ) → NewMark s t Fresh at None b bytes → ((len : ℕ) → Fresh b.region → region_of t b.region ≡ Some len → ⊥) → mark_of s b ≡ Some bytes
old_or_fresh s t Fresh at b bytes x6 none = grind (arith, nat_tests)

module _ (s t : SetState) (Fresh : ℕ → Type 0) (at : Addr) (slot : Option Chunk) (active size : ℕ) (settled : IsSettled s active size) (alters : Alters s t Fresh at slot) where
  pub start_same : (number : ℕ) → start_of t number ≡ start_of s number
  start_same number = rw alters.keeper refl

  pub IsSettled-altered : region_of t active ≡ region_of s active → t.ledger.room ≤ s.ledger.room
      → ((number len : ℕ) → Fresh number → region_of t number ≡ Some len → (len ≤ 2 ^ 31) × (start_of s number + 40 ≤ len) × (number < 2 ^ 32))
      → IfSome slot (λ chunk. IsPlaced t active size at chunk)
      → IfSome slot (λ chunk. (other : Addr) (it : Chunk) → chunk_at s other ≡ Some it → other ≢ at → other.region ≡ at.region → (other.offset + capacity_of it + 8 ≤ at.offset) ⊎ (at.offset + capacity_of chunk + 8 ≤ other.offset))
      → IsSettled t active size
  IsSettled-altered owned room small placed apart = record {
    active_owned = owned ∙ settled.active_owned;
    active_room = omega (arith, start_same active, settled.active_room, room);
    small = λ number len has. elim (alters.is_fresh number) [
      | inl new ↦ let now = small number len new has in (now.0, omega (arith, now.1, start_same number), now.2)
      | inr stays ↦ let was = settled.small number len (sym (alters.regions number stays) ∙ has) in (was.0, omega (arith, was.1, start_same number), was.2)
    ];
    placed = λ other chunk found. elim (alters.found other chunk found) [
      | inl stood ↦
          let was = settled.placed other chunk stood.0 in
          let region = alters.regions other.region stood.1 in
          record {
            len = was.len;
            owned = region ∙ was.owned;
            first = omega (arith, was.first, start_same other.region);
            last = was.last;
            whole = was.whole;
            below = λ region. omega (arith, was.below region, room);
            sized = was.sized;
            alone = alone_kept s t active active other chunk alters.keeper region (λ differs. differs) was.alone;
          }
      | inr new ↦ rw new.0 (rw new.1 at placed)
    ];
    apart = λ a b first second at_a at_b region below. elim (alters.found a first at_a) [
      | inl old_a ↦ elim (alters.found b second at_b) [
        | inl old_b ↦ settled.apart a b first second old_a.0 old_b.0 region below
        | inr new_b ↦
            let offset : b.offset ≡ at.offset = ap (λ (x : Addr). x.offset) new_b.0 in
            elim ((rw new_b.1 at apart) a first old_a.0 (λ e. omega (arith, below, offset, ap (λ (x : Addr). x.offset) e)) (region ∙ ap (λ (x : Addr). x.region) new_b.0)) [
              | inl before ↦ omega (arith, before, offset)
              | inr after ↦ absurd (omega (arith, after, below, offset))
            ]
      ]
      | inr new_a ↦
          let offset : a.offset ≡ at.offset = ap (λ (x : Addr). x.offset) new_a.0 in
          elim (alters.found b second at_b) [
            | inl old_b ↦ elim ((rw new_a.1 at apart) b second old_b.0 (λ e. omega (arith, below, offset, ap (λ (x : Addr). x.offset) e)) (sym region ∙ ap (λ (x : Addr). x.region) new_a.0)) [
              | inl before ↦ absurd (omega (arith, before, below, offset))
              | inr after ↦ omega (arith, after, offset)
            ]
            | inr new_b ↦ absurd (omega (arith, below, offset, ap (λ (x : Addr). x.offset) new_b.0))
          ]
    ];
  }

  pub new_marks : (b : Addr) (bytes : List ℕ) → mark_of t b ≡ Some bytes → NewMark s t Fresh at slot b bytes
  new_marks b bytes marked =
      let start = start_same b.region in
      elim (mark_cases t b bytes marked) [
        | block len first owned is ↦
            let bytes_are : block_bytes s.context len ≡ bytes = ap (λ x. block_bytes x len) (sym alters.context) ∙ is in
            elim (alters.is_fresh b.region) [
              | inl new ↦ new_block len new (first ∙ start) owned bytes_are
              | inr stays ↦ old stays (mark_from_block s b len (first ∙ start) (sym (alters.regions b.region stays) ∙ owned) ∙ ap Some bytes_are)
            ]
        | header chunk differs found is ↦
            let bytes_are : header_bytes (header_of chunk (b.offset - start_of s b.region)) ≡ bytes = ap (λ x. header_bytes (header_of chunk (b.offset - x))) (sym start) ∙ is in
            elim (alters.found (behind b) chunk found) [
              | inl stood ↦ old stood.1 (mark_from_chunk s b chunk (λ e. differs (e ∙ sym start)) stood.0 ∙ ap Some bytes_are)
              | inr new ↦ new_header chunk (λ e. differs (e ∙ sym start)) new.0 new.1 bytes_are
            ]
        | link chunk found is ↦ elim (alters.found b chunk found) [
          | inl stood ↦ old stood.1 (mark_from_link s active size settled b chunk bytes stood.0 is)
          | inr new ↦ new_link chunk new.0 new.1 is
        ]
      ]

  -- where no mark is new, and the regions stay, the space does
  pub Moves-altered : IsSound (footprint t) → t.ledger.total ≡ s.ledger.total → ((number : ℕ) → region_of t number ≡ region_of s number) → ((b : Addr) (bytes : List ℕ) → NewMark s t Fresh at slot b bytes → mark_of s b ≡ Some bytes)
      → (sp : Space) → Agrees (footprint s) sp → Moves (footprint s) (footprint t) sp sp
  Moves-altered sound total regions marks sp agrees =
      Moves-still (footprint s) (footprint t) sp agrees sound alters.account alters.context total regions (λ b bytes marked. agrees.marks b bytes (marks b bytes (new_marks b bytes marked)))
