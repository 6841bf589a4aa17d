-- What is known of the chunk that a name leads to.
use Rattle.context_tree.proofs.Base.{nat_tests, ◌≡◌, ℕ, ◌+◌, ◌^◌, ◌≤◌, List, length, map, Some, None, IsSome, refl, sym, ap, ◌∙◌, subst, arith, IfSome}
use Rattle.context_tree.proofs.Words.{Addr, Space, region_at, bytes_of, byte_at, part, IsInside, IsKnown, HasBytes, Footprint, ends_small, IsInside-live_part, footprint, ledger, Found, found, shown, bytes_refusal, ChunkId, Entry, bytes_at, chunk_of, TreeState, stands_for, Agrees, Leads, IsIn, in_live, length-bytes_at, has_known, part_read}
use Rattle.addr_space.specs.Footprint as foot
use Rattle.context_rules.specs.Contexts as rules

-- the chunk in its context and in the space
pub record Stands (tree : TreeState) (word : List ℕ) (e : Entry) (s : Space) : Type 0 where
  pub footprint : Footprint
  pub found : Found
  pub agrees : foot.Agrees footprint s
  pub live : footprint.live e.at ≡ Some e.size
  pub fits : e.known ≤ e.size
  pub ends : e.at.offset + e.size ≤ 2 ^ 31
  pub inside : IsIn s e.at e.known
  pub known : IsKnown s e.at e.known
  pub is : rules.found word (stands_for tree s) ≡ Some found
  pub bytes : found.chunk.known ≡ bytes_at s e.at e.known

pub stands : (tree : TreeState) (word : List ℕ) (e : Entry) (s : Space) → Agrees tree s → ((id : ChunkId) × (leads : Leads tree word id) × (leads.chunk.entry ≡ e)) → Stands tree word e s
stands tree word e s agrees led =
    let id = led.0 in
    let leads : Leads tree word id = led.1 in
    let k = leads.chunk.context in
    let here = leads.chunk.stands in
    let lists = leads.chunk.listed in
    let each : foot.Agrees (footprint k.memory) s = agrees.each id.context.number k here in
    subst (λ (x : Entry). Stands tree word x s) led.2 (record {
      footprint = footprint k.memory;
      found = record { context = id.context.number; ledger = ledger k.memory; chunk = chunk_of s k.memory leads.chunk.entry };
      agrees = each;
      live = leads.sound.live id.entry.number leads.chunk.entry lists;
      fits = leads.sound.known id.entry.number leads.chunk.entry lists;
      ends = ends_small (footprint k.memory) s leads.chunk.entry.at leads.chunk.entry.size each (leads.sound.live id.entry.number leads.chunk.entry lists);
      inside = in_live (footprint k.memory) s leads.chunk.entry.at leads.chunk.entry.size leads.chunk.entry.known each (leads.sound.live id.entry.number leads.chunk.entry lists) (leads.sound.known id.entry.number leads.chunk.entry lists);
      known = agrees.known id.context.number id.entry.number k leads.chunk.entry here lists;
      is = leads.found s;
      bytes = refl;
    })

module _ (tree : TreeState) (word : List ℕ) (e : Entry) (s : Space) (x : Stands tree word e s) where
  pub known_long : length x.found.chunk.known ≡ e.known
  known_long = ap length x.bytes ∙ length-bytes_at s e.at e.known x.inside

  pub bytes_served : (place n : ℕ) → place + n ≤ e.known → None ≡ bytes_refusal word place n (stands_for tree s)
  bytes_served place n fits = grind (arith, nat_tests, known_long)

  -- a place in the chunk
  abbrev pub IsAt : Addr → ℕ → Type 0
  IsAt at place = at ≡ record { region = e.at.region; offset = e.at.offset + place }

  pub inside_at : (at : Addr) (place n : ℕ) → IsAt at place → place + n ≤ e.size → IsInside s at n
  inside_at at place n is fits = grind (arith, nat_tests, IsInside-live_part)

  pub known_at : (at : Addr) (place n : ℕ) → IsAt at place → place + n ≤ e.known → IsKnown s at n
  known_at at place n is fits k below =
      let sums : e.at.offset + place + k ≡ e.at.offset + (place + k) = omega arith in
      let there : byte_at s at.region (at.offset + k) ≡ byte_at s e.at.region (e.at.offset + (place + k)) =
      ap (λ (a : Addr). byte_at s a.region (a.offset + k)) is ∙ ap (byte_at s e.at.region) sums in
      subst IsSome (sym there) (x.known (place + k) (omega (arith, below, fits)))

  pub bytes_shown : (at : Addr) (place n : ℕ) (out : List ℕ) → IsAt at place → place + n ≤ e.known → map Some out ≡ part (bytes_of (region_at s at.region)) at.offset n → out ≡ shown word place n (stands_for tree s)
  bytes_shown at place n out is fits reads = grind (arith, nat_tests, part, bytes_of (region_at s e.at.region), bytes_of, part_read)

  pub place_has : IfSome (found word (stands_for tree s)) (λ f. HasBytes s e.at f.chunk.known)
  place_has = grind (arith, nat_tests, has_known s e.at e.known x.inside x.known)
