-- A tree of which bytes are written over those that are known of a chunk.
use Rattle.context_tree.proofs.Base.{◌≡◌, ◌≢◌, ℕ, ◌+◌, ◌≤◌, List, [], length, map, Option, Some, refl, sym, ap, ◌∙◌, subst, arith, max}
use Rattle.context_tree.proofs.Words.{Space, Changes, region_at, overwritten, Forest, at, Once, changed, written, CtxId, ChunkId, Entry, Kept, Own, IsSoundContext, IsSound, TreeState, stands_for, Agrees, Moves, Written, Leads}
use Rattle.context_tree.proofs.Names.{once_of}
use Rattle.context_tree.proofs.Sounds.{tree_back, changed_back, one_named}
use Rattle.context_tree.proofs.Writing.{put_moves, put_contexts}

module _ (a : TreeState) (s t : Space) (w : List ℕ) (id : ChunkId) (place : ℕ) (bytes : List ℕ) (agrees : Agrees a s) (once : Once a.kept)
    (each : (m : ℕ) (j : Kept) → at m a.kept ≡ Some j → IsSoundContext j) (leads : Leads a w id)
    (fits : place + length bytes ≤ leads.chunk.entry.known)
    (writes : Changes s t leads.chunk.entry.at.region (overwritten (region_at s leads.chunk.entry.at.region) (leads.chunk.entry.at.offset + place) (map Some bytes))) where
  k : Kept
  k = leads.chunk.context

  e : Entry
  e = leads.chunk.entry

  same_known : max leads.chunk.entry.known (place + length bytes) ≡ leads.chunk.entry.known
  same_known = omega (arith, fits)

  stays : changed id.entry.number (λ _. record leads.chunk.entry { known = max leads.chunk.entry.known (place + length bytes) }) leads.chunk.context.chunks ≡ leads.chunk.context.chunks
  stays =
      ap (λ (m : ℕ). changed id.entry.number (λ _. record leads.chunk.entry { known = m }) leads.chunk.context.chunks) same_known
      ∙ changed_back id.entry.number leads.chunk.entry leads.chunk.context.chunks leads.sound.once leads.chunk.listed

  pub wrote : Written leads.chunk.context leads.chunk.context id.entry.number place bytes s t
  wrote = record {
    entry = leads.chunk.entry;
    listed = leads.chunk.listed;
    within = omega (arith, fits);
    fits = omega (arith, fits, leads.sound.known id.entry.number leads.chunk.entry leads.chunk.listed);
    now = sym (ap (λ (chunks : Forest Entry). record leads.chunk.context { chunks = chunks }) stays);
    writes = writes;
  }

  back : record a { kept = changed id.context.number (λ _. leads.chunk.context) a.kept } ≡ a
  back = tree_back a id.context.number leads.chunk.context leads.chunk.context leads.chunk.stands once refl

  pub place_moves : Moves a a s t
  place_moves =
      subst (λ (x : TreeState). Moves a x s t) back
      (put_moves a s t w id leads.chunk.context leads.chunk.context place bytes agrees once each leads leads.chunk.stands wrote)

  pub place_contexts : ((c : ℕ) (x : Entry) → c ≢ id.entry.number → at c leads.chunk.context.chunks ≡ Some x → x.name ≢ Some w) → stands_for a t ≡ written w place bytes (stands_for a s)
  place_contexts others =
      subst (λ (x : TreeState). stands_for x t ≡ written w place bytes (stands_for a s)) back
      (put_contexts a s t w id leads.chunk.context leads.chunk.context place bytes agrees once each leads leads.chunk.stands wrote others)

-- the same, as a name leads to it
module _ (a : TreeState) (find_context : List ℕ → Option CtxId) (find_chunk : List ℕ → Option ChunkId) (own : Own) (next_entry : ℕ)
    (sound : IsSound a.kept a.places find_context find_chunk own a.current a.next next_entry) (s t : Space) (w : List ℕ) (e : Entry) (place : ℕ) (bytes : List ℕ) (agrees : Agrees a s)
    (led : (id : ChunkId) × (leads : Leads a w id) × (leads.chunk.entry ≡ e)) (fits : place + length bytes ≤ e.known)
    (writes : Changes s t e.at.region (overwritten (region_at s e.at.region) (e.at.offset + place) (map Some bytes))) where
  once_kept : Once a.kept
  once_kept = once_of a.kept a.places find_context find_chunk own a.current a.next next_entry sound s []

  pub place_written : (stands_for a t ≡ written w place bytes (stands_for a s)) × Moves a a s t
  place_written =
      let id : ChunkId = led.0 in
      let leads : Leads a w id = led.1 in
      let f : place + length bytes ≤ leads.chunk.entry.known = omega (arith, fits, ap (λ (x : Entry). x.known) led.2) in
      let ws : Changes s t leads.chunk.entry.at.region (overwritten (region_at s leads.chunk.entry.at.region) (leads.chunk.entry.at.offset + place) (map Some bytes)) =
      subst (λ (x : Entry). Changes s t x.at.region (overwritten (region_at s x.at.region) (x.at.offset + place) (map Some bytes))) (sym led.2) writes in (
        place_contexts a s t w id place bytes agrees once_kept sound.each leads f ws
            (one_named a.kept a.places find_context find_chunk own a.current a.next next_entry sound id.context.number id.entry.number leads.chunk.context leads.chunk.entry w
            leads.chunk.stands leads.chunk.listed leads.chunk.name),
        place_moves a s t w id place bytes agrees once_kept sound.each leads f ws,
      )
