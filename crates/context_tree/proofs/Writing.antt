-- A tree in which bytes were written in a chunk.
use Rattle.context_tree.proofs.Base.{nat_tests, ◌≡◌, ◌≢◌, ℕ, ◌+◌, List, length, Some, None, refl, sym, ap, ◌∙◌, arith, nat_lt, ◌||◌}
use Rattle.context_tree.proofs.Words.{Space, at as entry_at, Once, changed, footprint, with_changed, written_over, written, Range, put_refusal, where_so, ChunkId, Entry, Kept, IsSoundContext, bytes_at, TreeState, stands_for, Agrees, Moves, Written, Leads, in_live, length-bytes_at, moves_now, sound_written, known_written, context_written}
use Rattle.context_tree.proofs.Steps.{Stepped, stands_by, moves_stepped}

module _ (a : TreeState) (s t : Space) (w : List ℕ) (id : ChunkId) (k l : Kept) (place : ℕ) (bytes : List ℕ) (agrees : Agrees a s) (once : Once a.kept)
    (each : (m : ℕ) (j : Kept) → entry_at m a.kept ≡ Some j → IsSoundContext j) (leads : Leads a w id) (here : entry_at id.context.number a.kept ≡ Some k) where
  same_context : leads.chunk.context ≡ k
  same_context = let one : Some leads.chunk.context ≡ Some k = sym leads.chunk.stands ∙ here in cc

  pub leads_entry : entry_at id.entry.number k.chunks ≡ Some leads.chunk.entry
  leads_entry = ap (λ (x : Kept). entry_at id.entry.number x.chunks) (sym same_context) ∙ leads.chunk.listed

  -- why the call is refused
  pub put_told : put_refusal w place (length bytes) (stands_for a s) ≡ where_so (nat_lt leads.chunk.entry.known place || nat_lt leads.chunk.entry.size (place + length bytes)) Range
  put_told =
      let e = leads.chunk.entry in
      let inside : IsSoundContext k = each id.context.number k here in
      let long : length (bytes_at s e.at e.known) ≡ e.known =
      length-bytes_at s e.at e.known (in_live (footprint k.memory) s e.at e.size e.known (agrees.each id.context.number k here) (inside.live id.entry.number e leads_entry) (inside.known id.entry.number e leads_entry)) in
      rw (leads.found s, long) refl

  module _ (wrote : Written k l id.entry.number place bytes s t) where
    pub same_entry : leads.chunk.entry ≡ wrote.entry
    same_entry = let one : Some leads.chunk.entry ≡ Some wrote.entry = sym leads_entry ∙ wrote.listed in cc

    pub entry_named : wrote.entry.name ≡ Some w
    entry_named = ap (λ (x : Entry). x.name) (sym same_entry) ∙ leads.chunk.name

    stepped : Stepped a (record a { kept = changed id.context.number (λ _. l) a.kept }) s t id.context.number k l
    stepped = record {
      here = here;
      changed = refl;
      account = refl;
      moves = moves_now k l id.entry.number place bytes s t wrote (each id.context.number k here) (agrees.each id.context.number k here) (λ c e h. agrees.known id.context.number c k e here h);
      known = known_written k l id.entry.number place bytes s t wrote (each id.context.number k here) (agrees.each id.context.number k here) (λ c e h. agrees.known id.context.number c k e here h);
      total = (sound_written k l id.entry.number place bytes s t wrote (each id.context.number k here) (agrees.each id.context.number k here) (λ c e h. agrees.known id.context.number c k e here h)).total;
    }

    pub put_moves : Moves a (record a { kept = changed id.context.number (λ _. l) a.kept }) s t
    put_moves = moves_stepped a (record a { kept = changed id.context.number (λ _. l) a.kept }) s t id.context.number k l agrees once each stepped

    pub put_contexts : ((c : ℕ) (e : Entry) → c ≢ id.entry.number → entry_at c k.chunks ≡ Some e → e.name ≢ Some w) → stands_for (record a { kept = changed id.context.number (λ _. l) a.kept }) t ≡ written w place bytes (stands_for a s)
    put_contexts others =
        stands_by a (record a { kept = changed id.context.number (λ _. l) a.kept }) s t id.context.number k l agrees once each stepped
        (λ c. record c { chunks = with_changed w (λ chunk. record chunk { known = written_over place bytes chunk.known }) c.chunks })
        (context_written k l id.entry.number place bytes s t wrote (each id.context.number k here) (agrees.each id.context.number k here) (λ c e h. agrees.known id.context.number c k e here h) w entry_named others)
        ∙ sym (rw (leads.found s) refl)

    pub put_served : None ≡ put_refusal w place (length bytes) (stands_for a s)
    put_served = grind (arith, nat_tests, same_entry, put_told)
