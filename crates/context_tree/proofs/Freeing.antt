-- A tree in which a chunk was freed.
use Rattle.context_tree.proofs.Base.{◌≡◌, ◌≢◌, ℕ, List, Option, Some, None, Ok, unwrap_or, refl, sym, ap, ◌∙◌, inl, inr, arith, if◌then◌else◌, cases_eq, cases_Bool, both_ways, nat_tests}
use Rattle.context_tree.proofs.Words.{CtxId, Space, Forest, at, Once, changed, has_at, at_some, Place, InSlab, give, footprint, ledger, place_at, without, freed, ChunkId, Entry, Own, Kept, same, IsSoundContext, IsSound, IsChunk, TreeState, stands_for, Agrees, Moves, Freed, Leads, same_is, is_same, step_at, step_here, step_other, still_at, left, sound_freed, known_freed, context_freed}
use Rattle.addr_space.specs.Footprint as foot
use Rattle.context_tree.proofs.Steps.{Stepped, stands_by, moves_stepped}
use Rattle.context_tree.proofs.Sounds.{sound_step}
use Rattle.context_node.proofs.Freeing.{chunks_now}

-- a map of names without one
abbrev pub dropped : List ℕ → (List ℕ → Option ChunkId) → List ℕ → Option ChunkId
dropped w find q = if same w q then None else find q

module _ (kept : Forest Kept) (places : Forest ℕ) (find_context : List ℕ → Option CtxId) (find_chunk : List ℕ → Option ChunkId) (own : Own) (now : CtxId) (next next_entry : ℕ)
    (sound : IsSound kept places find_context find_chunk own now next next_entry) (n c : ℕ) (k l : Kept) (s t : Space) (w : List ℕ) (here : at n kept ≡ Some k) (gone : Freed k l c s t)
    (agrees : foot.Agrees (footprint k.memory) s) (named : gone.entry.name ≡ Some w) where
  -- only this chunk has the name
  only : (m d : ℕ) (j : Kept) (e : Entry) → at m kept ≡ Some j → at d j.chunks ≡ Some e → e.name ≡ Some w → (m ≡ n) × (d ≡ c)
  only m d j e h q is =
      let one = sound.chunk_names m d j e w h q is in
      let two = sound.chunk_names n c k gone.entry w here gone.listed named in
      let both : Some one.0 ≡ Some two.0 = sym one.1 ∙ two.1 in
      let it : one.0 ≡ two.0 = cc in
      (sym one.2 ∙ ap (λ (x : ChunkId). x.context.number) it ∙ two.2, sym one.3 ∙ ap (λ (x : ChunkId). x.entry.number) it ∙ two.3)

  stays : (word : List ℕ) (x : ChunkId) → (word ≡ w → ⊥) → find_chunk word ≡ Some x → IsChunk (changed n (λ _. l) kept) places word x
  stays word x differs h =
      let was : IsChunk kept places word x = sound.chunk_named word x h in
      elim (cases_eq x.context.number n) [
        | inl alike ↦
            let one : Some was.context ≡ Some k = sym was.stands ∙ ap (λ (i : ℕ). at i kept) alike ∙ here in
            let it : was.context ≡ k = cc in
            let listed : at x.entry.number k.chunks ≡ Some was.entry = ap (λ (y : Kept). at x.entry.number y.chunks) (sym it) ∙ was.listed in
            let ne : x.entry.number ≢ c = λ e.
            let two : Some was.entry ≡ Some gone.entry = sym listed ∙ ap (λ (i : ℕ). at i k.chunks) e ∙ gone.listed in
            let that : was.entry ≡ gone.entry = cc in
            let names : Some word ≡ Some w = sym was.name ∙ ap (λ (y : Entry). y.name) that ∙ named in
            differs cc in
            let inside : IsSoundContext k = sound.each n k here in
            record {
              context = l;
              entry = was.entry;
              stands = step_here n k l kept here x.context.number alike;
              placed = was.placed;
              listed = ap (at x.entry.number) (chunks_now k l c s t gone inside agrees) ∙ still_at x.entry.number c was.entry k.chunks inside.once inside.flat ne listed;
              entry_placed = ap (λ (y : Kept). at x.entry.number y.chunk_places) gone.now ∙ gone.stays x.entry.number ne ∙ ap (λ (y : Kept). at x.entry.number y.chunk_places) (sym it) ∙ was.entry_placed;
              name = was.name;
            }
        | inr ne ↦ record {
          context = was.context;
          entry = was.entry;
          stands = step_other n k l kept here x.context.number was.context ne was.stands;
          placed = was.placed;
          listed = was.listed;
          entry_placed = was.entry_placed;
          name = was.name;
        }
      ]

  pub sound_free : (find_chunk2 : List ℕ → Option ChunkId) → ((q : List ℕ) → find_chunk2 q ≡ dropped w find_chunk q) → IsSound (changed n (λ _. l) kept) places find_context find_chunk2 own now next next_entry
  sound_free find_chunk2 drops =
      let inside : IsSoundContext k = sound.each n k here in
      let finds : (word : List ℕ) (x : ChunkId) → (word ≡ w → ⊥) → find_chunk word ≡ Some x → find_chunk2 word ≡ Some x =
      λ word x differs h. elim (cases_Bool (same w word)) [
        | inl y ↦ absurd (differs (sym (same_is w word y)))
        | inr out ↦ drops word ∙ rw out h
      ] in
      sound_step kept places find_context find_chunk own now next next_entry sound n k l here find_chunk2 next_entry
      (ap (λ (x : Kept). x.name) gone.now) (ap (λ (x : Kept). x.protected) gone.now) (sound_freed k l c s t gone inside agrees) (omega arith)
      (λ d h.
      let some = at_some d l.chunks h in
      let was = left k l c s t gone inside agrees d some.0 some.1 in
      sound.given n d k here (has_at d k.chunks some.0 was.1))
      (λ word x h. elim (cases_Bool (same w word)) [
        | inl y ↦ let none : dropped w find_chunk word ≡ None = rw y refl in let is : dropped w find_chunk word ≡ Some x = sym (drops word) ∙ h in absurd (cc)
        | inr out ↦
            let is : find_chunk word ≡ Some x = (let z : dropped w find_chunk word ≡ Some x = sym (drops word) ∙ h in rw out at z) in
            stays word x (λ e. both_ways (same w word) out (is_same w word (sym e))) is
      ])
      (λ m d j e word h q is. elim (step_at n k l kept here m j h) [
        | inl it ↦
            let was = left k l c s t gone inside agrees d e (ap (λ (x : Kept). at d x.chunks) (sym it.1) ∙ q) in
            let there = sound.chunk_names n d k e word here was.1 is in
            (there.0, finds word there.0 (λ z. was.0 (only n d k e here was.1 (is ∙ ap Some z)).1) there.1, there.2 ∙ sym it.0, there.3)
        | inr it ↦
            let there = sound.chunk_names m d j e word it.1 q is in
            (there.0, finds word there.0 (λ z. it.0 (only m d j e it.1 q (is ∙ ap Some z)).0) there.1, there.2, there.3)
      ])

module _ (a : TreeState) (s t : Space) (w : List ℕ) (id : ChunkId) (k l : Kept) (agrees : Agrees a s) (once : Once a.kept) (each : (m : ℕ) (j : Kept) → at m a.kept ≡ Some j → IsSoundContext j)
    (leads : Leads a w id) (here : at id.context.number a.kept ≡ Some k) (gone : Freed k l id.entry.number s t) where
  stepped : Stepped a (record a { kept = changed id.context.number (λ _. l) a.kept }) s t id.context.number k l
  stepped = grind (arith, nat_tests, gone.moves, known_freed k l id.entry.number s t gone (each id.context.number k here) (agrees.each id.context.number k here) (λ c e h. agrees.known id.context.number c k e here h), gone.total)

  pub free_moves : Moves a (record a { kept = changed id.context.number (λ _. l) a.kept }) s t
  free_moves = moves_stepped a (record a { kept = changed id.context.number (λ _. l) a.kept }) s t id.context.number k l agrees once each stepped

  same_context : leads.chunk.context ≡ k
  same_context = let one : Some leads.chunk.context ≡ Some k = sym leads.chunk.stands ∙ here in cc

  same_entry : leads.chunk.entry ≡ gone.entry
  same_entry = grind (arith, nat_tests, at, same_context)

  pub entry_named : gone.entry.name ≡ Some w
  entry_named = ap (λ (x : Entry). x.name) (sym same_entry) ∙ leads.chunk.name

  pub free_contexts : ((c : ℕ) (e : Entry) → c ≢ id.entry.number → at c k.chunks ≡ Some e → e.name ≢ Some w) → stands_for (record a { kept = changed id.context.number (λ _. l) a.kept }) t ≡ freed w (stands_for a s)
  free_contexts others =
      let gives : give (ledger leads.chunk.context.memory) (unwrap_or (place_at leads.chunk.context.memory leads.chunk.entry.at) (InSlab 0)) ≡ Ok (ledger l.memory) =
      ap (λ (x : Kept). give (ledger x.memory) (unwrap_or (place_at x.memory leads.chunk.entry.at) (InSlab 0))) same_context
      ∙ ap (λ (x : Entry). give (ledger k.memory) (unwrap_or (place_at k.memory x.at) (InSlab 0))) same_entry
      ∙ ap (λ (o : Option Place). give (ledger k.memory) (unwrap_or o (InSlab 0))) gone.placed
      ∙ gone.given in
      stands_by a (record a { kept = changed id.context.number (λ _. l) a.kept }) s t id.context.number k l agrees once each stepped
      (λ c. record c { ledger = ledger l.memory; chunks = without w c.chunks })
      (context_freed k l id.entry.number s t gone (each id.context.number k here) (agrees.each id.context.number k here) w entry_named others)
      ∙ sym (rw (leads.found s, gives) refl)
