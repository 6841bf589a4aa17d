-- A tree in which a chunk was taken.
use Rattle.context_tree.proofs.Base.{◌≡◌, ◌≢◌, ◌⊎◌, ℕ, ◌+◌, ◌-◌, ◌<◌, true, false, List, length, Option, Some, None, Ok, IsSome, refl, sym, ap, ◌∙◌, subst, inl, inr, arith, cases_eq, cases_Bool, nat_tests}
use Rattle.context_tree.proofs.Words.{CtxId, Space, held, Asks, none_or_some, Forest, Empty, at, has, Once, changed, mapped, has_at, at_some, mapped-at, footprint, ledger, take_in, TreeError, Taken, Memory, served, asked, allocated, with_chunk, refusal, is_chunk, alloc_refusal, ChunkId, Entry, Own, Kept, same, IsSoundContext, IsSound, IsChunk, context_of, TreeState, stands_for, Agrees, Moves, left_of, Took, taken_entry, entered, at_here, same_is, is_same, some_or_none, step_at, step_here, step_other, entry_cases, front_other, placed_other, placed_here, chunks_now, sound_took, known_took, context_took}
use Rattle.addr_space.specs.Footprint as foot
use Rattle.context_tree.proofs.Names.{find_found, find_nothing}
use Rattle.context_tree.proofs.Steps.{Stepped, stands_by, moves_stepped}
use Rattle.context_tree.proofs.Sounds.{sound_step}

-- nothing happens
pub tree_none : (a : TreeState) (s : Space) → Agrees a s → Moves a a s s
tree_none a s agrees = grind (arith, nat_tests)

module _ (kept : Forest Kept) (places : Forest ℕ) (find_context : List ℕ → Option CtxId) (find_chunk : List ℕ → Option ChunkId) (own : Own) (now : CtxId) (next next_entry : ℕ)
    (sound : IsSound kept places find_context find_chunk own now next next_entry) where
  -- another map that says the same
  pub sound_names : (find_chunk2 : List ℕ → Option ChunkId) → ((w : List ℕ) → find_chunk2 w ≡ find_chunk w) → IsSound kept places find_context find_chunk2 own now next next_entry
  sound_names find_chunk2 alike = record {
    numbers = sound.numbers;
    few = sound.few;
    lies = sound.lies;
    there = sound.there;
    each = sound.each;
    given = sound.given;
    named = sound.named;
    names = sound.names;
    chunk_named = λ word id h. sound.chunk_named word id (sym (alike word) ∙ h);
    chunk_names = λ n c k e word h q is.
        let there = sound.chunk_names n c k e word h q is in
        (there.0, alike word ∙ there.1, there.2, there.3);
    top = sound.top;
    cache = sound.cache;
    portals = sound.portals;
    abort = sound.abort;
    current = sound.current;
  }

  -- the next entry's number is new
  pub entry_fresh : (n : ℕ) (k : Kept) → at n kept ≡ Some k → has next_entry k.chunks ≡ false
  entry_fresh n k here = grind (arith, nat_tests, k.chunks)

  pub entry_unplaced : (n : ℕ) (k : Kept) → at n kept ≡ Some k → has next_entry k.chunk_places ≡ false
  entry_unplaced n k here =
      elim (cases_Bool (has next_entry k.chunk_places)) [
        | inl y ↦
            let small : next_entry < next_entry = sound.given n next_entry k here ((sound.each n k here).numbers next_entry y) in
            absurd (omega (arith, small))
        | inr out ↦ out
      ]

  -- whether a name stands
  pub not_chunk : (s : Space) (name : Option (List ℕ)) → ((w : List ℕ) → name ≡ Some w → find_chunk w ≡ None) → is_chunk name (mapped (context_of s) kept) ≡ false
  not_chunk s None none = refl
  not_chunk s (Some w) none = rw (find_nothing kept places find_context find_chunk own now next next_entry sound s w (none w refl)) refl

  pub is_a_chunk : (s : Space) (w : List ℕ) → IsSome (find_chunk w) → is_chunk (Some w) (mapped (context_of s) kept) ≡ true
  is_a_chunk s w is =
      some_or_none (find_chunk w) (is_chunk (Some w) (mapped (context_of s) kept) ≡ true) (λ none. let z : IsSome {T = ChunkId} None = subst IsSome none is in absurd (cc))
      (λ id some. rw (find_found kept places find_context find_chunk own now next next_entry sound s w id (sound.chunk_named w id some) some) refl)

  module _ (n slot entry_slot : ℕ) (k l : Kept) (name : Option (List ℕ)) (size : ℕ) (known : List ℕ) (s t : Space) (here : at n kept ≡ Some k) (placed : at n places ≡ Some slot)
      (took : Took k l next_entry entry_slot name size known s t) (agrees : foot.Agrees (footprint k.memory) s) (free : (w : List ℕ) → name ≡ Some w → find_chunk w ≡ None)
      (find_chunk2 : List ℕ → Option ChunkId)
      (enters : (w : List ℕ) → find_chunk2 w ≡ entered name (record { context = record { number = n; slot = slot }; entry = record { number = next_entry; slot = entry_slot } }) find_chunk w) where
    id : ChunkId
    id = record { context = record { number = n; slot = slot }; entry = record { number = next_entry; slot = entry_slot } }

    fresh : has next_entry k.chunks ≡ false
    fresh = entry_fresh n k here

    -- what stood stands
    stays : (word : List ℕ) (x : ChunkId) → find_chunk word ≡ Some x → IsChunk (changed n (λ _. l) kept) places word x
    stays word x h =
        let was : IsChunk kept places word x = sound.chunk_named word x h in
        elim (cases_eq x.context.number n) [
          | inl alike ↦
              let one : Some was.context ≡ Some k = sym was.stands ∙ ap (λ (i : ℕ). at i kept) alike ∙ here in
              let it : was.context ≡ k = cc in
              let listed : at x.entry.number k.chunks ≡ Some was.entry = ap (λ (y : Kept). at x.entry.number y.chunks) (sym it) ∙ was.listed in
              let ne : x.entry.number ≢ next_entry = λ e.
              let small : x.entry.number < next_entry = sound.given n x.entry.number k here (has_at x.entry.number k.chunks was.entry listed) in
              omega (arith, small, e) in
              record {
                context = l;
                entry = was.entry;
                stands = step_here n k l kept here x.context.number alike;
                placed = was.placed;
                listed = grind (arith, nat_tests, at, x.entry.number, chunks_now, fresh, front_other, was.entry);
                entry_placed = grind (arith, nat_tests, at, x.entry.number, placed_other, x.entry.slot, was.entry_placed);
                name = was.name;
              }
          | inr ne ↦ record {
            context = was.context;
            entry = was.entry;
            stands = step_other n k l kept here x.context.number was.context ne was.stands;
            placed = was.placed;
            listed = was.listed;
            entry_placed = was.entry_placed;
            name = was.name;
          }
        ]

    -- the new one stands
    newly : (word : List ℕ) → name ≡ Some word → IsChunk (changed n (λ _. l) kept) places word (record { context = record { number = n; slot = slot }; entry = record { number = next_entry; slot = entry_slot } })
    newly word is = record {
      context = l;
      entry = taken_entry name took.at size (length known);
      stands = step_here n k l kept here n refl;
      placed = placed;
      listed = ap (at next_entry) (chunks_now k l next_entry entry_slot name size known s t took (sound.each n k here) agrees fresh) ∙ at_here next_entry (taken_entry name took.at size (length known)) Empty k.chunks;
      entry_placed = ap (λ (y : Kept). at next_entry y.chunk_places) took.now ∙ placed_here next_entry entry_slot name word k.chunk_places is;
      name = is;
    }

    named_by : (o : Option (List ℕ)) → name ≡ o → (word : List ℕ) (x : ChunkId) → entered o (record { context = record { number = n; slot = slot }; entry = record { number = next_entry; slot = entry_slot } }) find_chunk word ≡ Some x
        → IsChunk (changed n (λ _. l) kept) places word x
    named_by None is word x h = stays word x h
    named_by (Some w) is word x h =
        elim (cases_Bool (same w word)) [
          | inl y ↦
              let one : Some (record { context = record { number = n; slot = slot }; entry = record { number = next_entry; slot = entry_slot } }) ≡ Some x = rw y at h in
              let it : (record { context = record { number = n; slot = slot }; entry = record { number = next_entry; slot = entry_slot } }) ≡ x = cc in
              subst (λ (z : ChunkId). IsChunk (changed n (λ _. l) kept) places word z) it (newly word (is ∙ ap Some (same_is w word y)))
          | inr out ↦ stays word x (rw out at h)
        ]

    finds_new : (o : Option (List ℕ)) → (word : List ℕ) → o ≡ Some word → entered o (record { context = record { number = n; slot = slot }; entry = record { number = next_entry; slot = entry_slot } }) find_chunk word
        ≡ Some (record { context = record { number = n; slot = slot }; entry = record { number = next_entry; slot = entry_slot } })
    finds_new o word is = rw (is, is_same word word refl) refl

    finds_old : (o : Option (List ℕ)) → name ≡ o → (word : List ℕ) (x : ChunkId) → find_chunk word ≡ Some x
        → entered o (record { context = record { number = n; slot = slot }; entry = record { number = next_entry; slot = entry_slot } }) find_chunk word ≡ Some x
    finds_old None is word x h = h
    finds_old (Some w) is word x h =
        elim (cases_Bool (same w word)) [
          | inl y ↦
              let none : find_chunk word ≡ None = free word (is ∙ ap Some (same_is w word y)) in
              absurd (none_or_some (find_chunk word) x none h)
          | inr out ↦ rw out h
        ]

    pub sound_alloc : IsSound (changed n (λ _. l) kept) places find_context find_chunk2 own now next (next_entry + 1)
    sound_alloc =
        sound_step kept places find_context find_chunk own now next next_entry sound n k l here find_chunk2 (next_entry + 1)
        (ap (λ (x : Kept). x.name) took.now) (ap (λ (x : Kept). x.protected) took.now)
        (sound_took k l next_entry entry_slot name size known s t took (sound.each n k here) agrees fresh) (omega arith)
        (λ c h.
        let some = at_some c l.chunks h in
        elim (entry_cases k l next_entry entry_slot name size known s t took (sound.each n k here) agrees fresh c some.0 some.1) [
          | inl it ↦ omega (arith, it.0)
          | inr it ↦ let small : c < next_entry = sound.given n c k here (has_at c k.chunks some.0 it.1) in omega (arith, small)
        ])
        (λ word x h. named_by name refl word x (sym (enters word) ∙ h))
        (λ m c j e word h q is. elim (step_at n k l kept here m j h) [
          | inl it ↦
              elim (entry_cases k l next_entry entry_slot name size known s t took (sound.each n k here) agrees fresh c e (ap (λ (x : Kept). at c x.chunks) (sym it.1) ∙ q)) [
                | inl new ↦ (
                  record { context = record { number = n; slot = slot }; entry = record { number = next_entry; slot = entry_slot } },
                  enters word ∙ finds_new name word (ap (λ (x : Entry). x.name) new.1 ∙ is),
                  sym it.0,
                  sym new.0,
                )
                | inr old ↦
                    let there = sound.chunk_names n c k e word here old.1 is in
                    (there.0, enters word ∙ finds_old name refl word there.0 there.1, there.2 ∙ sym it.0, there.3)
              ]
          | inr it ↦
              let there = sound.chunk_names m c j e word it.1 q is in
              (there.0, enters word ∙ finds_old name refl word there.0 there.1, there.2, there.3)
        ])

module _ (a : TreeState) (s : Space) (n : ℕ) (k : Kept) (agrees : Agrees a s) (here : at n a.kept ≡ Some k) where
  -- what the context's ledger answers
  pub served_take : (size : ℕ) → served n (left_of a s) size (stands_for a s) ≡ take_in k.memory s size
  unfolding stands_for
  served_take size = grind (arith, nat_tests, at, mapped (context_of s) a.kept, mapped-at (context_of s) n a.kept, held)

  pub alloc_refused : (name : Option (List ℕ)) (size : ℕ) (e : TreeError) → is_chunk name (stands_for a s) ≡ false → (e ≡ Memory) ⊎ (refusal (take_in k.memory s size) ≡ Some e)
      → (e ≡ Memory) ⊎ (alloc_refusal n (left_of a s) name size (stands_for a s) ≡ Some e)
  alloc_refused name size e free why = grind (arith, nat_tests, served_take size)

  module _ (l : Kept) (number slot : ℕ) (name : Option (List ℕ)) (size : ℕ) (known : List ℕ) (t : Space) (once : Once a.kept) (each : (m : ℕ) (j : Kept) → at m a.kept ≡ Some j → IsSoundContext j)
      (took : Took k l number slot name size known s t) (fresh : has number k.chunks ≡ false) where
    answered : served n (left_of a s) size (stands_for a s) ≡ Ok took.takes.answer
    answered = served_take size ∙ took.takes.is

    step : Stepped a (record a { kept = changed n (λ _. l) a.kept }) s t n k l
    step = grind (arith, nat_tests, took.moves, known_took k l number slot name size known s t took (each n k here) (agrees.each n k here) fresh (λ c e h. agrees.known n c k e here h), took.total)

    pub alloc_contexts : stands_for (record a { kept = changed n (λ _. l) a.kept }) t ≡ allocated n (left_of a s) name size known (stands_for a s)
    alloc_contexts =
        stands_by a (record a { kept = changed n (λ _. l) a.kept }) s t n k l agrees once each step (with_chunk name size known took.takes.answer)
        (context_took k l number slot name size known s t took (each n k here) (agrees.each n k here) fresh)
        ∙ sym (rw answered refl)

    pub alloc_moves : Moves a (record a { kept = changed n (λ _. l) a.kept }) s t
    alloc_moves = moves_stepped a (record a { kept = changed n (λ _. l) a.kept }) s t n k l agrees once each step

    pub alloc_asked : Asks a.account (asked n (left_of a s) size (stands_for a s)) s t
    alloc_asked = grind (arith, nat_tests, answered)

    pub alloc_served : is_chunk name (stands_for a s) ≡ false → alloc_refusal n (left_of a s) name size (stands_for a s) ≡ None
    alloc_served free = rw (free, answered) refl

module _ (a : TreeState) (find_context : List ℕ → Option CtxId) (find_chunk : List ℕ → Option ChunkId) (own : Own) (next_entry : ℕ)
    (sound : IsSound a.kept a.places find_context find_chunk own a.current a.next next_entry) (s : Space) where
  pub unnamed : (name : Option (List ℕ)) → ((w : List ℕ) → name ≡ Some w → find_chunk w ≡ None) → is_chunk name (stands_for a s) ≡ false
  unfolding stands_for
  unnamed name none = not_chunk a.kept a.places find_context find_chunk own a.current a.next next_entry sound s name none

  pub alloc_taken : (n left size : ℕ) (name : Option (List ℕ)) (e : TreeError) → (e ≡ Memory) ⊎ ((e ≡ Taken) × ((w : List ℕ) × (name ≡ Some w) × IsSome (find_chunk w)))
      → (e ≡ Memory) ⊎ (alloc_refusal n left name size (stands_for a s) ≡ Some e)
  unfolding stands_for
  alloc_taken n left size name e why = elim why [
    | inl memory ↦ inl memory
    | inr told ↦
        let there : is_chunk name (mapped (context_of s) a.kept) ≡ true =
        ap (λ (o : Option (List ℕ)). is_chunk o (mapped (context_of s) a.kept)) told.1.1 ∙ is_a_chunk a.kept a.places find_context find_chunk own a.current a.next next_entry sound s told.1.0 told.1.2 in
        inr (rw there (ap Some (sym told.0)))
  ]
