-- What calls keep of a tree's soundness.
use Rattle.context_tree.proofs.Base.{nat_tests, ◌≡◌, ◌≢◌, ℕ, ◌<◌, ◌≤◌, true, List, Option, Some, refl, sym, ap, ◌∙◌, inl, inr, arith, option_map, cases_eq, cases_Bool, eq-eqb, ne_eqb}
use Rattle.context_tree.proofs.Words.{CtxId, from_map, Forest, Empty, Node, either, at, has, Once, changed, Apart, apart_of, has_at, at_absent, at_some, times_changed, size_changed, changed_absent, has_changed, ChunkId, Entry, Own, Kept, IsSoundContext, IsSound, IsNamed, IsChunk, TreeState, step_at, step_here, step_other}

-- a node that becomes what it is
pub changed_back : {A : Type 0} (n : ℕ) (a : A) (t : Forest A) → Once t → at n t ≡ Some a → changed n (λ _. a) t ≡ t
changed_back n a Empty o h = refl
changed_back n a (Node k b below beside) o h =
    let apart : Apart k below beside = apart_of k b below beside o in
    elim (cases_eq k n) [
      | inl same ↦
          let it : b ≡ a = let w : Some b ≡ Some a = rw (eq-eqb k n same) at h in cc in
          rw (
            eq-eqb k n same,
            changed_absent n (λ _. a) below (rw same at apart.not_below),
            changed_absent n (λ _. a) beside (rw same at apart.not_beside),
            it,
          ) refl
      | inr ne ↦ elim (cases_Bool (has n below)) [
        | inl u ↦
            let w = at_some n below u in
            let z : either (at n below) (at n beside) ≡ Some a = rw (ne_eqb k n ne) at h in
            let r : at n below ≡ Some a = w.1 ∙ (rw w.1 at z) in
            rw (ne_eqb k n ne, changed_back n a below apart.once_below r, changed_absent n (λ _. a) beside (apart.apart n u)) refl
        | inr u ↦
            let r : at n beside ≡ Some a = rw (ne_eqb k n ne, at_absent n below u) at h in
            rw (ne_eqb k n ne, changed_absent n (λ _. a) below u, changed_back n a beside apart.once_beside r) refl
      ]
    ]

module _ (kept : Forest Kept) (places : Forest ℕ) (find_context : List ℕ → Option CtxId) (find_chunk : List ℕ → Option ChunkId) (own : Own) (now : CtxId) (next next_entry : ℕ)
    (sound : IsSound kept places find_context find_chunk own now next next_entry) (n : ℕ) (k l : Kept) (here : at n kept ≡ Some k) where
  -- one context changes, and keeps its name
  pub sound_step : (find_chunk2 : List ℕ → Option ChunkId) (more : ℕ) → l.name ≡ k.name → l.protected ≡ k.protected → IsSoundContext l → next_entry ≤ more
      → ((c : ℕ) → has c l.chunks ≡ true → c < more)
      → ((word : List ℕ) (id : ChunkId) → find_chunk2 word ≡ Some id → IsChunk (changed n (λ _. l) kept) places word id)
      → ((m c : ℕ) (j : Kept) (e : Entry) (word : List ℕ) → at m (changed n (λ _. l) kept) ≡ Some j → at c j.chunks ≡ Some e → e.name ≡ Some word
      → (id : ChunkId) × (find_chunk2 word ≡ Some id) × (id.context.number ≡ m) × (id.entry.number ≡ c))
      → IsSound (changed n (λ _. l) kept) places find_context find_chunk2 own now next more
  sound_step find_chunk2 more name protected inside greater given chunk_named chunk_names = record {
    numbers = λ m. rw (times_changed m n (λ _. l) kept) (sound.numbers m);
    few = rw (size_changed n (λ _. l) kept) sound.few;
    lies = λ m h. has_changed m n (λ _. l) kept ∙ sound.lies m h;
    there = λ m h. sound.there m (sym (has_changed m n (λ _. l) kept) ∙ h);
    each = λ m j h. elim (step_at n k l kept here m j h) [ inl it ↦ rw it.1 inside | inr it ↦ sound.each m j it.1 ];
    given = λ m c j h q. elim (step_at n k l kept here m j h) [
      | inl it ↦ given c (ap (λ (x : Kept). has c x.chunks) (sym it.1) ∙ q)
      | inr it ↦ let small : c < next_entry = sound.given m c j it.1 q in omega (arith, small, greater)
    ];
    named = λ word id h.
        let x : IsNamed kept places word id = sound.named word id h in
        elim (cases_eq id.number n) [
          | inl same ↦
              let one : Some x.context ≡ Some k = sym x.stands ∙ ap (λ (i : ℕ). at i kept) same ∙ here in
              let it : x.context ≡ k = cc in
              record {
                context = l;
                stands = step_here n k l kept here id.number same;
                placed = x.placed;
                findable = protected ∙ ap (λ (y : Kept). y.protected) (sym it) ∙ x.findable;
                name = name ∙ ap (λ (y : Kept). y.name) (sym it) ∙ x.name;
              }
          | inr ne ↦ record {
            context = x.context;
            stands = step_other n k l kept here id.number x.context ne x.stands;
            placed = x.placed;
            findable = x.findable;
            name = x.name;
          }
        ];
    names = λ m j h findable. elim (step_at n k l kept here m j h) [
      | inl it ↦
          let there = sound.names n k here (sym protected ∙ ap (λ (y : Kept). y.protected) (sym it.1) ∙ findable) in
          (there.0, ap find_context (ap (λ (y : Kept). y.name) it.1 ∙ name) ∙ there.1, there.2 ∙ sym it.0)
      | inr it ↦ sound.names m j it.1 findable
    ];
    chunk_named = chunk_named;
    chunk_names = chunk_names;
    top = sound.top;
    cache = sound.cache;
    portals = sound.portals;
    abort = sound.abort;
    current = elim sound.current [
      | inl empty ↦ let none : at n Empty ≡ Some k = ap (at n) (sym empty) ∙ here in absurd (cc)
      | inr lies ↦ inr lies
    ];
  }

  -- it keeps its chunks' numbers, names and places too
  pub sound_same : l.name ≡ k.name → l.protected ≡ k.protected → IsSoundContext l → l.chunk_places ≡ k.chunk_places
      → ((c : ℕ) → option_map (λ (e : Entry). e.name) (at c l.chunks) ≡ option_map (λ (e : Entry). e.name) (at c k.chunks))
      → IsSound (changed n (λ _. l) kept) places find_context find_chunk own now next next_entry
  sound_same name protected inside placed named =
      let back : (c : ℕ) (e : Entry) → at c l.chunks ≡ Some e → (d : Entry) × (at c k.chunks ≡ Some d) × (d.name ≡ e.name) =
      λ c e h. from_map (λ (x : Entry). x.name) (at c k.chunks) e.name (sym (named c) ∙ ap (option_map (λ (x : Entry). x.name)) h) in
      let forth : (c : ℕ) (e : Entry) → at c k.chunks ≡ Some e → (d : Entry) × (at c l.chunks ≡ Some d) × (d.name ≡ e.name) =
      λ c e h. from_map (λ (x : Entry). x.name) (at c l.chunks) e.name (named c ∙ ap (option_map (λ (x : Entry). x.name)) h) in
      sound_step find_chunk next_entry name protected inside (omega arith)
      (λ c h. let some = at_some c l.chunks h in let was = back c some.0 some.1 in sound.given n c k here (has_at c k.chunks was.0 was.1))
      (λ word id h.
      let x : IsChunk kept places word id = sound.chunk_named word id h in
      elim (cases_eq id.context.number n) [
        | inl same ↦
            let one : Some x.context ≡ Some k = sym x.stands ∙ ap (λ (i : ℕ). at i kept) same ∙ here in
            let it : x.context ≡ k = cc in
            let is = forth id.entry.number x.entry (ap (λ (y : Kept). at id.entry.number y.chunks) (sym it) ∙ x.listed) in
            record {
              context = l;
              entry = is.0;
              stands = step_here n k l kept here id.context.number same;
              placed = x.placed;
              listed = is.1;
              entry_placed = ap (at id.entry.number) (placed ∙ ap (λ (y : Kept). y.chunk_places) (sym it)) ∙ x.entry_placed;
              name = is.2 ∙ x.name;
            }
        | inr ne ↦ record {
          context = x.context;
          entry = x.entry;
          stands = step_other n k l kept here id.context.number x.context ne x.stands;
          placed = x.placed;
          listed = x.listed;
          entry_placed = x.entry_placed;
          name = x.name;
        }
      ])
      (λ m c j e word h q is. elim (step_at n k l kept here m j h) [
        | inl it ↦
            let was = back c e (ap (λ (y : Kept). at c y.chunks) (sym it.1) ∙ q) in
            let there = sound.chunk_names n c k was.0 word here was.1 (was.2 ∙ is) in
            (there.0, there.1, there.2 ∙ sym it.0, there.3)
        | inr it ↦ sound.chunk_names m c j e word it.1 q is
      ])

-- no other chunk of a context has the name of one
pub one_named : (kept : Forest Kept) (places : Forest ℕ) (find_context : List ℕ → Option CtxId) (find_chunk : List ℕ → Option ChunkId) (own : Own) (now : CtxId) (next next_entry : ℕ)
    → IsSound kept places find_context find_chunk own now next next_entry → (n c : ℕ) (k : Kept) (e : Entry) (w : List ℕ) → at n kept ≡ Some k → at c k.chunks ≡ Some e → e.name ≡ Some w
    → (d : ℕ) (x : Entry) → d ≢ c → at d k.chunks ≡ Some x → x.name ≢ Some w
one_named kept places find_context find_chunk own now next next_entry sound n c k e w here lists named d x ne h is = grind (arith, nat_tests, sound.chunk_names n d k x w here h is, sound.chunk_names n c k e w here lists named)

-- the tree with a context that stayed as it was
pub tree_back : (a : TreeState) (n : ℕ) (k l : Kept) → at n a.kept ≡ Some k → Once a.kept → l ≡ k → record a { kept = changed n (λ _. l) a.kept } ≡ a
tree_back a n k l here once same =
    ap (λ (x : Kept). record a { kept = changed n (λ _. x) a.kept }) same ∙ ap (λ (x : Forest Kept). record a { kept = x }) (changed_back n k a.kept once here)
