-- Names that lead nowhere once a context is reset or gone.
use Rattle.context_tree.proofs.Base.{nat_tests, ◌≡◌, ◌≢◌, ◌⊎◌, ℕ, Bool, true, false, List, Option, Some, None, [], refl, sym, ap, ◌∙◌, inl, inr, arith, ◌||◌, option_map_or, cases_eq, cases_Bool, both_ways, or_cases, or_left, or_right}
use Rattle.context_tree.proofs.Words.{CtxId, none_or_some, Forest, Empty, Node, at, has, children, changed, removed, Once, Apart, apart_of, has_at, at_some, has_of_removed, times_removed, size_removed, ChunkId, Entry, Own, Kept, same, IsSoundContext, IsSound, IsNamed, IsChunk, IsOwn, is_named, left_names, without_context, at_here, at_below, at_beside, one_at, below_or_beside, same_is, is_same, step_at, step_other, other_than_removed}
use Rattle.context_tree.proofs.Names.{once_of}
use Rattle.context_tree.proofs.Sounds.{sound_step}
use Rattle.context_tree.proofs.Shrinking.{left_at, still_at}

module _ (w : List ℕ) where
  name_is : (o : Option (List ℕ)) → option_map_or (λ name. same name w) o false ≡ true → o ≡ Some w
  name_is None h = absurd (cc)
  name_is (Some name) h = ap Some (same_is name w h)

  name_so : (o : Option (List ℕ)) → o ≡ Some w → option_map_or (λ name. same name w) o false ≡ true
  name_so o h = rw h (is_same w w refl)

  -- a chunk that has the name
  pub named_by : (c : ℕ) (e : Entry) (t : Forest Entry) → at c t ≡ Some e → e.name ≡ Some w → is_named w t ≡ true
  named_by c e Empty h is = absurd (cc)
  named_by c e (Node d x below beside) h is =
      elim (cases_eq d c) [
        | inl alike ↦
            let it : x ≡ e = one_at c x e below beside (ap (λ (i : ℕ). at c (Node i x below beside)) (sym alike) ∙ h) in
            or_left (option_map_or (λ name. same name w) x.name false) (is_named w below || is_named w beside) (name_so x.name (ap (λ (y : Entry). y.name) it ∙ is))
        | inr ne ↦
            or_right (option_map_or (λ name. same name w) x.name false) (is_named w below || is_named w beside)
            (below_or_beside d c x e below beside ne h ((is_named w below || is_named w beside) ≡ true)
            (λ low. or_left (is_named w below) (is_named w beside) (named_by c e below low is))
            (λ u high. or_right (is_named w below) (is_named w beside) (named_by c e beside high is)))
      ]

  pub named_from : (t : Forest Entry) → Once t → is_named w t ≡ true → (c : ℕ) × (e : Entry) × (at c t ≡ Some e) × (e.name ≡ Some w)
  named_from Empty o h = absurd (cc)
  named_from (Node d x below beside) o h =
      let apart : Apart d below beside = apart_of d x below beside o in
      elim (or_cases (option_map_or (λ name. same name w) x.name false) (is_named w below || is_named w beside) h) [
        | inl y ↦ (d, x, at_here d x below beside, name_is x.name y)
        | inr y ↦ elim (or_cases (is_named w below) (is_named w beside) y) [
          | inl low ↦ let is = named_from below apart.once_below low in (is.0, is.1, at_below d is.0 x is.1 below beside o is.2, is.3)
          | inr high ↦ let is = named_from beside apart.once_beside high in (is.0, is.1, at_beside d is.0 x is.1 below beside o is.2, is.3)
        ]
      ]

module _ (kept : Forest Kept) (places : Forest ℕ) (find_context : List ℕ → Option CtxId) (find_chunk : List ℕ → Option ChunkId) (own : Own) (now : CtxId) (next next_entry : ℕ)
    (sound : IsSound kept places find_context find_chunk own now next next_entry) (n : ℕ) (k : Kept) (here : at n kept ≡ Some k)
    (left : List ℕ → Option ChunkId) (leaves : (w : List ℕ) → left w ≡ left_names k.chunks find_chunk w) where
  -- a name that leads to a chunk still
  still_leads : (w : List ℕ) (id : ChunkId) → left w ≡ Some id → (find_chunk w ≡ Some id) × (id.context.number ≢ n)
  still_leads w id h =
      elim (cases_Bool (is_named w k.chunks)) [
        | inl y ↦
            let none : left_names k.chunks find_chunk w ≡ None = rw y refl in
            absurd (none_or_some (left w) id (leaves w ∙ none) h)
        | inr out ↦
            let as_was : left_names k.chunks find_chunk w ≡ find_chunk w = rw out refl in
            let led : find_chunk w ≡ Some id = sym as_was ∙ sym (leaves w) ∙ h in
            let x : IsChunk kept places w id = sound.chunk_named w id led in (
              led,
              λ alike.
                  let one : Some x.context ≡ Some k = sym x.stands ∙ ap (λ (i : ℕ). at i kept) alike ∙ here in
                  let it : x.context ≡ k = cc in
                  both_ways (is_named w k.chunks) out (named_by w id.entry.number x.entry k.chunks (ap (λ (y : Kept). at id.entry.number y.chunks) (sym it) ∙ x.listed) x.name),
            )
      ]

  -- a chunk of another context that is found still
  leads_still : (m c : ℕ) (j : Kept) (e : Entry) (w : List ℕ) → m ≢ n → at m kept ≡ Some j → at c j.chunks ≡ Some e → e.name ≡ Some w
      → (id : ChunkId) × (left w ≡ Some id) × (id.context.number ≡ m) × (id.entry.number ≡ c)
  leads_still m c j e w ne h q is =
      let there = sound.chunk_names m c j e w h q is in
      elim (cases_Bool (is_named w k.chunks)) [
        | inl y ↦
            let mine = named_from w k.chunks (sound.each n k here).once y in
            let that = sound.chunk_names n mine.0 k mine.1 w here mine.2 mine.3 in
            let both : Some there.0 ≡ Some that.0 = sym there.1 ∙ that.1 in
            let it : there.0 ≡ that.0 = cc in
            absurd (ne (sym there.2 ∙ ap (λ (x : ChunkId). x.context.number) it ∙ that.2))
        | inr out ↦ (there.0, leaves w ∙ rw out there.1, there.2, there.3)
      ]

  -- where the context is reset
  pub sound_cleared : (l : Kept) → l.name ≡ k.name → l.protected ≡ k.protected → IsSoundContext l → l.chunks ≡ Empty → IsSound (changed n (λ _. l) kept) places find_context left own now next next_entry
  sound_cleared l name protected inside empty =
      sound_step kept places find_context find_chunk own now next next_entry sound n k l here left next_entry name protected inside (omega arith)
      (λ c h. let none : has {A = Entry} c Empty ≡ true = ap (has c) (sym empty) ∙ h in absurd (cc))
      (λ word id h.
      let led = still_leads word id h in
      let x : IsChunk kept places word id = sound.chunk_named word id led.0 in
      record {
        context = x.context;
        entry = x.entry;
        stands = step_other n k l kept here id.context.number x.context led.1 x.stands;
        placed = x.placed;
        listed = x.listed;
        entry_placed = x.entry_placed;
        name = x.name;
      })
      (λ m c j e word h q is. elim (step_at n k l kept here m j h) [
        | inl it ↦
            let none : at c Empty ≡ Some e = ap (at c) (sym (ap (λ (x : Kept). x.chunks) it.1 ∙ empty)) ∙ q in
            absurd (cc)
        | inr it ↦ leads_still m c j e word it.0 it.1 q is
      ])

  module _ (leaf : children n kept ≡ Empty) (stays : (m : ℕ) → m ≢ n → at m (removed n places) ≡ at m places) (find2 : List ℕ → Option CtxId)
      (drops : (w : List ℕ) → find2 w ≡ without_context k.protected k.name find_context w) where
    abbrev once : Once kept
    once = once_of kept places find_context find_chunk own now next next_entry sound (record { regions = []; taken = []; limit = 0 }) []

    was : (m : ℕ) (j : Kept) → at m (removed n kept) ≡ Some j → (m ≢ n) × (at m kept ≡ Some j)
    was m j h = left_at n kept once leaf m j h

    still : (m : ℕ) (j : Kept) → m ≢ n → at m kept ≡ Some j → at m (removed n kept) ≡ Some j
    still m j ne h = still_at n kept once leaf m j ne h

    -- a name that leads to a context still
    finds_still : (b : Bool) → k.protected ≡ b → (w : List ℕ) (id : CtxId) → without_context b k.name find_context w ≡ Some id → (find_context w ≡ Some id) × (id.number ≢ n)
    finds_still true is w id h =
        let x : IsNamed kept places w id = sound.named w id h in (
          h,
          λ alike.
              let one : Some x.context ≡ Some k = sym x.stands ∙ ap (λ (i : ℕ). at i kept) alike ∙ here in
              let it : x.context ≡ k = cc in
              both_ways k.protected (ap (λ (y : Kept). y.protected) (sym it) ∙ x.findable) is,
        )
    finds_still false is w id h =
        elim (cases_Bool (same k.name w)) [
          | inl y ↦
              let none : without_context false k.name find_context w ≡ None = rw y refl in
              absurd (none_or_some (without_context false k.name find_context w) id none h)
          | inr out ↦
              let led : find_context w ≡ Some id = rw out at h in
              let x : IsNamed kept places w id = sound.named w id led in (
                led,
                λ alike.
                    let one : Some x.context ≡ Some k = sym x.stands ∙ ap (λ (i : ℕ). at i kept) alike ∙ here in
                    let it : x.context ≡ k = cc in
                    both_ways (same k.name w) out (is_same k.name w (ap (λ (y : Kept). y.name) (sym it) ∙ x.name)),
              )
        ]

    -- another context that is found still
    found_still : (b : Bool) → k.protected ≡ b → (m : ℕ) (j : Kept) (id : CtxId) → m ≢ n → find_context j.name ≡ Some id → id.number ≡ m → without_context b k.name find_context j.name ≡ Some id
    found_still true is m j id ne h number = h
    found_still false is m j id ne h number =
        elim (cases_Bool (same k.name j.name)) [
          | inl y ↦
              let that = sound.names n k here is in
              let both : Some that.0 ≡ Some id = sym that.1 ∙ ap find_context (same_is k.name j.name y) ∙ h in
              let it : that.0 ≡ id = cc in
              absurd (ne (sym number ∙ ap (λ (x : CtxId). x.number) (sym it) ∙ that.2))
          | inr out ↦ rw out h
        ]

    owned : (i : ℕ) (id : CtxId) → IsOwn places i id → IsOwn (removed n places) i id
    owned i id is = grind (arith, nat_tests, is.number, other_than_removed, is.placed, has_of_removed)

    -- where it goes
    pub sound_gone : (now.number ≢ n) ⊎ (removed n kept ≡ Empty) → IsSound (removed n kept) (removed n places) find2 left own now next next_entry
    sound_gone apart = record {
      numbers = λ m. omega (arith, sound.numbers m, times_removed m n kept once (has_at n kept k here));
      few = omega (arith, sound.few, size_removed n kept once (has_at n kept k here));
      lies = grind (arith, nat_tests, at_some, has_of_removed, has_at, removed n kept, still, other_than_removed);
      there = grind (arith, nat_tests, at_some, has_of_removed, has_at, removed n places, other_than_removed);
      each = λ m j h. sound.each m j (was m j h).1;
      given = λ m c j h q. sound.given m c j (was m j h).1 q;
      named = λ word id h.
          let led = finds_still k.protected refl word id (sym (drops word) ∙ h) in
          let x : IsNamed kept places word id = sound.named word id led.0 in
          record {
            context = x.context;
            stands = still id.number x.context led.1 x.stands;
            placed = stays id.number led.1 ∙ x.placed;
            findable = x.findable;
            name = x.name;
          };
      names = λ m j h findable.
          let it = was m j h in
          let there = sound.names m j it.1 findable in
          (there.0, drops j.name ∙ found_still k.protected refl m j there.0 it.0 there.1 there.2, there.2);
      chunk_named = λ word id h.
          let led = still_leads word id h in
          let x : IsChunk kept places word id = sound.chunk_named word id led.0 in
          record {
            context = x.context;
            entry = x.entry;
            stands = still id.context.number x.context led.1 x.stands;
            placed = stays id.context.number led.1 ∙ x.placed;
            listed = x.listed;
            entry_placed = x.entry_placed;
            name = x.name;
          };
      chunk_names = λ m c j e word h q is. let it = was m j h in leads_still m c j e word it.0 it.1 q is;
      top = owned 1 own.top sound.top;
      cache = owned 3 own.cache sound.cache;
      portals = owned 4 own.portals sound.portals;
      abort = owned 5 own.abort sound.abort;
      current = elim apart [
        | inl ne ↦ elim sound.current [
          | inl empty ↦ let none : at n Empty ≡ Some k = ap (at n) (sym empty) ∙ here in absurd (cc)
          | inr lies ↦ inr (stays now.number ne ∙ lies)
        ]
        | inr none ↦ inl none
      ];
    }

    pub sound_went : (kept2 : Forest Kept) (places2 : Forest ℕ) → kept2 ≡ removed n kept → places2 ≡ removed n places → (now.number ≢ n) ⊎ (removed n kept ≡ Empty)
        → IsSound kept2 places2 find2 left own now next next_entry
    sound_went kept2 places2 same placed apart = grind (arith, nat_tests, removed n kept, sound_gone apart)
