-- A name leads to one context, and another one to one chunk.
use Rattle.context_tree.proofs.Base.{◌≡◌, ◌≢◌, ◌≤◌, ℕ, Bool, true, false, List, map, Option, Some, None, refl, sym, ap, ◌∙◌, inl, inr, arith, not, ◌&&◌, nat_lt, find, option_map, cases_eq, cases_Bool, both_ways, nat_tests}
use Rattle.context_tree.proofs.Words.{CtxId, Space, Forest, Empty, Node, at, has, Once, mapped, Apart, apart_of, has_at, ledger, same_name, Chunk, found, has_name, context_named, ChunkId, Entry, Own, Kept, IsSoundContext, IsSound, IsNamed, IsChunk, one_below, chunk_of, entries, context_of, same_is, is_same, some_or_none, at_here, at_below, at_beside, one_at, below_or_beside, none_in_entries, one_in_entries}

module _ (s : Space) (w : List ℕ) where
  -- whether `find` finds a context by this name
  abbrev pub is_named : Kept → Bool
  is_named k = not k.protected && same_name k.name w

  pub named_nowhere : (t : Forest Kept) → Once t → ((m : ℕ) (j : Kept) → at m t ≡ Some j → is_named j ≡ false) → context_named w (mapped (context_of s) t) ≡ None
  named_nowhere Empty o none = refl
  named_nowhere (Node m j below beside) o none =
      let apart : Apart m below beside = apart_of m j below beside o in
      let here : (not j.protected && same_name j.name w) ≡ false = none m j (at_here m j below beside) in
      rw (
        here,
        named_nowhere below apart.once_below (λ n k h. none n k (at_below m n j k below beside o h)),
        named_nowhere beside apart.once_beside (λ n k h. none n k (at_beside m n j k below beside o h)),
      ) refl

  pub named_at : (t : Forest Kept) (n : ℕ) (k : Kept) → Once t → at n t ≡ Some k → is_named k ≡ true → ((m : ℕ) (j : Kept) → at m t ≡ Some j → is_named j ≡ true → m ≡ n)
      → context_named w (mapped (context_of s) t) ≡ Some n
  named_at Empty n k o h is only = absurd (cc)
  named_at (Node m j below beside) n k o h is only =
      let apart : Apart m below beside = apart_of m j below beside o in
      elim (cases_Bool (is_named j)) [
        | inl y ↦
            let here : (not j.protected && same_name j.name w) ≡ true = y in
            let e : m ≡ n = only m j (at_here m j below beside) y in
            rw here (ap Some e)
        | inr out ↦
            let here : (not j.protected && same_name j.name w) ≡ false = out in
            let ne : m ≢ n = λ e. both_ways (is_named j) out (rw (one_at n j k below beside (rw e at h)) is) in
            below_or_beside m n j k below beside ne h (context_named w (mapped (context_of s) (Node m j below beside)) ≡ Some n)
            (λ r. rw (here, named_at below n k apart.once_below r is (λ i l q. only i l (at_below m i j l below beside o q))) refl)
            (λ u r. rw (
              here,
              named_nowhere below apart.once_below (λ i l q. named_out below n u i l q (only i l (at_below m i j l below beside o q))),
              named_at beside n k apart.once_beside r is (λ i l q. only i l (at_beside m i j l below beside o q)),
            ) refl)
      ]
    where
      named_out : (t : Forest Kept) (n : ℕ) → has n t ≡ false → (i : ℕ) (l : Kept) → at i t ≡ Some l → (is_named l ≡ true → i ≡ n) → is_named l ≡ false
      named_out t n u i l q goes =
          elim (cases_Bool (is_named l)) [
            | inl y ↦ absurd (both_ways (has n t) u (rw (goes y) at (has_at i t l q)))
            | inr out ↦ out
          ]

  pub found_nowhere : (t : Forest Kept) → Once t → ((m : ℕ) (j : Kept) → at m t ≡ Some j → find (has_name w) (map (chunk_of s j.memory) (entries j.chunks)) ≡ None)
      → found w (mapped (context_of s) t) ≡ None
  found_nowhere Empty o none = refl
  found_nowhere (Node m j below beside) o none =
      let apart : Apart m below beside = apart_of m j below beside o in
      rw (
        none m j (at_here m j below beside),
        found_nowhere below apart.once_below (λ n k h. none n k (at_below m n j k below beside o h)),
        found_nowhere beside apart.once_beside (λ n k h. none n k (at_beside m n j k below beside o h)),
      ) refl

  pub found_at : (t : Forest Kept) (n : ℕ) (k : Kept) (chunk : Chunk) → Once t → at n t ≡ Some k → find (has_name w) (map (chunk_of s k.memory) (entries k.chunks)) ≡ Some chunk
      → ((m : ℕ) (j : Kept) → m ≢ n → at m t ≡ Some j → find (has_name w) (map (chunk_of s j.memory) (entries j.chunks)) ≡ None)
      → found w (mapped (context_of s) t) ≡ Some (record { context = n; ledger = ledger k.memory; chunk = chunk })
  found_at Empty n k chunk o h is others = absurd (cc)
  found_at (Node m j below beside) n k chunk o h is others =
      let apart : Apart m below beside = apart_of m j below beside o in
      elim (cases_eq m n) [
        | inl same ↦
            let it : j ≡ k = one_at n j k below beside (rw same at h) in
            rw (it, is, same) refl
        | inr ne ↦
            let here = others m j ne (at_here m j below beside) in
            below_or_beside m n j k below beside ne h (found w (mapped (context_of s) (Node m j below beside)) ≡ Some (record { context = n; ledger = ledger k.memory; chunk = chunk }))
            (λ r. rw (here, found_at below n k chunk apart.once_below r is (λ i l out q. others i l out (at_below m i j l below beside o q))) refl)
            (λ u r. rw (
              here,
              found_nowhere below apart.once_below (λ i l q.
                  others i l (λ e. both_ways (has n below) u (rw e at (has_at i below l q))) (at_below m i j l below beside o q)),
              found_at beside n k chunk apart.once_beside r is (λ i l out q. others i l out (at_beside m i j l below beside o q)),
            ) refl)
      ]

-- how often numbers may stand
pub one_le : (next n : ℕ) → one_below next n ≤ 1
one_le next n = elim (cases_Bool (nat_lt n next)) [ inl y ↦ rw y (omega arith) | inr y ↦ rw y (omega arith) ]

and_parts : (p q : Bool) → (not p && q) ≡ true → (p ≡ false) × (q ≡ true)
and_parts x0 q h = grind (arith, nat_tests)

module _ (kept : Forest Kept) (places : Forest ℕ) (find_context : List ℕ → Option CtxId) (find_chunk : List ℕ → Option ChunkId) (own : Own) (now : CtxId) (next next_entry : ℕ)
    (sound : IsSound kept places find_context find_chunk own now next next_entry) (s : Space) (w : List ℕ) where
  pub once_of : Once kept
  once_of = record { once = λ n. omega (arith, sound.numbers n, one_le next n) }

  -- what the map of contexts finds
  pub find_named : option_map (λ (id : CtxId). id.number) (find_context w) ≡ context_named w (mapped (context_of s) kept)
  find_named =
      some_or_none (find_context w) (option_map (λ (id : CtxId). id.number) (find_context w) ≡ context_named w (mapped (context_of s) kept))
      (λ none. rw none (sym (named_nowhere s w kept once_of (λ m j h. elim (cases_Bool (is_named s w j)) [
        | inl y ↦
            let parts : (j.protected ≡ false) × (same_name j.name w ≡ true) = and_parts j.protected (same_name j.name w) y in
            let there = sound.names m j h parts.0 in
            let some : find_context w ≡ Some there.0 = ap find_context (sym (same_is j.name w parts.1)) ∙ there.1 in
            absurd (cc)
        | inr n ↦ n
      ]))))
      (λ id some.
      let x : IsNamed kept places w id = sound.named w id some in
      let is : is_named s w x.context ≡ true = rw (x.findable, x.name) (is_same w w refl) in
      rw some (sym (named_at s w kept id.number x.context once_of x.stands is (λ m j h y.
      let parts : (j.protected ≡ false) × (same_name j.name w ≡ true) = and_parts j.protected (same_name j.name w) y in
      let there = sound.names m j h parts.0 in
      let one : Some there.0 ≡ Some id = sym there.1 ∙ ap find_context (same_is j.name w parts.1) ∙ some in
      let it : there.0 ≡ id = cc in
      sym there.2 ∙ ap (λ (i : CtxId). i.number) it))))

  -- what the map of chunks finds
  pub find_found : (id : ChunkId) → (x : IsChunk kept places w id) → find_chunk w ≡ Some id
      → found w (mapped (context_of s) kept) ≡ Some (record { context = id.context.number; ledger = ledger x.context.memory; chunk = chunk_of s x.context.memory x.entry })
  find_found id x some =
      let one : (n c : ℕ) (k : Kept) (e : Entry) → at n kept ≡ Some k → at c k.chunks ≡ Some e → e.name ≡ Some w → (n ≡ id.context.number) × (c ≡ id.entry.number) =
      λ n c k e h q named.
      let there = sound.chunk_names n c k e w h q named in
      let both : Some there.0 ≡ Some id = sym there.1 ∙ some in
      let it : there.0 ≡ id = cc in
      (sym there.2 ∙ ap (λ (i : ChunkId). i.context.number) it, sym there.3 ∙ ap (λ (i : ChunkId). i.entry.number) it) in
      let inside : IsSoundContext x.context = sound.each id.context.number x.context x.stands in
      found_at s w kept id.context.number x.context (chunk_of s x.context.memory x.entry) once_of x.stands
      (one_in_entries s w x.context.memory x.context.chunks id.entry.number x.entry inside.once inside.flat x.listed x.name (λ d f q named. (one id.context.number d x.context f x.stands q named).1))
      (λ m j out h.
      let other : IsSoundContext j = sound.each m j h in
      none_in_entries s w j.memory j.chunks other.once other.flat (λ c e q named. out (one m c j e h q named).0))

  pub find_nothing : find_chunk w ≡ None → found w (mapped (context_of s) kept) ≡ None
  find_nothing none =
      found_nowhere s w kept once_of (λ m j h.
      let other : IsSoundContext j = sound.each m j h in
      none_in_entries s w j.memory j.chunks other.once other.flat (λ c e q named.
      let there = sound.chunk_names m c j e w h q named in
      absurd (cc)))

  -- a context is there where it has a place
  pub placed_as : (n : ℕ) → has n kept ≡ has n places
  placed_as n = grind (arith, nat_tests, cases_Bool (has n places))
