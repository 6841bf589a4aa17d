-- A context more in a tree: what that makes of the tree, and of what it stands for.
use Rattle.context_tree.proofs.Base.{◌≡◌, ◌≢◌, ◌⊎◌, ℕ, ◌+◌, ◌<◌, ◌≤◌, Bool, true, false, List, Option, Some, None, IsSome, refl, sym, ap, ◌∙◌, subst, inl, inr, arith, ◌==◌, ◌||◌, if◌then◌else◌, cases_eq, cases_Bool, eq-eqb, ne_eqb, both_ways, or_parts, lt-ltb, le-ltb, nat_tests}
use Rattle.context_tree.proofs.Words.{CtxId, Space, nothing, Agrees-other, Keeps-other, AreDisjoint-sym, AreDisjoint-nothing, AreDisjoint-fresh, counted-own, counted-other, counted-nothing, none_or_some, Forest, Empty, Node, at, has, Once, size, times, put, mapped, Apart, apart_of, Here, Below, Beside, where_is, has_at, at_some, has_none, put_absent, at_absent, times_put, times_none, size_put, mapped-put, mapped-once, mapped-has, stats, footprint, ledger, Context, Contexts, ChunkId, Entry, Own, Kept, entered_context, same, IsSoundContext, one_below, IsSound, IsNamed, IsChunk, IsOwn, context_of, TreeState, stands_for, Agrees, total_of, Moves, at_here, at_below, at_beside, same_is, is_same, context_stays}
use Rattle.addr_space.specs.Footprint as foot

module _ {A : Type 0} (p n : ℕ) (a : A) where
  -- the new node, and the others
  pub at_grown_other : (m : ℕ) (t : Forest A) → m ≢ n → at m (put p n a Empty t) ≡ at m t
  at_grown_other m Empty ne = refl
  at_grown_other m (Node k b below beside) ne = grind (arith, nat_tests, at_grown_other m beside ne, at_grown_other m below ne)

  -- where only so much is known of the forest
  pub at_put_new : (t : Forest A) → has p t ≡ true → has n t ≡ false → at n (put p n a Empty t) ≡ Some a
  at_put_new Empty h fresh = absurd (cc)
  at_put_new (Node k b below beside) h fresh =
      let parts = or_parts (k == n) (has n below || has n beside) fresh in
      let rest = or_parts (has n below) (has n beside) parts.1 in
      elim (cases_Bool (k == p)) [
        | inl y ↦ rw (parts.0, y, eq-eqb n n refl) refl
        | inr out ↦ elim (cases_Bool (has p below)) [
          | inl u ↦ rw (parts.0, out, at_put_new below u rest.0) refl
          | inr v ↦
              let w : has p beside ≡ true = rw (out, v) at h in
              rw (parts.0, out, put_absent p n a Empty below v, at_absent n below rest.0, at_put_new beside w rest.1) refl
        ]
      ]

  pub at_grown : (t : Forest A) → Once t → has p t ≡ true → has n t ≡ false → at n (put p n a Empty t) ≡ Some a
  at_grown Empty o h fresh = absurd (cc)
  at_grown (Node k b below beside) o h fresh =
      let apart : Apart k below beside = apart_of k b below beside o in
      let parts = or_parts (k == n) (has n below || has n beside) fresh in
      let rest = or_parts (has n below) (has n beside) parts.1 in
      elim (where_is p k b below beside o h) [
        | Here e y u v ↦ rw (parts.0, y, eq-eqb n n refl) refl
        | Below ne y u v ↦ rw (parts.0, y, at_grown below apart.once_below u rest.0) refl
        | Beside ne y u v ↦ rw (parts.0, y, put_absent p n a Empty below u, at_absent n below rest.0, at_grown beside apart.once_beside v rest.1) refl
      ]

  pub grown_at : (t : Forest A) → Once t → has p t ≡ true → has n t ≡ false → (m : ℕ) (j : A) → at m (put p n a Empty t) ≡ Some j → ((m ≡ n) × (j ≡ a)) ⊎ ((m ≢ n) × (at m t ≡ Some j))
  grown_at t o h fresh m j is = grind (arith, nat_tests, at_grown t o h fresh, at, at_grown_other)

-- what all have together then
pub total_grown : (p n : ℕ) (c : Context) (t : Contexts) → Once t → has p t ≡ true → total_of (put p n c Empty t) ≡ total_of t + (stats c.ledger).total
total_grown p n c Empty o h = absurd (cc)
total_grown p n c (Node k b below beside) o h =
    let apart : Apart k below beside = apart_of k b below beside o in
    elim (where_is p k b below beside o h) [
      | Here e y u v ↦ rw (y, put_absent p n c Empty beside v) (omega arith)
      | Below ne y u v ↦ rw (y, put_absent p n c Empty beside v) (omega (arith, total_grown p n c below apart.once_below u))
      | Beside ne y u v ↦ rw (y, put_absent p n c Empty below u) (omega (arith, total_grown p n c beside apart.once_beside v))
    ]

-- two functions that say the same of each node
pub mapped_same : {A B : Type 0} (f g : A → B) (t : Forest A) → Once t → ((m : ℕ) (j : A) → at m t ≡ Some j → g j ≡ f j) → mapped g t ≡ mapped f t
mapped_same f g Empty o same = refl
mapped_same f g (Node m j below beside) o same =
    let apart : Apart m below beside = apart_of m j below beside o in
    rw (
      same m j (at_here m j below beside),
      mapped_same f g below apart.once_below (λ i k h. same i k (at_below m i j k below beside o h)),
      mapped_same f g beside apart.once_beside (λ i k h. same i k (at_beside m i j k below beside o h)),
    ) refl

-- the tree has a context more, the first below another one, and it has no chunk
pub record Grown (a b : TreeState) (s t : Space) (p n : ℕ) (l : Kept) (context : ℕ) : Type 0 where
  pub parent : has p a.kept ≡ true
  pub fresh : has n a.kept ≡ false
  pub now : b.kept ≡ put p n l Empty a.kept
  pub account : b.account ≡ a.account
  pub moves : foot.Moves (nothing a.account context) (footprint l.memory) s t
  pub chunks : l.chunks ≡ Empty
  pub total : (footprint l.memory).total ≡ (stats (ledger l.memory)).total

module _ (a b : TreeState) (s t : Space) (p n : ℕ) (l : Kept) (context : ℕ) (agrees : Agrees a s) (once : Once a.kept) (each : (m : ℕ) (j : Kept) → at m a.kept ≡ Some j → IsSoundContext j)
    (grown : Grown a b s t p n l context) where
  cases : (m : ℕ) (j : Kept) → at m b.kept ≡ Some j → ((m ≡ n) × (j ≡ l)) ⊎ ((m ≢ n) × (at m a.kept ≡ Some j))
  cases m j h = grown_at p n l a.kept once grown.parent grown.fresh m j (ap (at m) (sym grown.now) ∙ h)

  new_here : at n b.kept ≡ Some l
  new_here = ap (at n) grown.now ∙ at_grown p n l a.kept once grown.parent grown.fresh

  other_here : (m : ℕ) (j : Kept) → m ≢ n → at m a.kept ≡ Some j → at m b.kept ≡ Some j
  other_here m j ne h = ap (at m) grown.now ∙ at_grown_other p n l m a.kept ne ∙ h

  was : (m : ℕ) (j : Kept) → at m a.kept ≡ Some j → m ≢ n
  was m j h same = both_ways (has n a.kept) grown.fresh (ap (λ (i : ℕ). has i a.kept) (sym same) ∙ has_at m a.kept j h)

  mine : (footprint l.memory).account ≡ a.account
  mine = grown.moves.account

  pub agrees_grown : Agrees b t
  agrees_grown = record {
    account = omega (arith, agrees.account, grown.account, grown.moves.accounts);
    each = λ m j h. elim (cases m j h) [
      | inl it ↦ rw it.1 grown.moves.agrees
      | inr it ↦ Agrees-other (nothing a.account context) (footprint l.memory) (footprint j.memory) s t grown.moves (AreDisjoint-nothing a.account context (footprint j.memory)) (agrees.each m j it.1)
    ];
    owned = λ m j h. elim (cases m j h) [
      | inl it ↦ rw it.1 (mine ∙ sym grown.account)
      | inr it ↦ agrees.owned m j it.1 ∙ sym grown.account
    ];
    apart = λ m i j j2 differ h h2. elim (cases m j h) [
      | inl it ↦ elim (cases i j2 h2) [
        | inl that ↦ absurd (differ (it.0 ∙ sym that.0))
        | inr that ↦ rw it.1 (AreDisjoint-fresh a.account context (footprint l.memory) (footprint j2.memory) s t grown.moves (agrees.each i j2 that.1))
      ]
      | inr it ↦ elim (cases i j2 h2) [
        | inl that ↦ rw that.1 (AreDisjoint-sym (footprint l.memory) (footprint j.memory) (AreDisjoint-fresh a.account context (footprint l.memory) (footprint j.memory) s t grown.moves (agrees.each m j it.1)))
        | inr that ↦ agrees.apart m i j j2 differ it.1 that.1
      ]
    ];
    known = λ m c j e h q. elim (cases m j h) [
      | inl it ↦
          let none : at c Empty ≡ Some e = ap (at c) (sym (ap (λ (x : Kept). x.chunks) it.1 ∙ grown.chunks)) ∙ q in
          absurd (cc)
      | inr it ↦ λ i below.
          let fit : i < e.size = omega (arith, below, (each m j it.1).known c e q) in
          let keeps = Keeps-other (nothing a.account context) (footprint l.memory) (footprint j.memory) s t grown.moves (AreDisjoint-nothing a.account context (footprint j.memory)) (agrees.each m j it.1)
          e.at e.size e.size i ((each m j it.1).live c e q) ((each m j it.1).live c e q) fit fit in
          subst IsSome (sym keeps) (agrees.known m c j e it.1 q i below)
    ];
  }

  pub stands_grown : stands_for b t ≡ put p n (context_of t l) Empty (stands_for a s)
  unfolding stands_for
  stands_grown =
      ap (mapped (context_of t)) grown.now
      ∙ mapped-put (context_of t) p n l Empty a.kept
      ∙ ap (put p n (context_of t l) Empty) (mapped_same (context_of s) (context_of t) a.kept once (λ m j h.
      context_stays (nothing a.account context) (footprint l.memory) s t j grown.moves (AreDisjoint-nothing a.account context (footprint j.memory)) (agrees.each m j h) (each m j h)))

  once_stands : Once (stands_for a s)
  unfolding stands_for
  once_stands = mapped-once (context_of s) a.kept once

  parent_stands : has p (stands_for a s) ≡ true
  unfolding stands_for
  parent_stands = mapped-has (context_of s) p a.kept ∙ grown.parent

  pub moves_grown : Moves a b s t
  moves_grown = record {
    agrees = agrees_grown;
    account = grown.account;
    outside = λ number region. (
      λ out.
          let now = (grown.moves.outside number region).0 (out.0, refl) in
          (now.0, λ m j h. elim (cases m j h) [ inl it ↦ rw it.1 now.1 | inr it ↦ out.1 m j it.1 ]),
      λ out.
          let before = (grown.moves.outside number region).1 (out.0, out.1 n l new_here) in
          (before.0, λ m j h. out.1 m j (other_here m j (was m j h) h)),
    );
    accounts = grown.moves.accounts;
    limit = grown.moves.limit;
    own = grind (arith, nat_tests, total_grown p n (context_of t l) (stands_for a s) once_stands parent_stands, once_stands, parent_stands, total_of, stands_grown, counted-own (footprint l.memory) a.account mine, mine, counted-nothing a.account context a.account);
    others = grind (arith, nat_tests, counted-nothing, counted-other, mine);
  }

one_more : (next m : ℕ) → one_below next m ≤ one_below (next + 1) m
one_more next m = grind (arith, nat_tests)

one_now : (next : ℕ) → one_below (next + 1) next ≡ 1
one_now next = rw (lt-ltb next (next + 1) (omega arith)) refl

none_now : (next : ℕ) → one_below next next ≡ 0
none_now next = rw (le-ltb next next (omega arith)) refl

module _ (kept : Forest Kept) (places : Forest ℕ) (find_context : List ℕ → Option CtxId) (find_chunk : List ℕ → Option ChunkId) (own : Own) (now : CtxId) (next next_entry : ℕ)
    (sound : IsSound kept places find_context find_chunk own now next next_entry) where
  -- the next context's number is new
  pub next_fresh : has next kept ≡ false
  next_fresh = has_none next kept (omega (arith, sound.numbers next, none_now next))

  pub next_unplaced : has next places ≡ false
  next_unplaced = grind (arith, nat_tests, next_fresh)

  -- another map of names that says the same
  pub sound_found : (find2 : List ℕ → Option CtxId) → ((w : List ℕ) → find2 w ≡ find_context w) → IsSound kept places find2 find_chunk own now next next_entry
  sound_found find2 alike = grind (arith, nat_tests, sound.numbers, sound.few, sound.lies, sound.there, sound.each, sound.given, sound.chunk_named, sound.chunk_names, sound.top, sound.cache, sound.portals, sound.abort, sound.current)

module _ (places : Forest ℕ) (next p slot : ℕ) (parent_placed : has p places ≡ true) (unplaced : has next places ≡ false) where
  -- one of the session's own contexts, once this one is noted
  pub own_grown : (m : ℕ) (x y : CtxId) → IsOwn places m x → y ≡ (if next == m then record { number = next; slot = slot } else x) → IsOwn (put p next slot Empty places) m y
  own_grown m x y was is =
      elim (cases_eq next m) [
        | inl alike ↦
            let it : y ≡ record { number = next; slot = slot } = rw (eq-eqb next m alike) at is in
            subst (λ (z : CtxId). IsOwn (put p next slot Empty places) m z) (sym it) (record {
              number = alike;
              placed = λ h. ap (λ (i : ℕ). at i (put p next slot Empty places)) (sym alike) ∙ at_put_new p next slot places parent_placed unplaced;
            })
        | inr ne ↦
            let it : y ≡ x = rw (ne_eqb next m ne) at is in
            let still : at m (put p next slot Empty places) ≡ at m places = at_grown_other p next slot m places (λ e. ne (sym e)) in
            subst (λ (z : CtxId). IsOwn (put p next slot Empty places) m z) (sym it) (record {
              number = was.number;
              placed = λ h.
                  let there = at_some m (put p next slot Empty places) h in
                  still ∙ was.placed (has_at m places there.0 (sym still ∙ there.1));
            })
      ]

module _ (kept : Forest Kept) (places : Forest ℕ) (find_context : List ℕ → Option CtxId) (find_chunk : List ℕ → Option ChunkId) (own : Own) (now : CtxId) (next next_entry : ℕ)
    (sound : IsSound kept places find_context find_chunk own now next next_entry) (once : Once kept) (p slot : ℕ) (l : Kept)
    (parent : has p kept ≡ true) (parent_placed : has p places ≡ true) (fresh : has next kept ≡ false) (unplaced : has next places ≡ false) (chunks : l.chunks ≡ Empty)
    (free : l.protected ≡ false → find_context l.name ≡ None) (find2 : List ℕ → Option CtxId)
    (enters : (w : List ℕ) → find2 w ≡ entered_context l.protected l.name (record { number = next; slot = slot }) find_context w) where
  stands : (m : ℕ) (j : Kept) → m ≢ next → at m kept ≡ Some j → at m (put p next l Empty kept) ≡ Some j
  stands m j ne h = at_grown_other p next l m kept ne ∙ h

  lies : (m x : ℕ) → at m places ≡ Some x → at m (put p next slot Empty places) ≡ Some x
  lies m x h = grind (arith, nat_tests, has_at m places x h, at_grown_other)

  old : (m : ℕ) (j : Kept) → at m kept ≡ Some j → m ≢ next
  old m j h same = both_ways (has next kept) fresh (ap (λ (i : ℕ). has i kept) (sym same) ∙ has_at m kept j h)

  named_by : (b : Bool) → l.protected ≡ b → (w : List ℕ) (id : CtxId) → entered_context b l.name (record { number = next; slot = slot }) find_context w ≡ Some id
      → IsNamed (put p next l Empty kept) (put p next slot Empty places) w id
  named_by true is w id h =
      let x : IsNamed kept places w id = sound.named w id h in
      record {
        context = x.context;
        stands = stands id.number x.context (old id.number x.context x.stands) x.stands;
        placed = lies id.number id.slot x.placed;
        findable = x.findable;
        name = x.name;
      }
  named_by false is w id h =
      elim (cases_Bool (same l.name w)) [
        | inl y ↦
            let one : Some (record { number = next; slot = slot }) ≡ Some id = rw y at h in
            let it : (record { number = next; slot = slot }) ≡ id = cc in
            subst (λ (z : CtxId). IsNamed (put p next l Empty kept) (put p next slot Empty places) w z) it (record {
              context = l;
              stands = at_grown p next l kept once parent fresh;
              placed = at_put_new p next slot places parent_placed unplaced;
              findable = is;
              name = same_is l.name w y;
            })
        | inr out ↦
            let there : find_context w ≡ Some id = rw out at h in
            let x : IsNamed kept places w id = sound.named w id there in
            record {
              context = x.context;
              stands = stands id.number x.context (old id.number x.context x.stands) x.stands;
              placed = lies id.number id.slot x.placed;
              findable = x.findable;
              name = x.name;
            }
      ]

  finds_old : (b : Bool) → l.protected ≡ b → (w : List ℕ) (id : CtxId) → find_context w ≡ Some id → entered_context b l.name (record { number = next; slot = slot }) find_context w ≡ Some id
  finds_old true is w id h = h
  finds_old false is w id h =
      elim (cases_Bool (same l.name w)) [
        | inl y ↦ absurd (none_or_some (find_context w) id (ap find_context (sym (same_is l.name w y)) ∙ free is) h)
        | inr out ↦ rw out h
      ]

  finds_new : (b : Bool) → l.protected ≡ b → b ≡ false → entered_context b l.name (record { number = next; slot = slot }) find_context l.name ≡ Some (record { number = next; slot = slot })
  finds_new true is clash = absurd (cc)
  finds_new false is clash = rw (is_same l.name l.name refl) refl

  lies_now : (m : ℕ) → has m (put p next slot Empty places) ≡ true → has m (put p next l Empty kept) ≡ true
  lies_now m h = grind (arith, nat_tests, has_at, at, at_grown p next l kept once parent fresh, at_some m (put p next slot Empty places) h, at_some, at_grown_other, stands)

  there_now : (m : ℕ) → has m (put p next l Empty kept) ≡ true → has m (put p next slot Empty places) ≡ true
  there_now m h = grind (arith, nat_tests, has_at, at, at_put_new p next slot places parent_placed unplaced, at_some m (put p next l Empty kept) h, at_some, at_grown_other)

  pub sound_grown : (own2 : Own) → size kept < 65536 → IsSoundContext l → IsOwn (put p next slot Empty places) 1 own2.top → IsOwn (put p next slot Empty places) 3 own2.cache
      → IsOwn (put p next slot Empty places) 4 own2.portals → IsOwn (put p next slot Empty places) 5 own2.abort
      → IsSound (put p next l Empty kept) (put p next slot Empty places) find2 find_chunk own2 now (next + 1) next_entry
  sound_grown own2 few inside top cache portals abort = record {
    numbers = grind (arith, nat_tests, times_put, times, times_none, one_now next, one_more);
    few = omega (arith, few, size_put p next l Empty kept once parent);
    lies = lies_now;
    there = there_now;
    each = λ m j h. elim (grown_at p next l kept once parent fresh m j h) [ inl it ↦ rw it.1 inside | inr it ↦ sound.each m j it.1 ];
    given = λ m c j h q. elim (grown_at p next l kept once parent fresh m j h) [
      | inl it ↦ let none : has {A = Entry} c Empty ≡ true = ap (has c) (sym (ap (λ (x : Kept). x.chunks) it.1 ∙ chunks)) ∙ q in absurd (cc)
      | inr it ↦ sound.given m c j it.1 q
    ];
    named = λ word id h. named_by l.protected refl word id (sym (enters word) ∙ h);
    names = λ m j h findable. elim (grown_at p next l kept once parent fresh m j h) [
      | inl it ↦
          let seen : l.protected ≡ false = ap (λ (x : Kept). x.protected) (sym it.1) ∙ findable in
          (record { number = next; slot = slot }, ap find2 (ap (λ (x : Kept). x.name) it.1) ∙ enters l.name ∙ finds_new l.protected refl seen, sym it.0)
      | inr it ↦
          let there = sound.names m j it.1 findable in
          (there.0, enters j.name ∙ finds_old l.protected refl j.name there.0 there.1, there.2)
    ];
    chunk_named = λ word id h.
        let x : IsChunk kept places word id = sound.chunk_named word id h in
        record {
          context = x.context;
          entry = x.entry;
          stands = stands id.context.number x.context (old id.context.number x.context x.stands) x.stands;
          placed = lies id.context.number id.context.slot x.placed;
          listed = x.listed;
          entry_placed = x.entry_placed;
          name = x.name;
        };
    chunk_names = λ m c j e word h q is. elim (grown_at p next l kept once parent fresh m j h) [
      | inl it ↦
          let none : at c Empty ≡ Some e = ap (at c) (sym (ap (λ (x : Kept). x.chunks) it.1 ∙ chunks)) ∙ q in
          absurd (cc)
      | inr it ↦ sound.chunk_names m c j e word it.1 q is
    ];
    top = top;
    cache = cache;
    portals = portals;
    abort = abort;
    current = elim sound.current [
      | inl empty ↦ let gone : has {A = Kept} p Empty ≡ true = ap (has p) (sym empty) ∙ parent in absurd (cc)
      | inr there ↦ inr (lies now.number now.slot there)
    ];
  }
