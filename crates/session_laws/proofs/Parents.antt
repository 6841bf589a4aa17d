-- Replayed parents that fit the trees of a session.
use Rattle.session_laws.proofs.Words.{◌≡◌, ◌≢◌, ℕ, zero, suc, ◌+◌, ◌<◌, ◌≤◌, Bool, true, false, not, List, [], ◌∷◌, length, Option, Some, None, refl, sym, ap, ◌∙◌, subst, unwrap_or, inl, inr, arith, ◌++◌, append-nil, ◌==◌, ◌||◌, ◌&&◌, option_map_or, both_ways, cases_Bool, cases_eq, cond-true, eq-eqb, eqb-true, false_from_ne_true, ne_eqb, or_from, or_parts, and_from, Forest, Empty, Node, Once, children, has, is_above, moved, parent_of, put, removed, size, times, with_children, changed, mapped, Moves, at_some, has_at, has_none, has_some, once_front, once_moved, once_put, parent_stays, removed_has, size_moved, size_put, size_removed, times_moved, times_none, times_some, apart_of, first_child_other, has_children, once_removed, removed_absent, lead, order, order_at, all_changed, swept, nat_tests, mapped-times, above_by_parent, above_none, below_parent, level_up, parent_absent, parent_in, children_in, children_removed, lead_leaf, lead_of_node, once_children, order_lead}
use Rattle.session_laws.proofs.Scenes.{Scene, Contexts, What}
use Rattle.session_laws.proofs.Rules.{at_put, children_put, has_left, has_put_other, once_left, parent_left, parent_put, parent_put_other, emptied_absent, has_emptied, is_one_of, Reader, allows_all, seen_after, AreSaid, said_more, said_none, IsLine, above-line, is_there-placed_other, is_there-placed_same, is_there-without_other, is_there-without_same, parent_of-placed_other, parent_of-placed_same, parent_of-without_other, parent_of-without_same, Node as Kept, above, has_child, is_there, is_within, placed, without, contexts_behind, owners_behind, own_emptied}
use Rattle.forest.specs.Preorder.{level}
use Rattle.forest.proofs.Preorders.{level_small}
use Rattle.lifetime_laws.specs.Parents as replayed
use Rattle.pgs_step.specs.declared.events.What.TheVariants as what
use Rattle.context_rules.specs.Ends as ends

-- each number stands once among these nodes
abbrev pub AreSingle : List Kept → Type 0
AreSingle [] = Unit {0}
AreSingle (first ∷ rest) = (is_there first.number rest ≡ false) × AreSingle rest

-- Replayed nodes fit a tree: each number stands once in both, with the same parent.
pub record FitsTree {A : Type 0} (nodes : List Kept) (t : Forest A) : Type 0 where
  pub once : Once t
  pub there : (n : ℕ) → is_there n nodes ≡ has n t
  pub parent : (n : ℕ) → replayed.parent_of n nodes ≡ parent_of n t
  pub single : AreSingle nodes
  pub length : length nodes ≡ size t

-- besides, each number is below the next one
pub record FitsBelow {A : Type 0} (nodes : List Kept) (t : Forest A) (next : ℕ) : Type 0 where
  pub tree : FitsTree nodes t
  pub below : (n : ℕ) → has n t ≡ true → n < next

-- The replayed contexts are those of the session, and so are the owners.
abbrev pub FitsContexts : List Kept → Scene → Type 0
FitsContexts nodes s = FitsBelow nodes s.session.contexts s.session.next_context

abbrev pub FitsOwners : List Kept → Scene → Type 0
FitsOwners nodes s = FitsBelow nodes s.session.owners s.session.next_owner

-- nodes without one
pub still_away : (m n : ℕ) (nodes : List Kept) → is_there m nodes ≡ false → is_there m (without n nodes) ≡ false
still_away m n nodes h = grind (arith, nat_tests, is_there-without_same, is_there-without_other)

pub single_without : (n : ℕ) (nodes : List Kept) → AreSingle nodes → AreSingle (without n nodes)
single_without n [] h = tt
single_without n (first ∷ rest) h = elim (cases_Bool (first.number == n)) [ inl y ↦ rw y (single_without n rest h.1) | inr z ↦ rw z (still_away first.number n rest h.0, single_without n rest h.1) ]

pub without_none : (n : ℕ) (nodes : List Kept) → is_there n nodes ≡ false → without n nodes ≡ nodes
without_none n [] h = refl
without_none n (first ∷ rest) h = grind (arith, nat_tests, without_none n rest, or_parts)

pub length_without : (n : ℕ) (nodes : List Kept) → AreSingle nodes → is_there n nodes ≡ true → 1 + length (without n nodes) ≡ length nodes
length_without n [] single h = absurd (cc h)
length_without n (first ∷ rest) single h = grind (arith, nat_tests, length_without n rest single.1, without_none, eqb-true)

pub single_placed : (n : ℕ) (parent : Option ℕ) (nodes : List Kept) → AreSingle nodes → AreSingle (placed n parent nodes)
single_placed n parent nodes h = (is_there-without_same n nodes, single_without n nodes h)

module _ {A : Type 0} where
  -- a node without children goes
  pub fits_gone : (n : ℕ) (nodes : List Kept) (t : Forest A) → FitsTree nodes t → has n t ≡ true → children n t ≡ Empty → FitsTree (without n nodes) (removed n t)
  fits_gone n nodes t f h leaf = grind (arith, nat_tests, removed_has, once_left, is_there-without_same, is_there-without_other, has_left, parent_of-without_same, parent_absent, parent_of-without_other, parent_left, single_without, length_without, size_removed)

  -- nodes fit where one is placed as the tree has it, and all others are as they were
  fits_placed : (n : ℕ) (parent : Option ℕ) (nodes : List Kept) (t u : Forest A) → FitsTree nodes t → Once u → has n u ≡ true → parent_of n u ≡ parent
      → ((m : ℕ) → m ≢ n → (has m u ≡ has m t) × (parent_of m u ≡ parent_of m t)) → 1 + length (without n nodes) ≡ size u → FitsTree (placed n parent nodes) u
  fits_placed n parent nodes t u f once here above others counts = record {
    once = once;
    there = λ m. elim (cases_eq m n) [
      | inl e ↦ subst (λ (x : ℕ). is_there x (placed n parent nodes) ≡ has x u) (sym e) (is_there-placed_same n parent nodes ∙ sym here)
      | inr ne ↦ is_there-placed_other m n parent nodes ne ∙ f.there m ∙ sym (others m ne).0
    ];
    parent = grind (arith, nat_tests, cases_eq, parent_of-placed_same, parent_of-placed_other);
    single = single_placed n parent nodes f.single;
    length = omega (arith, counts);
  }

  -- a node comes below another one, or as a root
  pub fits_put : (p n : ℕ) (a : A) (nodes : List Kept) (t : Forest A) → FitsTree nodes t → has p t ≡ true → has n t ≡ false → FitsTree (placed n (Some p) nodes) (put p n a Empty t)
  fits_put p n a nodes t f h away =
      fits_placed n (Some p) nodes t (put p n a Empty t) f (once_put p n a t f.once h away) (has_at n (put p n a Empty t) a (at_put p n a Empty t f.once h away)) (parent_put p n a Empty t f.once h away)
      (λ m ne. (has_put_other m p n a Empty t ne refl, parent_put_other m p n a Empty t ne refl)) (omega (arith, ap length (without_none n nodes (f.there n ∙ away)), f.length, size_put p n a Empty t f.once h))

  pub fits_front : (n : ℕ) (a : A) (nodes : List Kept) (t : Forest A) → FitsTree nodes t → has n t ≡ false → FitsTree (placed n None nodes) (Node n a Empty t)
  fits_front n a nodes t f away = grind (arith, nat_tests, fits_placed, once_front, eq-eqb, parent_absent, ne_eqb, without_none)

  -- a node moves with all below it
  moved_parent : (m n p : ℕ) (a : A) (t : Forest A) → Once t → Moves n p t → m ≢ n → parent_of m (put p n a (children n t) (removed n t)) ≡ parent_of m t
  moved_parent m n p a t o w ne =
      let sub : Forest A = children n t in
      let left : Once (removed n t) = once_left n t o in
      let there : has p (removed n t) ≡ true = parent_stays n p t o w in
      let own : children n (put p n a sub (removed n t)) ≡ sub = children_put p n a sub (removed n t) left there (removed_has n t o w.node) in
      elim (cases_Bool (has m sub)) [
        | inl y ↦
            parent_in m n (put p n a sub (removed n t)) (once_moved n p a t o w) (ap (has m) own ∙ y)
            ∙ ap (λ (x : Forest A). Some (unwrap_or (parent_of m x) n)) own ∙ sym (parent_in m n t o y)
        | inr z ↦ parent_put_other m p n a sub (removed n t) ne z ∙ parent_left m n t o ne z
      ]

  moved_fits : (n p : ℕ) (a : A) (nodes : List Kept) (t : Forest A) → FitsTree nodes t → Moves n p t → FitsTree (placed n (Some p) nodes) (put p n a (children n t) (removed n t))
  moved_fits n p a nodes t f w =
      let u : Forest A = put p n a (children n t) (removed n t) in
      let same : (m : ℕ) → times m u ≡ times m t = λ m. times_moved m n p a t f.once w in
      let kept : (m : ℕ) → has m u ≡ has m t = grind (arith, nat_tests, cases_Bool, has_some, times_some, has_none, times_none) in
      fits_placed n (Some p) nodes t u f (once_moved n p a t f.once w) (kept n ∙ w.node) (parent_put p n a (children n t) (removed n t) (once_left n t f.once) (parent_stays n p t f.once w) (removed_has n t f.once w.node))
      (λ m ne. (kept m, moved_parent m n p a t f.once w ne)) (omega (arith, length_without n nodes f.single (f.there n ∙ w.node), f.length, size_moved n p a t f.once w))

  pub fits_moved : (n p : ℕ) (nodes : List Kept) (t : Forest A) → FitsTree nodes t → Moves n p t → FitsTree (placed n (Some p) nodes) (moved n p t)
  fits_moved n p nodes t f w = let a = at_some n t w.node in rw a.1 (moved_fits n p a.0 nodes t f w)

  -- the nodes above a number, as the tree has them
  pub record HasLine (nodes : List Kept) (t : Forest A) (n : ℕ) : Type 0 where
    pub line : List ℕ
    pub is : IsLine nodes n line
    pub short : length line ≤ level 0 n t
    pub above : (a : ℕ) → is_one_of a line ≡ is_above a n t

  root_line : (nodes : List Kept) (t : Forest A) (n : ℕ) → FitsTree nodes t → parent_of n t ≡ None → HasLine nodes t n
  root_line nodes t n f e = record { line = []; is = f.parent n ∙ e; short = omega arith; above = λ a. sym (above_none n a t f.once e) }

  child_line : (nodes : List Kept) (t : Forest A) (n p : ℕ) → FitsTree nodes t → parent_of n t ≡ Some p → HasLine nodes t p → HasLine nodes t n
  child_line nodes t n p f e h = record {
    line = p ∷ h.line;
    is = (f.parent n ∙ e, h.is);
    short = omega (arith, h.short, level_up 0 n p t f.once e);
    above = grind (arith, nat_tests, cases_eq, eq-eqb, below_parent, ne_eqb, above_by_parent);
  }

  line_from : (k : ℕ) (nodes : List Kept) (t : Forest A) (n : ℕ) → FitsTree nodes t → level 0 n t < k → HasLine nodes t n
  line_from zero nodes t n f small = absurd (omega (arith, small))
  line_from (suc k) nodes t n f small = go (parent_of n t) refl (λ p low. line_from k nodes t p f low)
    where
      go : (o : Option ℕ) → parent_of n t ≡ o → ((p : ℕ) → level 0 p t < k → HasLine nodes t p) → HasLine nodes t n
      go None e deeper = root_line nodes t n f e
      go (Some p) e deeper = child_line nodes t n p f e (deeper p (omega (arith, small, level_up 0 n p t f.once e)))

  pub line_of : (nodes : List Kept) (t : Forest A) (n : ℕ) → FitsTree nodes t → HasLine nodes t n
  line_of nodes t n f = line_from (level 0 n t + 1) nodes t n f (omega arith)

  -- so a number is above another one in the replay where it is in the tree
  pub same_above : (a n : ℕ) (nodes : List Kept) (t : Forest A) → FitsTree nodes t → has n t ≡ true → replayed.is_above a n nodes ≡ is_above a n t
  same_above a n nodes t f h =
      let l : HasLine nodes t n = line_of nodes t n f in
      ap (is_one_of a) (above-line nodes n l.line l.is (omega (arith, l.short, level_small 0 n t f.once h, f.length))) ∙ l.above a

  pub same_within : (root n : ℕ) (nodes : List Kept) (t : Forest A) → FitsTree nodes t → has n t ≡ true → is_within root n nodes ≡ ((n == root) || is_above root n t)
  same_within root n nodes t f h = ap (λ (b : Bool). (n == root) || b) (same_above root n nodes t f h)

-- a number that isn't there has no parent
no_parent : (n : ℕ) (nodes : List Kept) → is_there n nodes ≡ false → replayed.parent_of n nodes ≡ None
no_parent n [] h = refl
no_parent n (first ∷ rest) h = grind (arith, nat_tests, no_parent n rest, or_parts)

-- what is no number's parent has no child
childless : (n : ℕ) (nodes : List Kept) → AreSingle nodes → ((m : ℕ) → replayed.parent_of m nodes ≡ Some n → ⊥) → has_child n nodes ≡ false
childless n [] single none = refl
childless n (first ∷ rest) single none =
    or_from (option_map_or (λ parent. parent == n) first.parent false) (has_child n rest) (own first.parent refl) (childless n rest single.1 (λ m e. none m (up m e)))
  where
    own : (o : Option ℕ) → first.parent ≡ o → option_map_or (λ parent. parent == n) o false ≡ false
    own None e = refl
    own (Some p) e =
        false_from_ne_true (p == n)
        (λ y. none first.number (cond-true (first.number == first.number) first.parent (replayed.parent_of first.number rest) (eq-eqb first.number first.number refl) ∙ e ∙ ap (λ (x : ℕ). Some x) (eqb-true p n y)))

    up : (m : ℕ) → replayed.parent_of m rest ≡ Some n → replayed.parent_of m (first ∷ rest) ≡ Some n
    up m e = grind (arith, nat_tests, cases_Bool, no_parent, eqb-true)

-- a node without children has none in the replay
pub same_childless : {A : Type 0} (n : ℕ) (nodes : List Kept) (t : Forest A) → FitsTree nodes t → children n t ≡ Empty → has_child n nodes ≡ false
same_childless n nodes t f leaf =
    childless n nodes f.single (λ m e. both_ways (has m (children n t)) (ap (has m) leaf) (below_parent m n t f.once (sym (f.parent m) ∙ e)))

-- Nodes of a tree that go one by one, each when nothing is below it any more.

module _ {A : Type 0} where
  -- These nodes go from the first tree in this order, and the second one is left.
  pub data Plucked : List ℕ → Forest A → Forest A → Type 0 where
    none_left : {t : Forest A} → Plucked [] t t
    one_less : {n : ℕ} {ns : List ℕ} {t u : Forest A} → has n t ≡ true → children n t ≡ Empty → Plucked ns (removed n t) u → Plucked (n ∷ ns) t u

  pub plucked_both : {ms ns : List ℕ} {t u v : Forest A} → Plucked ms t u → Plucked ns u v → Plucked (ms ++ ns) t v
  plucked_both none_left k = k
  plucked_both (one_less h leaf hs) k = one_less h leaf (plucked_both hs k)

  other : (m k : ℕ) (t : Forest A) → has m t ≡ true → has k t ≡ false → k ≢ m
  other m k t h u = λ e. both_ways (has k t) u (ap (λ (x : ℕ). has x t) e ∙ h)

  -- what goes below a node that loses all below it
  emptied_below : (m n : ℕ) (t : Forest A) → Once t → has m (children n t) ≡ true → with_children n Empty (removed m t) ≡ with_children n Empty t
  emptied_below m n Empty o h = refl
  emptied_below m n (Node k a below beside) o h = grind (arith, nat_tests, emptied_below m n below, emptied_below m n beside, apart_of, ne_eqb, other, removed_absent, has_children)

  emptied_none : (n : ℕ) (t : Forest A) → Once t → children n t ≡ Empty → with_children n Empty t ≡ t
  emptied_none n Empty o e = refl
  emptied_none n (Node k a below beside) o e = grind (arith, nat_tests, emptied_none n below, emptied_none n beside, apart_of, eqb-true, emptied_absent)

  removed_emptied : (n : ℕ) (t : Forest A) → removed n (with_children n Empty t) ≡ removed n t
  removed_emptied n Empty = refl
  removed_emptied n (Node k a below beside) = grind (arith, nat_tests, removed_emptied n beside, removed_emptied n below)

  -- what is so of a tree and of the numbers below a node in the order in which these go, where it is so of the tree without the next of them
  pub by_children : (P : Forest A → List ℕ → Type 0) (n : ℕ) → ((t : Forest A) → Once t → children n t ≡ Empty → P t [])
      → ((m : ℕ) (ns : List ℕ) (t : Forest A) → Once t → has m (children n t) ≡ true → children m t ≡ Empty → P (removed m t) ns → P t (m ∷ ns))
      → (k : ℕ) (t : Forest A) → size (children n t) < k → Once t → P t (order (children n t))
  by_children P n none more zero t small o = absurd (omega (arith, small))
  by_children P n none more (suc k) t small o = go (children n t) refl (λ m less h. by_children P n none more k (removed m t) less (once_removed m t o h))
    where
      go : (low : Forest A) → children n t ≡ low → ((m : ℕ) → size (children n (removed m t)) < k → has m t ≡ true → P (removed m t) (order (children n (removed m t)))) → P t (order low)
      go Empty e rest = none t o e
      go (Node c a below beside) e rest =
          let low : Forest A = Node c a below beside in
          let once_low : Once low = subst Once e (once_children n t o) in
          let m : ℕ = lead n low in
          let inside : has m low ≡ true = lead_of_node n c a below beside in
          let here : has m (children n t) ≡ true = ap (has m) e ∙ inside in
          let leaf : children m t ≡ Empty = sym (children_in m n t o here) ∙ ap (children m) e ∙ lead_leaf n low once_low inside in
          let lower : children n (removed m t) ≡ removed m low = children_removed m n t o here ∙ ap (removed m) e in
          let less : size (children n (removed m t)) < k = omega (arith, small, ap size e, ap size lower, size_removed m low once_low inside) in
          let names : order low ≡ m ∷ order (removed m low) =
          sym (append-nil (order low)) ∙ order_lead n low [] once_low inside ∙ ap (λ (ns : List ℕ). m ∷ ns) (append-nil (order (removed m low))) in
          subst (P t) (sym names) (more m (order (removed m low)) t o here leaf (subst (λ (x : Forest A). P (removed m t) (order x)) lower (rest m less (has_children m n t o here))))

  -- all below a node goes
  pub plucked_children : (n : ℕ) (t : Forest A) → Once t → Plucked (order (children n t)) t (with_children n Empty t)
  plucked_children n t o =
      by_children (λ u ns. Plucked ns u (with_children n Empty u)) n (λ u once e. subst (λ (v : Forest A). Plucked [] u v) (sym (emptied_none n u once e)) none_left)
      (λ m ns u once here leaf rest. one_less (has_children m n u once here) leaf (subst (λ (v : Forest A). Plucked ns (removed m u) v) (emptied_below m n u once here) rest)) (size (children n t) + 1) t (omega arith) o

  -- a node goes with all below it
  pub plucked_gone : (n : ℕ) (t : Forest A) → Once t → has n t ≡ true → Plucked (order_at n t) t (removed n t)
  plucked_gone n t o h =
      plucked_both (plucked_children n t o)
      (one_less (has_emptied n n t o (first_child_other n t o h) ∙ h) (own_emptied n t o) (subst (λ (u : Forest A). Plucked [] u (removed n t)) (sym (removed_emptied n t)) none_left))

-- Trees of one shape.

abbrev pub bare : {A : Type 0} → A → Unit {0}
bare a = tt

-- two trees of one shape: the same numbers in the same places
pub record AreAlike {A : Type 0} (t u : Forest A) : Type 0 where
  pub shape : mapped bare u ≡ mapped bare t

module _ {A : Type 0} where
  pub alike_same : (t : Forest A) → AreAlike t t
  alike_same t = record { shape = refl }

  shape_changed : (n : ℕ) (f : A → A) (t : Forest A) → mapped bare (changed n f t) ≡ mapped bare t
  shape_changed n f Empty = refl
  shape_changed n f (Node k a below beside) = rw (shape_changed n f below, shape_changed n f beside) refl

  pub alike_changed : (n : ℕ) (f : A → A) (t : Forest A) → AreAlike t (changed n f t)
  alike_changed n f t = record { shape = shape_changed n f t }

  shape_all : (f : A → A) (t : Forest A) → mapped bare (all_changed f t) ≡ mapped bare t
  shape_all f Empty = refl
  shape_all f (Node k a below beside) = rw (shape_all f below, shape_all f beside) refl

  shape_swept : (f : A → A) (n : ℕ) (t : Forest A) → mapped bare (swept f n t) ≡ mapped bare t
  shape_swept f n Empty = refl
  shape_swept f n (Node k a below beside) = grind (arith, nat_tests, shape_swept f n beside, shape_swept f n below, shape_all)

  pub alike_swept : (f : A → A) (n : ℕ) (t : Forest A) → AreAlike t (swept f n t)
  alike_swept f n t = record { shape = shape_swept f n t }

  pub once_alike : (t u : Forest A) → AreAlike t u → Once t → Once u
  once_alike t u h once = record { once = λ n. omega (arith, once.once n, sym (mapped-times bare n u) ∙ ap (times n) h.shape ∙ mapped-times bare n t) }

-- a context is reset
pub alike_alone : (n : ℕ) (t : Contexts) → AreAlike t (ends.cleared_alone n t).contexts
alike_alone n t = grind (arith, nat_tests, alike_changed, alike_same)

-- Readers of the events by which replayed nodes come and go.

-- the nodes that are there, and the number that the next one gets
pub record Growth : Type 0 where
  pub nodes : List Kept
  pub next : ℕ

abbrev pub is_leaf : ℕ → List Kept → Bool
is_leaf n nodes = is_there n nodes && not (has_child n nodes)

-- The reader of contexts: each one that is made gets the next number, each that goes is there and has no child.
abbrev pub growing_contexts : Reader Growth
growing_contexts = record { next = λ event growth. record { nodes = contexts_behind event growth.nodes; next = next event growth.next }; allows = allows }
  where
    next : What → ℕ → ℕ
    next (what.Create context name parent) n = n + 1
    next other n = n

    allows : What → Growth → Bool
    allows (what.Create context name parent) growth = context == growth.next
    allows (what.Delete context) growth = is_leaf context growth.nodes
    allows other growth = true

-- and that of owners
abbrev pub growing_owners : Reader Growth
growing_owners = record { next = λ event growth. record { nodes = owners_behind event growth.nodes; next = next event growth.next }; allows = allows }
  where
    next : What → ℕ → ℕ
    next (what.Owner owner) n = n + 1
    next (what.OwnerIn owner parent) n = n + 1
    next other n = n

    allows : What → Growth → Bool
    allows (what.Owner owner) growth = owner == growth.next
    allows (what.OwnerIn owner parent) growth = owner == growth.next
    allows (what.OwnerGone owner) growth = is_leaf owner growth.nodes
    allows other growth = true

-- an event that a reader passes over
pub record IsPassed (reader : Reader Growth) (event : What) : Type 0 where
  pub same : (growth : Growth) → reader.next event growth ≡ growth
  pub allowed : (growth : Growth) → reader.allows event growth ≡ true

-- an event that takes out a node that has no child
pub record IsTaken (reader : Reader Growth) (n : ℕ) (event : What) : Type 0 where
  pub next : (growth : Growth) → reader.next event growth ≡ record { nodes = without n growth.nodes; next = growth.next }
  pub allowed : (growth : Growth) → reader.allows event growth ≡ is_leaf n growth.nodes

-- the events that say nothing of contexts, or of owners
abbrev pub is_not_of_contexts : What → Bool
is_not_of_contexts (what.Create context name parent) = false
is_not_of_contexts (what.Delete context) = false
is_not_of_contexts (what.Move context parent) = false
is_not_of_contexts other = true

abbrev pub is_not_of_owners : What → Bool
is_not_of_owners (what.Owner owner) = false
is_not_of_owners (what.OwnerIn owner parent) = false
is_not_of_owners (what.MoveOwner owner parent) = false
is_not_of_owners (what.OwnerGone owner) = false
is_not_of_owners other = true

pub passed_context : (event : What) → is_not_of_contexts event ≡ true → IsPassed growing_contexts event
passed_context event h = grind (arith, nat_tests)

pub passed_owner : (event : What) → is_not_of_owners event ≡ true → IsPassed growing_owners event
passed_owner event h = grind (arith, nat_tests)

pub taken_context : (n : ℕ) → IsTaken growing_contexts n (what.Delete n)
taken_context n = record { next = λ growth. refl; allowed = λ growth. refl }

pub taken_owner : (n : ℕ) → IsTaken growing_owners n (what.OwnerGone n)
taken_owner n = record { next = λ growth. refl; allowed = λ growth. refl }

module _ (reader : Reader Growth) where
  -- events that say of these nodes in this order that they go, and nothing else that the reader reads
  pub data Takes : List ℕ → List What → Type 0 where
    takes_none : Takes [] []
    takes_one : {n : ℕ} {ns : List ℕ} {event : What} {events : List What} → IsTaken reader n event → Takes ns events → Takes (n ∷ ns) (event ∷ events)
    takes_past : {ns : List ℕ} {event : What} {events : List What} → IsPassed reader event → Takes ns events → Takes ns (event ∷ events)

  pub takes_both : {ms ns : List ℕ} {xs ys : List What} → Takes ms xs → Takes ns ys → Takes (ms ++ ns) (xs ++ ys)
  takes_both takes_none k = k
  takes_both (takes_one h hs) k = takes_one h (takes_both hs k)
  takes_both (takes_past h hs) k = takes_past h (takes_both hs k)

  -- what is read of such events: no more than that these nodes go
  pub record IsPruned {A : Type 0} (growth : Growth) (u : Forest A) (events : List What) : Type 0 where
    pub allowed : allows_all reader growth events ≡ true
    pub tree : FitsTree (seen_after reader growth events).nodes u
    pub next : (seen_after reader growth events).next ≡ growth.next

  pub pruned : {A : Type 0} {ns : List ℕ} {events : List What} {t u : Forest A} → Takes ns events → Plucked ns t u → (growth : Growth) → FitsTree growth.nodes t → IsPruned growth u events
  pruned takes_none none_left growth f = record { allowed = refl; tree = f; next = refl }
  pruned {A} {u = u} (takes_past {event = event} {events = events} h hs) p growth f = grind (arith, nat_tests, pruned hs p growth f, and_from)
  pruned {A} {t = t} {u = u} (takes_one {n = n} {event = event} {events = events} h hs) (one_less there leaf p) growth f = grind (arith, nat_tests, pruned hs p, fits_gone, and_from, same_childless)

  pub takes_quiet : {P : What → Bool} → ((event : What) → P event ≡ true → IsPassed reader event) → {events : List What} → AreSaid P events → Takes [] events
  takes_quiet passes said_none = takes_none
  takes_quiet passes (said_more {event = event} h hs) = takes_past (passes event h) (takes_quiet passes hs)

  -- what is passed over changes nothing
  pub record AreRead (growth : Growth) (events : List What) : Type 0 where
    pub allowed : allows_all reader growth events ≡ true
    pub same : seen_after reader growth events ≡ growth

  pub read_past : {events : List What} → Takes [] events → (growth : Growth) → AreRead growth events
  read_past takes_none growth = record { allowed = refl; same = refl }
  read_past (takes_past {event = event} {events = events} h hs) growth = grind (arith, nat_tests, read_past hs growth, and_from)
