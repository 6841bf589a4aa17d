-- What the walks of a forest come to.
use Rattle.std.proofs.Common.{◌≡◌, ◌≢◌, ◌⊎◌, ℕ, ◌<◌, true, false, Some, None, List, [], ◌∷◌, ◌++◌, refl, sym, ap, ◌∙◌, inl, inr, arith, append_assoc}
use Rattle.std.specs.Prelude.{◌==◌, ◌||◌, if◌then◌else◌, unwrap_or}
use Rattle.std.proofs.lemmas.Bool.{cases_Bool, eq-eqb, ne_eqb, eqb-true, eqb-false, or_parts, or_left, or_right, both_ways}
use Rattle.forest.specs.Forest.{Forest, Empty, Node, has, Once, size, first, children, next_of, is_root, parent_of, removed, changed}
use Rattle.forest.specs.Walk.{order, lead, follows, after, todo}
use Rattle.forest.proofs.Trees.{Apart, apart_of, Here, Below, Beside, where_is, removed_absent, has_children, has_changed, has_first}
use Rattle.forest.proofs.Neighbours.{root_absent, parent_absent, parent_root}
use Rattle.std.proofs.lemmas.Bool.Decides.{nat_tests}

module _ {A : Type 0} where
  in_lower : (s k : ℕ) (a : A) (below beside : Forest A) → has s below ≡ true → has s (Node k a below beside) ≡ true
  in_lower s k a below beside h = or_right (k == s) (has s below || has s beside) (or_left (has s below) (has s beside) h)

  in_later : (s k : ℕ) (a : A) (below beside : Forest A) → has s beside ≡ true → has s (Node k a below beside) ≡ true
  in_later s k a below beside h = or_right (k == s) (has s below || has s beside) (or_right (has s below) (has s beside) h)

  in_top : (s k : ℕ) (a : A) (below beside : Forest A) → k ≡ s → has s (Node k a below beside) ≡ true
  in_top s k a below beside e = or_left (k == s) (has s below || has s beside) (eq-eqb k s e)

  -- a node that one part of the forest lacks is another one
  apart_from : (m k : ℕ) (t : Forest A) → has m t ≡ true → has k t ≡ false → m ≢ k
  apart_from m k t h u e = both_ways (has k t) u (ap (λ (x : ℕ). has x t) (sym e) ∙ h)

  pub lead_in : (up : ℕ) (t : Forest A) → (lead up t ≡ up) ⊎ (has (lead up t) t ≡ true)
  lead_in up Empty = inl refl
  lead_in up (Node k a below beside) = grind (arith, nat_tests, in_top, in_lower, lead_in k below)

  pub follows_in : (n up : ℕ) (t : Forest A) → Once t → has n t ≡ true → (follows n up t ≡ up) ⊎ (has (follows n up t) t ≡ true)
  follows_in n up Empty o h = absurd (cc)
  follows_in n up (Node k a below beside) o h = grind (arith, nat_tests, apart_of, where_is, lead_in, in_later, in_top, in_lower, follows_in n k below (apart_of k a below beside o).once_below, follows_in n up beside (apart_of k a below beside o).once_beside)

  -- what is left at a number, before `rest`
  abbrev left : ℕ → ℕ → Forest A → List ℕ → List ℕ
  left up n t rest = if n == up then up ∷ rest else n ∷ (after n t ++ up ∷ rest)

  left_up : (up n : ℕ) (t : Forest A) (rest : List ℕ) → n ≡ up → left up n t rest ≡ up ∷ rest
  left_up up n t rest e = rw (eq-eqb n up e) refl

  left_other : (up n : ℕ) (t : Forest A) (rest : List ℕ) → n ≢ up → left up n t rest ≡ n ∷ (after n t ++ up ∷ rest)
  left_other up n t rest e = rw (ne_eqb n up e) refl

  -- in a part of the forest
  left_below : (up k m : ℕ) (a : A) (below beside : Forest A) (rest : List ℕ) → Once (Node k a below beside) → has up (Node k a below beside) ≡ false → (m ≡ k) ⊎ (has m below ≡ true)
      → left up m (Node k a below beside) rest ≡ left k m below (order beside ++ up ∷ rest)
  left_below up k m a below beside rest o out i = grind (arith, nat_tests, apart_of, or_parts, left_other, eqb-false, eq-eqb, left_up, apart_from, ne_eqb, append_assoc)

  left_beside : (up k m : ℕ) (a : A) (below beside : Forest A) (rest : List ℕ) → Once (Node k a below beside) → has up (Node k a below beside) ≡ false → (m ≡ up) ⊎ (has m beside ≡ true)
      → left up m (Node k a below beside) rest ≡ left up m beside rest
  left_beside up k m a below beside rest o out i = grind (arith, nat_tests, apart_of, or_parts, left_up, apart_from, left_other, ne_eqb)

  left_first : (up : ℕ) (t : Forest A) (rest : List ℕ) → Once t → has up t ≡ false → left up (lead up t) t rest ≡ order t ++ up ∷ rest
  left_first up Empty rest o out = left_up up up Empty rest refl
  left_first up (Node k a below beside) rest o out = grind (arith, nat_tests, apart_of, left_below, lead_in, append_assoc, left_first k below (order beside ++ up ∷ rest) (apart_of k a below beside o).once_below (apart_of k a below beside o).not_below)

  left_next : (up n : ℕ) (t : Forest A) (rest : List ℕ) → Once t → has up t ≡ false → has n t ≡ true → left up n t rest ≡ n ∷ left up (follows n up t) t rest
  left_next up n Empty rest o out h = absurd (cc)
  left_next up n (Node k a below beside) rest o out h = grind (arith, nat_tests, apart_of, or_parts, where_is, left_other, eqb-false, left_first, left_beside, lead_in, left_below, follows_in, left_next k n below (order beside ++ up ∷ rest) (apart_of k a below beside o).once_below (apart_of k a below beside o).not_below, left_next up n beside rest (apart_of k a below beside o).once_beside (or_parts (has up below) (has up beside) (or_parts (k == up) (has up below || has up beside) out).1).1)

  pub todo_first : (up : ℕ) (t : Forest A) → Once t → has up t ≡ false → todo up (lead up t) t ≡ order t ++ up ∷ []
  todo_first up t o out = left_first up t [] o out

  pub todo_next : (up n : ℕ) (t : Forest A) → Once t → has up t ≡ false → has n t ≡ true → todo up n t ≡ n ∷ todo up (follows n up t) t
  todo_next up n t o out h = left_next up n t [] o out h

  pub todo_end : (up : ℕ) (t : Forest A) → todo up up t ≡ up ∷ []
  todo_end up t = rw (eq-eqb up up refl) refl

  -- the walk that takes out each node that it has come to
  pub lead_removed : (up : ℕ) (t : Forest A) → Once t → has (lead up t) t ≡ true → follows (lead up t) up t ≡ lead up (removed (lead up t) t)
  lead_removed up Empty o h = absurd (cc)
  lead_removed up (Node k a below beside) o h = grind (arith, nat_tests, apart_of, lead_in, eq-eqb, removed_absent, apart_from, ne_eqb, lead_removed k below (apart_of k a below beside o).once_below)

  pub lead_of_node : (up k : ℕ) (a : A) (below beside : Forest A) → has (lead up (Node k a below beside)) (Node k a below beside) ≡ true
  lead_of_node up k a below beside = grind (arith, nat_tests, lead_in, in_top, in_lower)

  pub order_lead : (up : ℕ) (t : Forest A) (rest : List ℕ) → Once t → has (lead up t) t ≡ true → order t ++ rest ≡ lead up t ∷ (order (removed (lead up t) t) ++ rest)
  order_lead up Empty rest o h = absurd (cc)
  order_lead up (Node k a Empty beside) rest o h = grind (arith, nat_tests, apart_of, eq-eqb, removed_absent)
  order_lead up (Node k a (Node m b low next) beside) rest o h =
      let below : Forest A = Node m b low next in
      let apart : Apart k below beside = apart_of k a below beside o in
      let n = lead k below in
      let i : has n below ≡ true = lead_of_node k m b low next in
      let ne : k ≢ n = λ z. apart_from n k below i apart.not_below (sym z) in
      let w : has n beside ≡ false = apart.apart n i in
      let r : removed n (Node k a below beside) ≡ Node k a (removed n below) beside = rw (ne_eqb k n ne, removed_absent n beside w) refl in
      append_assoc (order below) (k ∷ order beside) rest
      ∙ order_lead k (Node m b low next) (k ∷ (order beside ++ rest)) apart.once_below i
      ∙ ap (λ (xs : List ℕ). n ∷ xs) (sym (append_assoc (order (removed n below)) (k ∷ order beside) rest))
      ∙ ap (λ (x : Forest A). n ∷ (order x ++ rest)) (sym r)

  -- what the walk speaks of is not the data
  pub order_changed : (n : ℕ) (f : A → A) (t : Forest A) → order (changed n f t) ≡ order t
  order_changed n f Empty = refl
  order_changed n f (Node k a below beside) = rw (order_changed n f below, order_changed n f beside) refl

  pub lead_changed : (up n : ℕ) (f : A → A) (t : Forest A) → lead up (changed n f t) ≡ lead up t
  lead_changed up n f Empty = refl
  lead_changed up n f (Node k a below beside) = lead_changed k n f below

  pub children_changed : (m n : ℕ) (f : A → A) (t : Forest A) → children m (changed n f t) ≡ changed n f (children m t)
  children_changed m n f Empty = refl
  children_changed m n f (Node k a below beside) = grind (arith, nat_tests, cases_Bool, has_changed, children_changed m n f below, children_changed m n f beside)

  pub follows_changed : (m up n : ℕ) (f : A → A) (t : Forest A) → follows m up (changed n f t) ≡ follows m up t
  follows_changed m up n f Empty = refl
  follows_changed m up n f (Node k a below beside) = grind (arith, nat_tests, has_changed, lead_changed, follows_changed m k n f below, follows_changed m up n f beside)

  pub after_changed : (m n : ℕ) (f : A → A) (t : Forest A) → after m (changed n f t) ≡ after m t
  after_changed m n f Empty = refl
  after_changed m n f (Node k a below beside) = grind (arith, nat_tests, has_changed, order_changed, after_changed m n f below, after_changed m n f beside)

  pub todo_changed : (up m n : ℕ) (f : A → A) (t : Forest A) → todo up m (changed n f t) ≡ todo up m t
  todo_changed up m n f t = rw (after_changed m n f t) refl

  -- the links of a node in a part of the forest
  pub children_in : (m n : ℕ) (t : Forest A) → Once t → has m (children n t) ≡ true → children m (children n t) ≡ children m t
  children_in m n Empty o h = absurd (cc)
  children_in m n (Node k a below beside) o h = grind (arith, nat_tests, apart_of, cases_Bool, apart_from, ne_eqb, has_children, children_in m n below (apart_of k a below beside o).once_below, children_in m n beside (apart_of k a below beside o).once_beside)

  pub next_in : (m n : ℕ) (t : Forest A) → Once t → has m (children n t) ≡ true → next_of m (children n t) ≡ next_of m t
  next_in m n Empty o h = absurd (cc)
  next_in m n (Node k a below beside) o h = grind (arith, nat_tests, apart_of, cases_Bool, apart_from, ne_eqb, has_children, next_in m n below (apart_of k a below beside o).once_below, next_in m n beside (apart_of k a below beside o).once_beside)

  -- where the walk goes from a node: to the next sibling's first, or to the parent
  pub record Goes (m up : ℕ) (t : Forest A) : Type 0 where
    pub beside : (b : ℕ) → next_of m t ≡ Some b → follows m up t ≡ lead b (children b t)
    pub over : next_of m t ≡ None → follows m up t ≡ unwrap_or (parent_of m t) up

  pub parent_has : (m : ℕ) (t : Forest A) → Once t → has m t ≡ true → is_root m t ≡ false → (p : ℕ) × (parent_of m t ≡ Some p)
  parent_has m Empty o h r = absurd (cc)
  parent_has m (Node k a below beside) o h r =
      let apart : Apart k below beside = apart_of k a below beside o in
      let q = or_parts (k == m) (is_root m beside) r in
      elim (where_is m k a below beside o h) [
        | Here same y u w ↦ absurd (both_ways (k == m) q.0 y)
        | Below ne y u w ↦ elim (cases_Bool (is_root m below)) [
          | inl b ↦ (k, rw b refl)
          | inr b ↦ let p = parent_has m below apart.once_below u b in (p.0, rw (b, u) p.1)
        ]
        | Beside ne y u w ↦
            let p = parent_has m beside apart.once_beside w q.1 in
            (p.0, rw (root_absent m below u, u) p.1)
      ]

  lead_first : (up b : ℕ) (t : Forest A) → first t ≡ Some b → lead up t ≡ lead b (children b t)
  lead_first up b x2 q = grind (arith, nat_tests)

  lead_none : (up : ℕ) (t : Forest A) → first t ≡ None → lead up t ≡ up
  lead_none up x1 q = grind (arith, nat_tests)

  pub next_has : (m b : ℕ) (t : Forest A) → next_of m t ≡ Some b → has b t ≡ true
  next_has m b Empty q = absurd (cc)
  next_has m b (Node k a below beside) q = grind (arith, nat_tests, cases_Bool (k == m), cases_Bool (has m below), in_later b k a below beside, has_first b beside, in_lower b k a below beside, next_has m b below, next_has m b beside)

  part_below : (b k : ℕ) (a : A) (below beside : Forest A) → Apart k below beside → has b below ≡ true → children b (Node k a below beside) ≡ children b below
  part_below b k a below beside apart h = grind (arith, nat_tests, apart_from, ne_eqb)

  part_beside : (b k : ℕ) (a : A) (below beside : Forest A) → Apart k below beside → has b beside ≡ true → children b (Node k a below beside) ≡ children b beside
  part_beside b k a below beside apart h = grind (arith, nat_tests, apart_from, ne_eqb)

  pub goes : (m up : ℕ) (t : Forest A) → Once t → has m t ≡ true → Goes m up t
  goes m up Empty o h = absurd (cc)
  goes m up (Node k a below beside) o h = grind (arith, nat_tests, apart_of, where_is, lead_first, part_beside, has_first, root_absent, parent_absent, lead_none, part_below, next_has, cases_Bool, parent_root, parent_has, goes m k below, goes m up beside)

  -- what is below a node is no root
  pub below_root : (m n : ℕ) (t : Forest A) → Once t → has m (children n t) ≡ true → is_root m t ≡ false
  below_root m n Empty o h = refl
  below_root m n (Node k a below beside) o h = grind (arith, nat_tests, apart_of, ne_eqb, apart_from, root_absent, cases_Bool, has_children, below_root m n beside (apart_of k a below beside o).once_beside)

  pub parent_in : (m n : ℕ) (t : Forest A) → Once t → has m (children n t) ≡ true → parent_of m t ≡ Some (unwrap_or (parent_of m (children n t)) n)
  parent_in m n Empty o h = absurd (cc)
  parent_in m n (Node k a below beside) o h = grind (arith, nat_tests, apart_of, cases_Bool, parent_root, eqb-true, parent_has, has_children, below_root, root_absent, parent_in m n below (apart_of k a below beside o).once_below, parent_in m n beside (apart_of k a below beside o).once_beside)

  pub once_children : (n : ℕ) (t : Forest A) → Once t → Once (children n t)
  once_children n Empty o = o
  once_children n (Node k a below beside) o = grind (arith, nat_tests, apart_of, cases_Bool, once_children n below (apart_of k a below beside o).once_below, once_children n beside (apart_of k a below beside o).once_beside)

  front_step : (up c : ℕ) (f : Forest A) → first f ≡ Some c → (lead c (children c f) ≡ lead up f) × (size (children c f) < size f)
  front_step up c x2 q = grind (arith, nat_tests, lead_first)

  -- the walk begins in the first child
  pub first_step : (n c : ℕ) (t : Forest A) → Once t → first (children n t) ≡ Some c → (lead c (children c t) ≡ lead n (children n t)) × (size (children c t) < size (children n t))
  first_step n c t o q = grind (arith, nat_tests, children_in, has_first, front_step)

  pub first_none : (n : ℕ) (t : Forest A) → first (children n t) ≡ None → n ≡ lead n (children n t)
  first_none n t q = sym (lead_none n (children n t) q)

  -- where the walk goes, by the links of the whole forest
  pub goes_beside : (m top b : ℕ) (t : Forest A) → Once t → has m (children top t) ≡ true → next_of m t ≡ Some b → lead b (children b t) ≡ follows m top (children top t)
  goes_beside m top b t o h q = grind (arith, nat_tests, next_in m top t o h, children_in b top t o, next_has m b (children top t), goes m top (children top t) (once_children top t o) h, once_children top t o)

  pub goes_over : (m top : ℕ) (t : Forest A) → Once t → has m (children top t) ≡ true → next_of m t ≡ None → parent_of m t ≡ Some (follows m top (children top t))
  goes_over m top t o h q = grind (arith, nat_tests, next_in m top t o h, parent_in m top t o h, goes m top (children top t) (once_children top t o) h, once_children top t o)

  -- the walk that takes nodes out: where it stands, nothing is below
  pub lead_leaf : (up : ℕ) (t : Forest A) → Once t → has (lead up t) t ≡ true → children (lead up t) t ≡ Empty
  lead_leaf up Empty o h = absurd (cc)
  lead_leaf up (Node k a Empty beside) o h = rw (eq-eqb k k refl) refl
  lead_leaf up (Node k a (Node m b low next) beside) o h = grind (arith, nat_tests, apart_of k a (Node m b low next) beside o, lead_of_node k m b low next, part_below (lead k (Node m b low next)) k a (Node m b low next) beside (apart_of k a (Node m b low next) beside o) (lead_of_node k m b low next), lead_leaf k (Node m b low next) (apart_of k a (Node m b low next) beside o).once_below (lead_of_node k m b low next))

  pub lead_end : (up : ℕ) (t : Forest A) → has up t ≡ false → lead up t ≡ up → t ≡ Empty
  lead_end up Empty out e = refl
  lead_end up (Node k a below beside) out e = grind (arith, nat_tests, both_ways (has up (Node k a below beside)) out, lead_of_node up k a below beside)

  pub removed_below : (m n : ℕ) (t : Forest A) → Once t → has m (children n t) ≡ true → removed n (removed m t) ≡ removed n t
  removed_below m n Empty o h = refl
  removed_below m n (Node k a below beside) o h = grind (arith, nat_tests, apart_of, cases_Bool, apart_from, ne_eqb, removed_absent, has_children, removed_below m n below (apart_of k a below beside o).once_below, removed_below m n beside (apart_of k a below beside o).once_beside)

  pub above_stays : (m n : ℕ) (t : Forest A) → Once t → has m (children n t) ≡ true → has n (removed m t) ≡ true
  above_stays m n Empty o h = absurd (cc)
  above_stays m n (Node k a below beside) o h = grind (arith, nat_tests, apart_of, cases_Bool, apart_from, ne_eqb, has_children, removed_absent, above_stays m n below (apart_of k a below beside o).once_below, above_stays m n beside (apart_of k a below beside o).once_beside)

  pub children_removed : (m n : ℕ) (t : Forest A) → Once t → has m (children n t) ≡ true → children n (removed m t) ≡ removed m (children n t)
  children_removed m n Empty o h = refl
  children_removed m n (Node k a below beside) o h = grind (arith, nat_tests, apart_of, cases_Bool, apart_from, ne_eqb, has_children, above_stays, removed_absent, children_removed m n below (apart_of k a below beside o).once_below, children_removed m n beside (apart_of k a below beside o).once_beside)
