-- Forests by slots whose nodes are linked with their neighbours, and what writes of links make of them.
use Rattle.std.proofs.Common.{◌≡◌, ◌≢◌, ◌⊎◌, ℕ, zero, suc, ◌≤◌, true, false, Option, Some, None, refl, sym, ap, ◌∙◌, inl, inr, arith}
use Rattle.std.specs.Prelude.{◌==◌, ◌||◌}
use Rattle.std.proofs.lemmas.Bool.{eq-eqb, eqb-false, or_parts, both_ways, or_right, or_left}
use Rattle.forest.specs.Forest.{Forest, Empty, Node, has, Once, size, first, children, put, removed, changed}
use Rattle.forest.specs.Links.{Entry, entry_of, linked, built, IsLinked}
use Rattle.forest.specs.declared.links.Linked.{Linked}
use Rattle.forest.proofs.Trees.{Apart, apart_of, Here, Below, Beside, where_is, removed_absent, put_absent, changed_absent, first_put, first_removed, first_changed, has_first, has_children, has_of_removed}
use Rattle.std.proofs.lemmas.Bool.Decides.{nat_tests}

abbrev pub Look : Type 0 → Type 0
Look T = ℕ → Option (Linked T)

module _ {T : Type 0} where
  -- what is in a forest that has a node in front
  pub in_below : (s k : ℕ) (below beside : Forest (Entry T)) (e : Entry T) → has s below ≡ true → has s (Node k e below beside) ≡ true
  in_below s k below beside e h = or_right (k == s) (has s below || has s beside) (or_left (has s below) (has s beside) h)

  pub in_beside : (s k : ℕ) (below beside : Forest (Entry T)) (e : Entry T) → has s beside ≡ true → has s (Node k e below beside) ≡ true
  in_beside s k below beside e h = or_right (k == s) (has s below || has s beside) (or_right (has s below) (has s beside) h)

  pub in_front : (k : ℕ) (below beside : Forest (Entry T)) (e : Entry T) → has k (Node k e below beside) ≡ true
  in_front k below beside e = or_left (k == k) (has k below || has k beside) (eq-eqb k k refl)

  pub front_is : (k s : ℕ) (below beside : Forest (Entry T)) (e : Entry T) → Some k ≡ Some s → has s (Node k e below beside) ≡ true
  front_is k s below beside e q = let same : k ≡ s = cc in ap (λ (z : ℕ). has z (Node k e below beside)) (sym same) ∙ in_front k below beside e

  -- a slot that has a number isn't one that lacks it
  pub differs : (s k : ℕ) (t : Forest (Entry T)) → has s t ≡ true → has k t ≡ false → s ≢ k
  differs s k t h u e = both_ways (has k t) u (ap (λ (x : ℕ). has x t) (sym e) ∙ h)

  pub frame : (G H : Look T) (parent previous : Option ℕ) (t : Forest (Entry T)) → ((s : ℕ) → has s t ≡ true → H s ≡ G s) → IsLinked G parent previous t → IsLinked H parent previous t
  frame G H parent previous Empty same l = tt
  frame G H parent previous (Node k e below beside) same l = (
    same k (in_front k below beside e) ∙ l.0,
    frame G H (Some k) None below (λ s h. same s (in_below s k below beside e h)) l.1,
    frame G H parent (Some k) beside (λ s h. same s (in_beside s k below beside e h)) l.2,
  )

  -- the first root gets another sibling before it
  pub relink : (G H : Look T) (parent previous new : Option ℕ) (t : Forest (Entry T)) → Once t → IsLinked G parent previous t
      → ((f : ℕ) (m : Linked T) → first t ≡ Some f → G f ≡ Some m → H f ≡ Some (record m { previous = new }))
      → ((s : ℕ) → has s t ≡ true → first t ≢ Some s → H s ≡ G s)
      → IsLinked H parent new t
  relink G H parent previous new Empty o l write same = tt
  relink G H parent previous new (Node k e below beside) o l write same = grind (arith, nat_tests, apart_of, frame, in_below, differs, in_beside)

  pub built_is : (G : Look T) (parent previous : Option ℕ) (t : Forest (Entry T)) (fuel : ℕ) → size t ≤ fuel → IsLinked G parent previous t → built fuel G (first t) ≡ t
  built_is G parent previous Empty zero h l = refl
  built_is G parent previous Empty (suc fuel) h l = refl
  built_is G parent previous (Node k e below beside) zero h l = absurd (omega (arith, h))
  built_is G parent previous (Node k e below beside) (suc fuel) h l = grind (arith, nat_tests, built_is G (Some k) None below fuel, built_is G parent (Some k) beside fuel)

  -- the neighbours of a node stand in the forest without it, or outside of the forest
  pub record Near (parent previous : Option ℕ) (t : Forest (Entry T)) (v : ℕ) (l : Linked T) : Type 0 where
    pub behind : (s : ℕ) → l.next ≡ Some s → has s (removed v t) ≡ true
    pub before : (s : ℕ) → l.previous ≡ Some s → (has s (removed v t) ≡ true) ⊎ ((first t ≡ Some v) × (previous ≡ Some s))
    pub above : (s : ℕ) → l.previous ≡ None → l.parent ≡ Some s → (has s (removed v t) ≡ true) ⊎ ((first t ≡ Some v) × (previous ≡ None) × (parent ≡ Some s))

  pub near : (G : Look T) (parent previous : Option ℕ) (t : Forest (Entry T)) (v : ℕ) (l : Linked T) → Once t → IsLinked G parent previous t → has v t ≡ true → G v ≡ Some l → Near parent previous t v l
  near G parent previous Empty v l o i h g = absurd (cc)
  near G parent previous (Node k e below beside) v l o i h g =
      let apart : Apart k below beside = apart_of k e below beside o in
      elim (where_is v k e below beside o h) [
        | Here same y u w ↦
            let is : l ≡ linked e parent (first below) previous (first beside) =
            let z : G v ≡ Some (linked e parent (first below) previous (first beside)) = rw same at i.0 in cc in
            record {
              behind = λ s n. rw (y, removed_absent v beside w) (has_first s beside (ap (λ (m : Linked T). m.next) (sym is) ∙ n));
              before = λ s n. inr (ap (λ x. Some x) same, ap (λ (m : Linked T). m.previous) (sym is) ∙ n);
              above = λ s m n. inr (ap (λ x. Some x) same, ap (λ (m : Linked T). m.previous) (sym is) ∙ m, ap (λ (m : Linked T). m.parent) (sym is) ∙ n);
            }
        | Below ne y u w ↦
            let r : Near (Some k) None below v l = near G (Some k) None below v l apart.once_below i.1 u g in
            let left : removed v (Node k e below beside) ≡ Node k e (removed v below) beside = rw (y, removed_absent v beside w) refl in
            record {
              behind = λ s n. rw left (in_below s k (removed v below) beside e (r.behind s n));
              before = λ s n. elim (r.before s n) [
                | inl x ↦ inl (rw left (in_below s k (removed v below) beside e x))
                | inr x ↦ absurd (cc x.1)
              ];
              above = λ s m n. elim (r.above s m n) [
                | inl x ↦ inl (rw left (in_below s k (removed v below) beside e x))
                | inr x ↦ inl (rw left (front_is k s (removed v below) beside e x.2))
              ];
            }
        | Beside ne y u w ↦
            let r : Near parent (Some k) beside v l = near G parent (Some k) beside v l apart.once_beside i.2 w g in
            let left : removed v (Node k e below beside) ≡ Node k e below (removed v beside) = rw (y, removed_absent v below u) refl in
            record {
              behind = λ s n. rw left (in_beside s k below (removed v beside) e (r.behind s n));
              before = λ s n. elim (r.before s n) [
                | inl x ↦ inl (rw left (in_beside s k below (removed v beside) e x))
                | inr x ↦ inl (rw left (front_is k s below (removed v beside) e x.1))
              ];
              above = λ s m n. elim (r.above s m n) [
                | inl x ↦ inl (rw left (in_beside s k below (removed v beside) e x))
                | inr x ↦ absurd (cc x.1)
              ];
            }
      ]

  -- the first child of a node in a part of the forest stands in that part
  pub first_inside : (p s : ℕ) (t : Forest (Entry T)) (c : Option ℕ) → Once t → first (children p t) ≡ c → c ≡ Some s → has s t ≡ true
  first_inside p s t c o e q = has_children s p t o (has_first s (children p t) (e ∙ q))

  -- a node is put in front of the children of another one, of which `c` is the first
  pub attach : (G H : Look T) (parent previous : Option ℕ) (p v : ℕ) (e : Entry T) (c : Option ℕ) (sub t : Forest (Entry T)) → Once t → has p t ≡ true → has v t ≡ false
      → IsLinked G parent previous t
      → first (children p t) ≡ c
      → H v ≡ Some (linked e (Some p) (first sub) None c)
      → IsLinked H (Some v) None sub
      → ((m : Linked T) → G p ≡ Some m → H p ≡ Some (record m { first_child = Some v }))
      → ((f : ℕ) (m : Linked T) → c ≡ Some f → G f ≡ Some m → H f ≡ Some (record m { previous = Some v }))
      → ((s : ℕ) → s ≢ v → s ≢ p → c ≢ Some s → H s ≡ G s)
      → IsLinked H parent previous (put p v e sub t)
  attach G H parent previous p v e c sub Empty o h new l fc node subs over next others = absurd (cc)
  attach G H parent previous p v e c sub (Node k d below beside) o h new l fc node subs over next others =
      let apart : Apart k below beside = apart_of k d below beside o in
      let out = or_parts (k == v) (has v below || has v beside) new in
      let outs = or_parts (has v below) (has v beside) out.1 in
      elim (where_is p k d below beside o h) [
        | Here same y u w ↦
            let fb : first below ≡ c = rw y at fc in
            let written : H p ≡ Some (linked d parent (Some v) previous (first beside)) =
            over (linked d parent (first below) previous (first beside)) (rw same at l.0) in
            rw (y, put_absent p v e sub beside w) (
              rw same written,
              (
                rw (same, fb) node,
                subs,
                relink G H (Some k) None (Some v) below apart.once_below l.1
                    (λ f m q g. next f m (sym fb ∙ q) g)
                    (λ s i q. others s (differs s v below i outs.0) (differs s p below i u) (λ z. q (fb ∙ z))),
              ),
              frame G H parent (Some k) beside
                  (λ s i. others s (differs s v beside i outs.1) (differs s p beside i w) (λ z. both_ways (has s beside) (apart.apart s (has_first s below (fb ∙ z))) i))
                  l.2,
            )
        | Below ne y u w ↦
            let fb : first (children p below) ≡ c = rw (y, u) at fc in
            let inside : (s : ℕ) → c ≡ Some s → has s below ≡ true = λ s z. first_inside p s below c apart.once_below fb z in
            rw (y, put_absent p v e sub beside w, first_put p v e sub below) (
              others k (eqb-false k v out.0) ne (λ z. both_ways (has k below) apart.not_below (inside k z)) ∙ l.0,
              attach G H (Some k) None p v e c sub below apart.once_below u outs.0 l.1 fb node subs over next others,
              frame G H parent (Some k) beside
                  (λ s i. others s (differs s v beside i outs.1) (differs s p beside i w) (λ z. both_ways (has s beside) (apart.apart s (inside s z)) i))
                  l.2,
            )
        | Beside ne y u w ↦
            let fb : first (children p beside) ≡ c = rw (y, u) at fc in
            let inside : (s : ℕ) → c ≡ Some s → has s beside ≡ true = λ s z. first_inside p s beside c apart.once_beside fb z in
            rw (y, put_absent p v e sub below u, first_put p v e sub beside) (
              others k (eqb-false k v out.0) ne (λ z. both_ways (has k beside) apart.not_beside (inside k z)) ∙ l.0,
              frame G H (Some k) None below
                  (λ s i. others s (differs s v below i outs.0) (differs s p below i u) (λ z. both_ways (has s below) (apart.apart_back s (inside s z)) i))
                  l.1,
              attach G H parent (Some k) p v e c sub beside apart.once_beside w outs.1 l.2 fb node subs over next others,
            )
      ]

  -- the neighbours of the node at `v` are linked past it, one slot at a time
  pub record Past (G H : Look T) (v : ℕ) (l : Linked T) : Type 0 where
    pub before : (s : ℕ) (m : Linked T) → s ≢ v → l.previous ≡ Some s → l.next ≢ Some s → G s ≡ Some m → H s ≡ Some (record m { next = l.next })
    pub above : (s : ℕ) (m : Linked T) → s ≢ v → l.previous ≡ None → l.parent ≡ Some s → l.next ≢ Some s → G s ≡ Some m → H s ≡ Some (record m { first_child = l.next })
    pub behind : (s : ℕ) (m : Linked T) → s ≢ v → l.next ≡ Some s → l.previous ≢ Some s → (l.previous ≡ None → l.parent ≢ Some s) → G s ≡ Some m → H s ≡ Some (record m { previous = l.previous })
    pub others : (s : ℕ) → s ≢ v → l.previous ≢ Some s → (l.previous ≡ None → l.parent ≢ Some s) → l.next ≢ Some s → H s ≡ G s

  -- what holds of the first node
  pub head_is : (G : Look T) (parent previous : Option ℕ) (t : Forest (Entry T)) (v : ℕ) (l : Linked T) → IsLinked G parent previous t → first t ≡ Some v → G v ≡ Some l → Once t
      → (l.parent ≡ parent) × (l.previous ≡ previous) × (l.next ≡ first (removed v t))
  head_is G parent previous x3 v l i f g o = grind (arith, nat_tests, apart_of, removed_absent)

  pub cases_first : (t : Forest (Entry T)) (v : ℕ) → (first t ≡ Some v) ⊎ (first t ≢ Some v)
  cases_first x0 v = grind (arith, nat_tests)

  -- a slot can't be in a part of the forest and outside of it
  both : (s : ℕ) (t u : Forest (Entry T)) → has s t ≡ true → ((n : ℕ) → has n t ≡ true → has n u ≡ false) → has s u ≡ true → ⊥
  both s t u h apart i = both_ways (has s u) (apart s h) i

  one : (k s : ℕ) (t : Forest (Entry T)) → has k t ≡ false → Some k ≡ Some s → has s t ≡ false
  one k s t h q = let e : k ≡ s = cc in rw e at h

  outside_beside : (s k : ℕ) (e : Entry T) (below beside : Forest (Entry T)) → has s (Node k e below beside) ≡ false → has s beside ≡ false
  outside_beside s k e below beside h = (or_parts (has s below) (has s beside) (or_parts (k == s) (has s below || has s beside) h).1).1

  pub detach : (G H : Look T) (parent previous : Option ℕ) (v : ℕ) (l : Linked T) (t : Forest (Entry T)) → Once t → has v t ≡ true → G v ≡ Some l → Past G H v l
      → ((s : ℕ) → parent ≡ Some s → has s t ≡ false) → ((s : ℕ) → previous ≡ Some s → has s t ≡ false)
      → IsLinked G parent previous t
      → IsLinked H parent previous (removed v t)
  detach G H parent previous v l Empty o h g past outside out i = absurd (cc)
  detach G H parent previous v l (Node k e below beside) o h g past outside out i =
      let apart : Apart k below beside = apart_of k e below beside o in
      elim (where_is v k e below beside o h) [
        | Here same y u w ↦
            let head = head_is G parent previous (Node k e below beside) v l i (ap (λ x. Some x) same) g o in
            let ln : l.next ≡ first beside = rw (y, removed_absent v beside w) at head.2 in
            rw (y, removed_absent v beside w) (
            relink G H parent (Some k) previous beside apart.once_beside i.2
            (λ f m q j.
            let inside : has f beside ≡ true = has_first f beside q in
            past.behind f m (differs f v beside inside w) (ln ∙ q)
            (λ z. both_ways (has f (Node k e below beside)) (out f (sym head.1 ∙ z)) (in_beside f k below beside e inside))
            (λ n z. both_ways (has f (Node k e below beside)) (outside f (sym head.0 ∙ z)) (in_beside f k below beside e inside))
            j
            ∙ ap (λ (x : Option ℕ). Some (record m { previous = x })) head.1)
            (λ s j q. past.others s (differs s v beside j w)
            (λ z. both_ways (has s (Node k e below beside)) (out s (sym head.1 ∙ z)) (in_beside s k below beside e j))
            (λ n z. both_ways (has s (Node k e below beside)) (outside s (sym head.0 ∙ z)) (in_beside s k below beside e j))
            (λ z. q (sym ln ∙ z)))
            )
        | Below ne y u w ↦
            let nr : Near (Some k) None below v l = near G (Some k) None below v l apart.once_below i.1 u g in
            let still : (s : ℕ) → has s (removed v below) ≡ true → has s below ≡ true = λ s z. has_of_removed s v below z in
            let out_of : has k below ≡ true → ⊥ = λ z. both_ways (has k below) apart.not_below z in
            let front : H k ≡ Some (linked e parent (first (removed v below)) previous (first beside)) =
            elim (cases_first below v) [
              | inl f ↦
                  let head = head_is G (Some k) None below v l i.1 f g apart.once_below in
                  past.above k (linked e parent (first below) previous (first beside)) ne head.1 head.0 (λ z. out_of (still k (nr.behind k z))) i.0
                  ∙ ap (λ (x : Option ℕ). Some (linked e parent x previous (first beside))) head.2
              | inr nf ↦
                  rw (first_removed v below nf) (
                  past.others k ne
                  (λ z. elim (nr.before k z) [ inl x ↦ out_of (still k x) | inr x ↦ nf x.0 ])
                  (λ n z. elim (nr.above k n z) [ inl x ↦ out_of (still k x) | inr x ↦ nf x.0 ])
                  (λ z. out_of (still k (nr.behind k z)))
                  ∙ i.0
                  )
            ] in
            rw (y, removed_absent v beside w) (
              front,
              detach G H (Some k) None v l below apart.once_below u g past (λ s z. one k s below apart.not_below z) (λ s z. absurd (cc)) i.1,
              frame G H parent (Some k) beside
                  (λ s j. past.others s (differs s v beside j w)
                  (λ z. elim (nr.before s z) [ inl x ↦ both s below beside (still s x) apart.apart j | inr x ↦ absurd (cc x.1) ])
                  (λ n z. elim (nr.above s n z) [ inl x ↦ both s below beside (still s x) apart.apart j | inr x ↦ both_ways (has s beside) (one k s beside apart.not_beside x.2) j ])
                  (λ z. both s below beside (still s (nr.behind s z)) apart.apart j))
                  i.2,
            )
        | Beside ne y u w ↦
            let nr : Near parent (Some k) beside v l = near G parent (Some k) beside v l apart.once_beside i.2 w g in
            let still : (s : ℕ) → has s (removed v beside) ≡ true → has s beside ≡ true = λ s z. has_of_removed s v beside z in
            let out_of : has k beside ≡ true → ⊥ = λ z. both_ways (has k beside) apart.not_beside z in
            let front : H k ≡ Some (linked e parent (first below) previous (first (removed v beside))) =
            elim (cases_first beside v) [
              | inl f ↦
                  let head = head_is G parent (Some k) beside v l i.2 f g apart.once_beside in
                  past.before k (linked e parent (first below) previous (first beside)) ne head.1 (λ z. out_of (still k (nr.behind k z))) i.0
                  ∙ ap (λ (x : Option ℕ). Some (linked e parent (first below) previous x)) head.2
              | inr nf ↦
                  rw (first_removed v beside nf) (
                  past.others k ne
                  (λ z. elim (nr.before k z) [ inl x ↦ out_of (still k x) | inr x ↦ nf x.0 ])
                  (λ n z. elim (nr.above k n z) [ inl x ↦ out_of (still k x) | inr x ↦ nf x.0 ])
                  (λ z. out_of (still k (nr.behind k z)))
                  ∙ i.0
                  )
            ] in
            rw (y, removed_absent v below u) (
              front,
              frame G H (Some k) None below
                  (λ s j. past.others s (differs s v below j u)
                  (λ z. elim (nr.before s z) [ inl x ↦ both s beside below (still s x) apart.apart_back j | inr x ↦ both_ways (has s below) (one k s below apart.not_below x.1) j ])
                  (λ n z. elim (nr.above s n z) [ inl x ↦ both s beside below (still s x) apart.apart_back j | inr x ↦ absurd (cc x.1) ])
                  (λ z. both s beside below (still s (nr.behind s z)) apart.apart_back j))
                  i.1,
              detach G H parent (Some k) v l beside apart.once_beside w g past (λ s z. outside_beside s k e below beside (outside s z)) (λ s z. one k s beside apart.not_beside z) i.2,
            )
      ]

  pub children_linked : (G : Look T) (parent previous : Option ℕ) (v : ℕ) (t : Forest (Entry T)) → Once t → has v t ≡ true → IsLinked G parent previous t → IsLinked G (Some v) None (children v t)
  children_linked G parent previous v Empty o h i = absurd (cc)
  children_linked G parent previous v (Node k e below beside) o h i = grind (arith, nat_tests, apart_of, where_is, children_linked G (Some k) None v below (apart_of k e below beside o).once_below, children_linked G parent (Some k) v beside (apart_of k e below beside o).once_beside)

  pub child_is : (G : Look T) (parent previous : Option ℕ) (v : ℕ) (l : Linked T) (t : Forest (Entry T)) → Once t → has v t ≡ true → IsLinked G parent previous t → G v ≡ Some l → l.first_child ≡ first (children v t)
  child_is G parent previous v l Empty o h i g = absurd (cc)
  child_is G parent previous v l (Node k e below beside) o h i g = grind (arith, nat_tests, apart_of, where_is, child_is G (Some k) None v l below (apart_of k e below beside o).once_below, child_is G parent (Some k) v l beside (apart_of k e below beside o).once_beside)

  -- a node's data changes
  pub linked_changed : (G H : Look T) (parent previous : Option ℕ) (v : ℕ) (change : Entry T → Entry T) (l new : Linked T) (t : Forest (Entry T)) → Once t → has v t ≡ true → IsLinked G parent previous t
      → G v ≡ Some l → H v ≡ Some new → new ≡ linked (change (entry_of l)) l.parent l.first_child l.previous l.next → ((s : ℕ) → s ≢ v → H s ≡ G s)
      → IsLinked H parent previous (changed v change t)
  linked_changed G H parent previous v change l new Empty o h i g w is others = absurd (cc)
  linked_changed G H parent previous v change l new (Node k e below beside) o h i g w is others =
      let apart : Apart k below beside = apart_of k e below beside o in
      elim (where_is v k e below beside o h) [
        | Here same y u z ↦
            let old : l ≡ linked e parent (first below) previous (first beside) =
            let q : G v ≡ Some (linked e parent (first below) previous (first beside)) = rw same at i.0 in cc in
            let wrote : H v ≡ Some (linked (change e) parent (first below) previous (first beside)) =
            w ∙ ap (λ x. Some x) is ∙ ap (λ (m : Linked T). Some (linked (change (entry_of m)) m.parent m.first_child m.previous m.next)) old in
            rw (y, changed_absent v change below u, changed_absent v change beside z) (
              rw same wrote,
              frame G H (Some k) None below (λ s j. others s (differs s v below j u)) i.1,
              frame G H parent (Some k) beside (λ s j. others s (differs s v beside j z)) i.2,
            )
        | Below ne y u z ↦
            rw (y, first_changed v change below, changed_absent v change beside z) (
              others k ne ∙ i.0,
              linked_changed G H (Some k) None v change l new below apart.once_below u i.1 g w is others,
              frame G H parent (Some k) beside (λ s j. others s (differs s v beside j z)) i.2,
            )
        | Beside ne y u z ↦
            rw (y, first_changed v change beside, changed_absent v change below u) (
              others k ne ∙ i.0,
              frame G H (Some k) None below (λ s j. others s (differs s v below j u)) i.1,
              linked_changed G H parent (Some k) v change l new beside apart.once_beside z i.2 g w is others,
            )
      ]
