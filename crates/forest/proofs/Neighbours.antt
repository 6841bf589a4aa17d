-- What the links of a node name.
use Rattle.std.proofs.Common.{◌≡◌, ◌⊎◌, ℕ, true, false, Option, Some, None, refl, sym, ap, ◌∙◌, inl, inr, arith}
use Rattle.std.specs.Prelude.{◌==◌, ◌||◌, MatchOption}
use Rattle.std.proofs.lemmas.Bool.{cases_eq, cases_Bool, eq-eqb, ne_eqb, eqb-true, or_parts, or_cases, or_left, or_right, both_ways, false_from_ne_true}
use Rattle.forest.specs.Forest.{Forest, Empty, Node, has, Once, at, first, children, next_of, is_root, parent_of}
use Rattle.forest.specs.Links.{Entry, entry_of, linked, IsLinked, values, slots}
use Rattle.forest.specs.declared.links.Linked.{Linked}
use Rattle.forest.proofs.Trees.{Apart, apart_of, Here, Below, Beside, where_is, at_absent, has_at}
use Rattle.forest.proofs.Linking.{Look, in_below, in_beside, in_front}
use Rattle.forest.proofs.Numbers.{Agree, has_by, has_agreed}
use Rattle.std.proofs.lemmas.Bool.Decides.{nat_tests}

module _ {A : Type 0} where
  pub root_has : (n : ℕ) (t : Forest A) → is_root n t ≡ true → has n t ≡ true
  root_has n Empty h = absurd (cc)
  root_has n (Node k a below beside) h = grind (arith, nat_tests, or_cases, or_left, or_right, root_has n beside)

  pub root_absent : (n : ℕ) (t : Forest A) → has n t ≡ false → is_root n t ≡ false
  root_absent n t h = false_from_ne_true (is_root n t) (λ z. both_ways (has n t) h (root_has n t z))

  pub parent_absent : (n : ℕ) (t : Forest A) → has n t ≡ false → parent_of n t ≡ None
  parent_absent n Empty h = refl
  parent_absent n (Node k a below beside) h = grind (arith, nat_tests, or_parts, root_absent, parent_absent n beside (or_parts (has n below) (has n beside) (or_parts (k == n) (has n below || has n beside) h).1).1)

  pub parent_root : (n : ℕ) (t : Forest A) → Once t → is_root n t ≡ true → parent_of n t ≡ None
  parent_root n Empty o h = refl
  parent_root n (Node k a below beside) o h = grind (arith, nat_tests, apart_of, or_cases, eqb-true, root_absent, root_has, parent_absent, parent_root n beside (apart_of k a below beside o).once_beside)

module _ {T : Type 0} where
  -- the node at a link has this number, or there is neither
  abbrev pub Names : Look T → Option ℕ → Option ℕ → Type 0
  Names look link number = MatchOption link (number ≡ None) (λ s. (l : Linked T) × (look s ≡ Some l) × (number ≡ Some l.number))

  pub names_first : (G : Look T) (parent previous : Option ℕ) (t : Forest (Entry T)) → IsLinked G parent previous t → Names G (first t) (first (values t))
  names_first G parent previous Empty i = refl
  names_first G parent previous (Node k e below beside) i = (linked e parent (first below) previous (first beside), i.0, refl)

  pub node_at : (G : Look T) (parent previous : Option ℕ) (v : ℕ) (t : Forest (Entry T)) → has v t ≡ true → IsLinked G parent previous t → (l : Linked T) × (G v ≡ Some l)
  node_at G parent previous v Empty h i = absurd (cc)
  node_at G parent previous v (Node k e below beside) h i =
      elim (cases_eq k v) [
        | inl same ↦ (linked e parent (first below) previous (first beside), rw same at i.0)
        | inr ne ↦
            let r : (has v below || has v beside) ≡ true = rw (ne_eqb k v ne) at h in
            elim (or_cases (has v below) (has v beside) r) [
              | inl u ↦ node_at G (Some k) None v below u i.1
              | inr u ↦ node_at G parent (Some k) v beside u i.2
            ]
      ]

  -- what a node is, by slots and by numbers
  pub record IsNode (G : Look T) (parent : Option ℕ) (t : Forest (Entry T)) (v n : ℕ) (l : Linked T) : Type 0 where
    pub number : l.number ≡ n
    pub entry : at v t ≡ Some (entry_of l)
    pub child_slot : l.first_child ≡ first (children v t)
    pub child : Names G l.first_child (first (children n (values t)))
    pub next : Names G l.next (next_of n (values t))
    pub root : is_root n (values t) ≡ true → l.parent ≡ parent
    pub up : is_root n (values t) ≡ false → Names G l.parent (parent_of n (values t))
    pub up_has : (s : ℕ) → l.parent ≡ Some s → (has s t ≡ true) ⊎ (parent ≡ Some s)

  pub node_is : (G : Look T) (parent previous : Option ℕ) (v n : ℕ) (l : Linked T) (t : Forest (Entry T)) → Once t → Agree v n t → has v t ≡ true → IsLinked G parent previous t → G v ≡ Some l → IsNode G parent t v n l
  node_is G parent previous v n l Empty o g h i j = absurd (cc)
  node_is G parent previous v n l (Node k e below beside) o g h i j =
      let apart : Apart k below beside = apart_of k e below beside o in
      elim (where_is v k e below beside o h) [
        | Here same y u w ↦
            let num : (e.number == n) ≡ true = sym g.0 ∙ y in
            let is : l ≡ linked e parent (first below) previous (first beside) =
            let z : G v ≡ Some (linked e parent (first below) previous (first beside)) = rw same at i.0 in cc in
            record {
              number = ap (λ (m : Linked T). m.number) is ∙ eqb-true e.number n num;
              entry = rw y (ap (λ (m : Linked T). Some (entry_of m)) (sym is));
              child_slot = rw y (ap (λ (m : Linked T). m.first_child) is);
              child = rw (is, num) (names_first G (Some k) None below i.1);
              next = rw (is, num) (names_first G parent (Some k) beside i.2);
              root = λ z. ap (λ (m : Linked T). m.parent) is;
              up = λ z. absurd (both_ways (e.number == n) (or_parts (e.number == n) (is_root n (values beside)) z).0 num);
              up_has = λ s z. inr (ap (λ (m : Linked T). m.parent) (sym is) ∙ z);
            }
        | Below ne y u w ↦
            let num : (e.number == n) ≡ false = sym g.0 ∙ y in
            let r : IsNode G (Some k) below v n l = node_is G (Some k) None v n l below apart.once_below g.1 u i.1 j in
            let hb : has n (values below) ≡ true = has_agreed (λ s d. d.value) v n below g.1 ∙ u in
            let hs : has n (values beside) ≡ false = has_agreed (λ s d. d.value) v n beside g.2 ∙ w in
            record {
              number = r.number;
              entry = rw (y, r.entry) refl;
              child_slot = rw (y, u) r.child_slot;
              child = rw (num, hb) r.child;
              next = rw (num, hb) r.next;
              root = λ z. absurd (both_ways (is_root n (values beside)) (root_absent n (values beside) hs) (rw num at z));
              up = λ z. elim (cases_Bool (is_root n (values below))) [
                | inl b ↦ rw (b, r.root b) (linked e parent (first below) previous (first beside), i.0, refl)
                | inr b ↦ rw (b, hb) (r.up b)
              ];
              up_has = λ s z. elim (r.up_has s z) [
                | inl x ↦ inl (in_below s k below beside e x)
                | inr x ↦ inl (let q : k ≡ s = cc x in ap (λ (m : ℕ). has m (Node k e below beside)) (sym q) ∙ in_front k below beside e)
              ];
            }
        | Beside ne y u w ↦
            let num : (e.number == n) ≡ false = sym g.0 ∙ y in
            let r : IsNode G parent beside v n l = node_is G parent (Some k) v n l beside apart.once_beside g.2 w i.2 j in
            let hb : has n (values below) ≡ false = has_agreed (λ s d. d.value) v n below g.1 ∙ u in
            record {
              number = r.number;
              entry = rw (y, at_absent v below u, r.entry) refl;
              child_slot = rw (y, u) r.child_slot;
              child = rw (num, hb) r.child;
              next = rw (num, hb) r.next;
              root = λ z. r.root (rw num at z);
              up = λ z. rw (root_absent n (values below) hb, hb) (r.up (rw num at z));
              up_has = λ s z. elim (r.up_has s z) [
                | inl x ↦ inl (in_beside s k below beside e x)
                | inr x ↦ inr x
              ];
            }
      ]

  -- each node lies at its slot
  pub placed_at : (G : Look T) (parent previous : Option ℕ) (s : ℕ) (l : Linked T) (t : Forest (Entry T)) → Once t → Once (values t) → has s t ≡ true → IsLinked G parent previous t → G s ≡ Some l → at l.number (slots t) ≡ Some s
  placed_at G parent previous s l Empty o p h i j = absurd (cc)
  placed_at G parent previous s l (Node k e below beside) o p h i j = grind (arith, nat_tests, apart_of k e below beside o, apart_of e.number e.value (values below) (values beside) p, where_is s k e below beside o h, eq-eqb e.number l.number, placed_at G (Some k) None s l below (apart_of k e below beside o).once_below (apart_of e.number e.value (values below) (values beside) p).once_below, placed_at G parent (Some k) s l beside (apart_of k e below beside o).once_beside (apart_of e.number e.value (values below) (values beside) p).once_beside, has_by, has_at l.number (slots below) s, has_at l.number (slots beside) s, ne_eqb e.number l.number, both_ways (has l.number (values below)), both_ways (has l.number (values beside)), at_absent l.number (slots below))
