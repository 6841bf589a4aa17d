-- Forests of which nodes go, and what is said of each.
use Rattle.context_tree.proofs.Base.{◌≡◌, ◌≢◌, ℕ, true, false, List, [], ◌++◌, refl, sym, ap, ◌∙◌, inl, inr, append_assoc, ◌==◌, ◌||◌, cases_Bool, eq-eqb, ne_eqb, eqb-true, or_parts, both_ways, nat_tests, arith}
use Rattle.context_tree.proofs.Words.{Forest, Empty, Node, has, Once, at, children, removed, with_children, subtree, lead, Apart, apart_of, at_some, removed_absent, has_children, lead_of_node, once_children, children_in, children_removed, at_children}

module _ {A : Type 0} where
  -- a node that one part of the forest lacks is another one
  differs : (m k : ℕ) (t : Forest A) → has m t ≡ true → has k t ≡ false → m ≢ k
  differs m k t h u e = both_ways (has k t) u (ap (λ (x : ℕ). has x t) (sym e) ∙ h)

  -- what stands of a node whose children go
  pub at_with : (n : ℕ) (new t : Forest A) → at n (with_children n new t) ≡ at n t
  at_with n new Empty = refl
  at_with n new (Node k a below beside) = grind (arith, nat_tests, at_with n new below, at_with n new beside)

  pub bare_with : (n : ℕ) (t : Forest A) → children n (with_children n Empty t) ≡ Empty
  bare_with n Empty = refl
  bare_with n (Node k a below beside) = grind (arith, nat_tests, bare_with n below, bare_with n beside)

  pub removed_with : (n : ℕ) (new t : Forest A) → removed n (with_children n new t) ≡ removed n t
  removed_with n new Empty = refl
  removed_with n new (Node k a below beside) = grind (arith, nat_tests, removed_with n new beside, removed_with n new below)

  with_absent : (n : ℕ) (new t : Forest A) → has n t ≡ false → with_children n new t ≡ t
  with_absent n new Empty h = refl
  with_absent n new (Node k a below beside) h =
      let p = or_parts (k == n) (has n below || has n beside) h in
      let q = or_parts (has n below) (has n beside) p.1 in
      rw (p.0, with_absent n new below q.0, with_absent n new beside q.1) refl

  -- a node that has no children
  pub with_bare : (n : ℕ) (t : Forest A) → Once t → children n t ≡ Empty → with_children n Empty t ≡ t
  with_bare n Empty o e = refl
  with_bare n (Node k a below beside) o e =
      let apart : Apart k below beside = apart_of k a below beside o in
      elim (cases_Bool (k == n)) [
        | inl y ↦
            let out : has n beside ≡ false = rw (eqb-true k n y) at apart.not_beside in
            let none : below ≡ Empty = rw y at e in
            rw (y, with_absent n Empty beside out, none) refl
        | inr y ↦ elim (cases_Bool (has n below)) [
          | inl u ↦
              let none : children n below ≡ Empty = rw (y, u) at e in
              rw (y, with_absent n Empty beside (apart.apart n u), with_bare n below apart.once_below none) refl
          | inr u ↦
              let none : children n beside ≡ Empty = rw (y, u) at e in
              rw (y, with_absent n Empty below u, with_bare n beside apart.once_beside none) refl
        ]
      ]

  -- one of them went before
  pub with_removed : (m n : ℕ) (new t : Forest A) → Once t → has m (children n t) ≡ true → with_children n new (removed m t) ≡ with_children n new t
  with_removed m n new Empty o h = refl
  with_removed m n new (Node k a below beside) o h =
      let apart : Apart k below beside = apart_of k a below beside o in
      elim (cases_Bool (k == n)) [
        | inl y ↦
            let u : has m below ≡ true = rw y at h in
            let ne : k ≢ m = λ z. differs m k below u apart.not_below (sym z) in
            rw (ne_eqb k m ne, removed_absent m beside (apart.apart m u), y) refl
        | inr y ↦ elim (cases_Bool (has n below)) [
          | inl v ↦
              let u : has m (children n below) ≡ true = rw (y, v) at h in
              let w : has m below ≡ true = has_children m n below apart.once_below u in
              let ne : k ≢ m = λ z. differs m k below w apart.not_below (sym z) in
              rw (ne_eqb k m ne, removed_absent m beside (apart.apart m w), y, with_removed m n new below apart.once_below u) refl
          | inr v ↦
              let u : has m (children n beside) ≡ true = rw (y, v) at h in
              let w : has m beside ≡ true = has_children m n beside apart.once_beside u in
              let ne : k ≢ m = λ z. differs m k beside w apart.not_beside (sym z) in
              rw (ne_eqb k m ne, removed_absent m below (apart.apart_back m w), y, with_removed m n new beside apart.once_beside u) refl
        ]
      ]

  -- what is below a node, as a part of what is below another one
  pub subtree_in : (m n : ℕ) (t : Forest A) → Once t → has m (children n t) ≡ true → subtree m (children n t) ≡ subtree m t
  subtree_in m n t o h = grind (arith, nat_tests, at_children, at m t, children_in)

  subtree_lower : (n k : ℕ) (a : A) (below beside : Forest A) → k ≢ n → has n below ≡ true → subtree n (Node k a below beside) ≡ subtree n below
  subtree_lower n k a below beside ne h = grind (arith, nat_tests, at_some n below h, at, at n below)

  subtree_here : (k : ℕ) (a : A) (beside : Forest A) → subtree k (Node k a Empty beside) ≡ Node k a Empty Empty
  subtree_here k a beside = grind (arith, nat_tests, at)

module _ {A B : Type 0} (said : ℕ → A → List B) where
  -- what is said of the nodes of a forest, of each behind all that is below it
  abbrev pub told : Forest A → List B
  told Empty = []
  told (Node n a below beside) = told below ++ (said n a ++ told beside)

  -- the first one comes first
  pub told_lead : (up : ℕ) (t : Forest A) → Once t → has (lead up t) t ≡ true → told t ≡ told (subtree (lead up t) t) ++ told (removed (lead up t) t)
  told_lead up Empty o h = absurd (cc)
  told_lead up (Node k a Empty beside) o h =
      let apart : Apart k Empty beside = apart_of k a Empty beside o in
      let t : Forest A = Node k a Empty beside in
      let rest : removed k t ≡ beside = rw (eq-eqb k k refl) (removed_absent k beside apart.not_beside) in
      sym (append_assoc (said k a) [] (told beside))
      ∙ ap (λ (x : Forest A). told x ++ told beside) (sym (subtree_here k a beside))
      ∙ ap (λ (x : Forest A). told (subtree k t) ++ told x) (sym rest)
  told_lead up (Node k a (Node m b low next) beside) o h =
      let below : Forest A = Node m b low next in
      let apart : Apart k below beside = apart_of k a below beside o in
      let n = lead k below in
      let i : has n below ≡ true = lead_of_node k m b low next in
      let ne : k ≢ n = λ z. differs n k below i apart.not_below (sym z) in
      let w : has n beside ≡ false = apart.apart n i in
      let r : removed n (Node k a below beside) ≡ Node k a (removed n below) beside = rw (ne_eqb k n ne, removed_absent n beside w) refl in
      let sub : subtree n (Node k a below beside) ≡ subtree n below = subtree_lower n k a below beside ne i in
      ap (λ (xs : List B). xs ++ (said k a ++ told beside)) (told_lead k (Node m b low next) apart.once_below i)
      ∙ append_assoc (told (subtree n below)) (told (removed n below)) (said k a ++ told beside)
      ∙ ap (λ (x : Forest A). told x ++ told (Node k a (removed n below) beside)) (sym sub)
      ∙ ap (λ (x : Forest A). told (subtree n (Node k a below beside)) ++ told x) (sym r)

  -- of what is below a node
  pub told_first : (n m : ℕ) (t : Forest A) → Once t → m ≡ lead n (children n t) → has m (children n t) ≡ true → told (children n t) ≡ told (subtree m t) ++ told (children n (removed m t))
  told_first n m t o e h = grind (arith, nat_tests, children n t, told_lead n (children n t) (once_children n t o) (ap (λ (x : ℕ). has x (children n t)) (sym e) ∙ h), subtree_in m n t o h, children_removed m n t o h)
