-- Entries without one of them.
use Rattle.context_node.proofs.Words.{◌≡◌, ◌≢◌, ℕ, true, false, List, map, Some, refl, sym, ap, ◌∙◌, inl, inr, ◌==◌, cases_eq, cases_Bool, eq-eqb, ne_eqb, both_ways, Forest, Empty, Node, at, has, Once, children, removed, Apart, apart_of, has_at, removed_absent, at_removed, Chunk, has_name, without, Entry, AreFlat, entries}
use Rattle.context_node.proofs.Names.{at_here, at_beside, one_at, below_or_beside}
use Rattle.context_node.proofs.Steps.{entries_same}
use Rattle.std.proofs.lemmas.Bool.Decides.{nat_tests}
use Rattle.std.proofs.Common.{arith}

pub flat_leaf : (n : ℕ) (t : Forest Entry) → AreFlat t → children n t ≡ Empty
flat_leaf n Empty flat = refl
flat_leaf n (Node k e below beside) flat = grind (arith, nat_tests, flat.0, flat_leaf n beside flat.1, flat.1)

pub flat_removed : (n : ℕ) (t : Forest Entry) → AreFlat t → AreFlat (removed n t)
flat_removed n Empty flat = flat
flat_removed n (Node k e below beside) flat =
    elim (cases_Bool (k == n)) [
      | inl y ↦ rw y (flat_removed n beside flat.1)
      | inr out ↦ rw out (ap (removed n) flat.0, flat_removed n beside flat.1)
    ]

-- a number that was taken out is gone
pub removed_gone : {A : Type 0} (n : ℕ) (t : Forest A) → has n (removed n t) ≡ false
removed_gone n Empty = refl
removed_gone n (Node k a below beside) = grind (arith, nat_tests, removed_gone n beside, removed_gone n below)

pub other_than_removed : {A : Type 0} (m n : ℕ) (t : Forest A) → has m (removed n t) ≡ true → m ≢ n
other_than_removed m n t h same = both_ways (has m (removed n t)) (ap (λ (i : ℕ). has i (removed n t)) same ∙ removed_gone n t) h

pub left_at : (m n : ℕ) (e : Entry) (t : Forest Entry) → Once t → AreFlat t → at m (removed n t) ≡ Some e → (m ≢ n) × (at m t ≡ Some e)
left_at m n e t o flat h = grind (arith, nat_tests, other_than_removed m n t (has_at m (removed n t) e h), has_at m (removed n t) e h, removed n t, at_removed, flat_leaf n t flat)

pub still_at : (m n : ℕ) (e : Entry) (t : Forest Entry) → Once t → AreFlat t → m ≢ n → at m t ≡ Some e → at m (removed n t) ≡ Some e
still_at m n e t o flat ne h = at_removed m n t o ne (flat_leaf n t flat) ∙ h

-- the chunks of the entries that are left
pub without_entries : (w : List ℕ) (f g : Entry → Chunk) (u : Forest Entry) (c : ℕ) (e : Entry) → Once u → AreFlat u → at c u ≡ Some e → has_name w (f e) ≡ true
    → ((d : ℕ) (x : Entry) → d ≢ c → at d u ≡ Some x → has_name w (f x) ≡ false) → ((d : ℕ) (x : Entry) → d ≢ c → at d u ≡ Some x → g x ≡ f x)
    → map g (entries (removed c u)) ≡ without w (map f (entries u))
without_entries w f g Empty c e o flat h named others same = absurd (cc)
without_entries w f g (Node d x below beside) c e o flat h named others same =
    let apart : Apart d below beside = apart_of d x below beside o in
    elim (cases_eq d c) [
      | inl alike ↦
          let it : x ≡ e = one_at c x e below beside (ap (λ (i : ℕ). at c (Node i x below beside)) (sym alike) ∙ h) in
          let out : has c beside ≡ false = ap (λ (i : ℕ). has i beside) (sym alike) ∙ apart.not_beside in
          let here : has_name w (f x) ≡ true = ap (λ (y : Entry). has_name w (f y)) it ∙ named in
          rw (eq-eqb d c alike, here, removed_absent c beside out)
          (entries_same g f beside apart.once_beside (λ i y q. same i y (λ z. both_ways (has c beside) out (ap (λ (j : ℕ). has j beside) (sym z) ∙ has_at i beside y q)) (at_beside d i x y below beside o q)))
      | inr ne ↦
          let here : has_name w (f x) ≡ false = others d x ne (at_here d x below beside) in
          let it : g x ≡ f x = same d x ne (at_here d x below beside) in
          let r : at c beside ≡ Some e = below_or_beside d c x e below beside ne h (at c beside ≡ Some e)
          (λ low. let none : at c Empty ≡ Some e = ap (at c) (sym flat.0) ∙ low in absurd (cc)) (λ u high. high) in
          rw (
            ne_eqb d c ne,
            here,
            it,
            without_entries w f g beside c e apart.once_beside flat.1 r named (λ i y z q. others i y z (at_beside d i x y below beside o q)) (λ i y z q. same i y z (at_beside d i x y below beside o q)),
          ) refl
    ]
