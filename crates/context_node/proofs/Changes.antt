-- Entries of which one changes.
use Rattle.context_node.proofs.Words.{◌≡◌, ◌≢◌, ℕ, true, false, List, map, Some, refl, sym, ap, ◌∙◌, inl, inr, option_map, cases_eq, eq-eqb, ne_eqb, both_ways, Forest, Empty, Node, at, has, Once, changed, Apart, apart_of, has_at, changed_absent, at_changed, at_changed_other, Chunk, has_name, with_changed, Entry, AreFlat, entries}
use Rattle.context_node.proofs.Names.{at_here, at_beside, one_at, below_or_beside}
use Rattle.context_node.proofs.Steps.{entries_same}
use Rattle.std.proofs.lemmas.Bool.Decides.{nat_tests}
use Rattle.std.proofs.Common.{arith}

pub flat_changed : (n : ℕ) (f : Entry → Entry) (t : Forest Entry) → AreFlat t → AreFlat (changed n f t)
flat_changed n f Empty flat = flat
flat_changed n f (Node k e below beside) flat = (ap (changed n f) flat.0, flat_changed n f beside flat.1)

-- the names of the entries stay where the one that changes keeps its own
pub names_changed : (n : ℕ) (e y : Entry) (t : Forest Entry) → at n t ≡ Some e → y.name ≡ e.name → (c : ℕ)
    → option_map (λ (x : Entry). x.name) (at c (changed n (λ _. y) t)) ≡ option_map (λ (x : Entry). x.name) (at c t)
names_changed n e y t h same c = grind (arith, nat_tests, changed, at_changed, at_changed_other)

-- the chunks of the entries then
pub changed_entries : (w : List ℕ) (change : Chunk → Chunk) (f g : Entry → Chunk) (u : Forest Entry) (c : ℕ) (e y : Entry) → Once u → AreFlat u → at c u ≡ Some e → has_name w (f e) ≡ true
    → ((d : ℕ) (x : Entry) → d ≢ c → at d u ≡ Some x → has_name w (f x) ≡ false) → ((d : ℕ) (x : Entry) → d ≢ c → at d u ≡ Some x → g x ≡ f x) → g y ≡ change (f e)
    → map g (entries (changed c (λ _. y) u)) ≡ with_changed w change (map f (entries u))
changed_entries w change f g Empty c e y o flat h named others same now = absurd (cc)
changed_entries w change f g (Node d x below beside) c e y o flat h named others same now =
    let apart : Apart d below beside = apart_of d x below beside o in
    elim (cases_eq d c) [
      | inl alike ↦
          let it : x ≡ e = one_at c x e below beside (ap (λ (i : ℕ). at c (Node i x below beside)) (sym alike) ∙ h) in
          let out : has c beside ≡ false = ap (λ (i : ℕ). has i beside) (sym alike) ∙ apart.not_beside in
          let here : has_name w (f x) ≡ true = ap (λ (z : Entry). has_name w (f z)) it ∙ named in
          let first : g y ≡ change (f x) = now ∙ ap (λ (z : Entry). change (f z)) (sym it) in
          let rest : map g (entries beside) ≡ map f (entries beside) =
          entries_same g f beside apart.once_beside (λ i z q. same i z (λ v. both_ways (has c beside) out (ap (λ (j : ℕ). has j beside) (sym v) ∙ has_at i beside z q)) (at_beside d i x z below beside o q)) in
          rw (eq-eqb d c alike, here, changed_absent c (λ _. y) beside out, first, rest) refl
      | inr ne ↦
          let here : has_name w (f x) ≡ false = others d x ne (at_here d x below beside) in
          let it : g x ≡ f x = same d x ne (at_here d x below beside) in
          let r : at c beside ≡ Some e = below_or_beside d c x e below beside ne h (at c beside ≡ Some e)
          (λ low. let none : at c Empty ≡ Some e = ap (at c) (sym flat.0) ∙ low in absurd (cc)) (λ u high. high) in
          rw (
            ne_eqb d c ne,
            here,
            it,
            changed_entries w change f g beside c e y apart.once_beside flat.1 r named (λ i z v q. others i z v (at_beside d i x z below beside o q)) (λ i z v q. same i z v (at_beside d i x z below beside o q)) now,
          ) refl
    ]
