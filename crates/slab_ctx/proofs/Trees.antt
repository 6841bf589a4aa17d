-- Lemmas on trees of entries.
use Rattle.slab_ctx.proofs.Words.{◌≡◌, ◌≢◌, ℕ, zero, suc, ◌+◌, ◌-◌, ◌*◌, ◌/◌, ◌%◌, ◌<◌, ◌≤◌, Option, Some, None, IfSome, get_or, set, length, ap, ◌∙◌, inl, inr, arith, get_or-set_same, get_or-set_other, cases_eq, cases_lt, Entry, Tree, Leads, IsLesser, node, leaf, IsTree, IsTreeBut}
use Rattle.std.proofs.lemmas.Bool.Decides.{nat_tests}

-- what follows at a value that there may be
pub some_with : {A : Type 0} {P : A → Type 0} (o : Option A) → ((a : A) → o ≡ Some a → P a) → IfSome o P
some_with x0 all = grind (arith, nat_tests)

Leads-refl : (a : Option Entry) → Leads a a
Leads-refl x0 = grind (arith, nat_tests)

pub Leads-trans : (a b c : Option Entry) → Leads a b → Leads b c → Leads a c
Leads-trans x0 x1 x2 x y = grind (arith, nat_tests)

-- the lesser of what was read
pub lesser-read : {a b c x y z : Option Entry} → IsLesser a b c → a ≡ x → b ≡ y → c ≡ z → IsLesser x y z
lesser-read lesser one two three = rw (← one, ← two, ← three) lesser

-- one node is another one
module _ (t u : Tree) (j : ℕ) (best : Option Entry) (items : u.nodes.items ≡ set t.nodes.items j best) where
  pub node-other : (k : ℕ) → k ≢ j → node u k ≡ node t k
  node-other k differs = ap (λ xs. get_or xs k None) items ∙ get_or-set_other t.nodes.items j k best None differs

  pub raised : (i : ℕ) → IsTreeBut t i → length u.nodes.items ≡ length t.nodes.items → u.places ≡ t.places → 2 * j ≤ i → i < 2 * j + 2 → 1 ≤ j → j < t.places → IsLesser (node t (2 * j)) (node t (2 * j + 1)) best → IsTreeBut u j
  raised i tree long places low high some within lesser = grind (arith, get_or-set_same, node-other, cases_eq, tree.lesser)

-- a node stays what it was, so those above it do
pub settled : (t : Tree) (i j : ℕ) → IsTreeBut t i → 2 * j ≤ i → i < 2 * j + 2 → IsLesser (node t (2 * j)) (node t (2 * j + 1)) (node t j) → IsTree t
settled t i j tree low high lesser = grind (arith, cases_eq, tree.lesser)

-- the first node leads all
under : (t : Tree) → IsTree t → (n k : ℕ) → k ≤ n → 1 ≤ k → k < 2 * t.places → Leads (node t 1) (node t k)
under t tree zero k few some within = absurd (omega arith)
under t tree (suc n) k few some within = elim (cases_eq k 1) [
  | inl first ↦ rw first (Leads-refl (node t 1))
  | inr more ↦ grind (arith, tree.lesser (k / 2) (omega arith) (omega arith), under t tree n (k / 2) (omega arith) (omega arith) (omega arith), cases_eq (k % 2) 0, Leads-trans (node t 1) (node t (k / 2)) (node t (2 * (k / 2))) (under t tree n (k / 2) (omega arith) (omega arith) (omega arith)) (tree.lesser (k / 2) (omega arith) (omega arith)).left, Leads-trans (node t 1) (node t (k / 2)) (node t (2 * (k / 2) + 1)) (under t tree n (k / 2) (omega arith) (omega arith) (omega arith)) (tree.lesser (k / 2) (omega arith) (omega arith)).right)
]

pub first_leads : (t : Tree) → IsTree t → (p : ℕ) → p < t.places → Leads (node t 1) (leaf t p)
first_leads t tree p within = under t tree (t.places + p) (t.places + p) (omega arith) (omega arith) (omega arith)

-- each node is that of a place
as_leaf : (t : Tree) → IsTree t → (n k : ℕ) → 1 ≤ k → k < 2 * t.places → 2 * t.places ≤ k + n → (p : ℕ) × (p < t.places) × (leaf t p ≡ node t k)
as_leaf t tree zero k some within many = absurd (omega arith)
as_leaf t tree (suc n) k some within many = elim (cases_lt k t.places) [
  | inl inner ↦ grind (arith, tree.lesser k some inner, as_leaf t tree n (2 * k) (omega arith) (omega arith) (omega arith), as_leaf t tree n (2 * k + 1) (omega arith) (omega arith) (omega arith))
  | inr outer ↦ let e : t.places + (k - t.places) ≡ k = omega arith in (k - t.places, omega arith, ap (node t) e)
]

pub first-there : (t : Tree) → IsTree t → 1 ≤ t.places → IfSome (node t 1) (λ e. (p : ℕ) × (p < t.places) × (leaf t p ≡ Some e))
first-there t tree some = some_with (node t 1) (λ e is. rw is at (as_leaf t tree (2 * t.places) 1 (omega arith) (omega arith) (omega arith)))
