-- Lemmas on replayed parents.
use Rattle.std.proofs.Common.{◌≡◌, ℕ, ◌≤◌, true, false, cond, not, List, [], ◌∷◌, length, refl, sym, ◌∙◌, ap, subst, inl, inr, arith}
use Rattle.std.specs.Prelude.{◌==◌, ◌||◌, ◌≢◌, Option, Some, None}
use Rattle.std.proofs.lemmas.Bool.{cases_Bool, eq-eqb, ne_eqb, eqb-true, cond-true, cond-false, or_left}
use Rattle.lifetime_laws.specs.Parents.{Node, above, above_in, is_there, parent_of, placed, without}

-- a number's parent, the parent of that and so on, up to one without a parent
abbrev pub IsLine : List Node → ℕ → List ℕ → Type 0
IsLine nodes n [] = parent_of n nodes ≡ None
IsLine nodes n (parent ∷ line) = (parent_of n nodes ≡ Some parent) × IsLine nodes parent line

-- what is found above a number is that line, where it isn't longer than there are steps
pub above_in-line : (steps nodes : List Node) (n : ℕ) (line : List ℕ) → IsLine nodes n line → length line ≤ length steps → above_in steps nodes n ≡ line
above_in-line [] nodes n [] h l = refl
above_in-line [] nodes n (parent ∷ line) h l = absurd (omega (arith, l))
above_in-line (step ∷ steps) nodes n [] h l =
    let P : Option ℕ → Type 0 = λ o. elim o as (λ _. List ℕ) [ None ↦ [] | Some parent ↦ parent ∷ above_in steps nodes parent ] ≡ [] in
    subst P (sym h) refl
above_in-line (step ∷ steps) nodes n (parent ∷ line) h l =
    let P : Option ℕ → Type 0 = λ o. elim o as (λ _. List ℕ) [ None ↦ [] | Some up ↦ up ∷ above_in steps nodes up ] ≡ parent ∷ line in
    subst P (sym h.0) (ap (λ rest. parent ∷ rest) (above_in-line steps nodes parent line h.1 (omega (arith, l))))

pub above-line : (nodes : List Node) (n : ℕ) (line : List ℕ) → IsLine nodes n line → length line ≤ length nodes → above n nodes ≡ line
above-line nodes n line h l = above_in-line nodes nodes n line h l

-- without a node, it has no parent, and the others have theirs
pub parent_of-without_same : (n : ℕ) (nodes : List Node) → parent_of n (without n nodes) ≡ None
parent_of-without_same n [] = refl
parent_of-without_same n (first ∷ rest) = elim (cases_Bool (first.number == n)) [
  | inl y ↦ ap (parent_of n) (cond-false (not (first.number == n)) (first ∷ without n rest) (without n rest) (ap not y)) ∙ parent_of-without_same n rest
  | inr z ↦
      ap (parent_of n) (cond-true (not (first.number == n)) (first ∷ without n rest) (without n rest) (ap not z))
      ∙ cond-false (first.number == n) first.parent (parent_of n (without n rest)) z ∙ parent_of-without_same n rest
]

pub parent_of-without_other : (m n : ℕ) (nodes : List Node) → m ≢ n → parent_of m (without n nodes) ≡ parent_of m nodes
parent_of-without_other m n [] differ = refl
parent_of-without_other m n (first ∷ rest) differ = elim (cases_Bool (first.number == n)) [
  | inl y ↦
      let z : (first.number == m) ≡ false = ne_eqb first.number m (λ e. differ (sym e ∙ eqb-true first.number n y)) in
      ap (parent_of m) (cond-false (not (first.number == n)) (first ∷ without n rest) (without n rest) (ap not y))
      ∙ parent_of-without_other m n rest differ ∙ sym (cond-false (first.number == m) first.parent (parent_of m rest) z)
  | inr z ↦
      ap (parent_of m) (cond-true (not (first.number == n)) (first ∷ without n rest) (without n rest) (ap not z))
      ∙ ap (λ o. cond (first.number == m) first.parent o) (parent_of-without_other m n rest differ)
]

-- a node that is placed has its new parent, and the others have theirs
pub parent_of-placed_same : (n : ℕ) (parent : Option ℕ) (nodes : List Node) → parent_of n (placed n parent nodes) ≡ parent
parent_of-placed_same n parent nodes = cond-true (n == n) parent (parent_of n (without n nodes)) (eq-eqb n n refl)

pub parent_of-placed_other : (m n : ℕ) (parent : Option ℕ) (nodes : List Node) → m ≢ n → parent_of m (placed n parent nodes) ≡ parent_of m nodes
parent_of-placed_other m n parent nodes differ =
    cond-false (n == m) parent (parent_of m (without n nodes)) (ne_eqb n m (λ e. differ (sym e))) ∙ parent_of-without_other m n nodes differ

-- which numbers are there
pub is_there-placed_same : (n : ℕ) (parent : Option ℕ) (nodes : List Node) → is_there n (placed n parent nodes) ≡ true
is_there-placed_same n parent nodes = or_left (n == n) (is_there n (without n nodes)) (eq-eqb n n refl)

pub is_there-without_same : (n : ℕ) (nodes : List Node) → is_there n (without n nodes) ≡ false
is_there-without_same n [] = refl
is_there-without_same n (first ∷ rest) = elim (cases_Bool (first.number == n)) [
  | inl y ↦ ap (is_there n) (cond-false (not (first.number == n)) (first ∷ without n rest) (without n rest) (ap not y)) ∙ is_there-without_same n rest
  | inr z ↦
      ap (is_there n) (cond-true (not (first.number == n)) (first ∷ without n rest) (without n rest) (ap not z))
      ∙ ap (λ b. b || is_there n (without n rest)) z ∙ is_there-without_same n rest
]

pub is_there-without_other : (m n : ℕ) (nodes : List Node) → m ≢ n → is_there m (without n nodes) ≡ is_there m nodes
is_there-without_other m n [] differ = refl
is_there-without_other m n (first ∷ rest) differ = elim (cases_Bool (first.number == n)) [
  | inl y ↦
      let z : (first.number == m) ≡ false = ne_eqb first.number m (λ e. differ (sym e ∙ eqb-true first.number n y)) in
      ap (is_there m) (cond-false (not (first.number == n)) (first ∷ without n rest) (without n rest) (ap not y))
      ∙ is_there-without_other m n rest differ ∙ sym (ap (λ b. b || is_there m rest) z)
  | inr z ↦
      ap (is_there m) (cond-true (not (first.number == n)) (first ∷ without n rest) (without n rest) (ap not z))
      ∙ ap (λ b. (first.number == m) || b) (is_there-without_other m n rest differ)
]

pub is_there-placed_other : (m n : ℕ) (parent : Option ℕ) (nodes : List Node) → m ≢ n → is_there m (placed n parent nodes) ≡ is_there m nodes
is_there-placed_other m n parent nodes differ =
    ap (λ b. b || is_there m (without n nodes)) (ne_eqb n m (λ e. differ (sym e))) ∙ is_there-without_other m n nodes differ
