-- Pairs of class and key that are not the same.
use Rattle.std.proofs.Common.{◌≡◌, ◌≢◌, ℕ, ◌+◌, Bool, true, false, ◌&&◌, cond, nat_eq, refl, sym, subst, arith}
use Rattle.std.proofs.lemmas.Bool.{eqb-true, eqb-false}
use Rattle.std.specs.Prelude.{Result, Ok, Err, OnOk}
use Rattle.std.specs.declared.cmp.Ordering.{Ordering}
use Rattle.std.specs.declared.cmp.Ordering.TheVariants.{Less, Equal, Greater}
use Rattle.std.specs.Ordering.{nat_cmp, ordering_then, is_eq}
use Rattle.std.specs.FinMap.{nat_cmp-IsAntisymmetric}
use Rattle.std.specs.BTreeMap.{is_at}
use Rattle.pgs_step.specs.declared.ids.KindId.{KindId}
use Rattle.ref_table.specs.References.{pair_cmp}

-- where two comparisons in turn are equal, both are
both_equal : (r s : Ordering) → is_eq (ordering_then r s) ≡ true → (r ≡ Equal) × (s ≡ Equal)
both_equal Less s h = absurd (cc)
both_equal Equal Less h = absurd (cc)
both_equal Equal Equal h = (refl, refl)
both_equal Equal Greater h = absurd (cc)
both_equal Greater s h = absurd (cc)

not_true : (b : Bool) → (b ≡ true → ⊥) → b ≡ false
not_true true h = absurd (h refl)
not_true false h = refl

-- what is not the pair of the class and the key is not at its place
pub apart : (class other : KindId) (key q : ℕ) → (other ≡ class → q ≢ key) → is_at (pair_cmp (class.0, key)) (other.0, q) ≡ false
apart class other key q differs =
    not_true _ (λ h.
    let both : (nat_cmp class.0 other.0 ≡ Equal) × (nat_cmp key q ≡ Equal) = both_equal (nat_cmp class.0 other.0) (nat_cmp key q) h in
    let classes : class.0 ≡ other.0 = nat_cmp-IsAntisymmetric class.0 other.0 both.0 in
    let same : other ≡ class = λ i. record { 0 = sym classes i } in
    differs same (sym (nat_cmp-IsAntisymmetric key q both.1)))

-- a count of one pair that changes by one, as an equation of all counts
pub pair_more : (f g : ℕ → ℕ → ℕ) (class key : ℕ) → g class key ≡ f class key + 1 → ((c : KindId) (k : ℕ) → (c.0 ≡ class → k ≢ key) → g c.0 k ≡ f c.0 k) → (c k : ℕ) → g c k ≡ f c k + cond (nat_eq class c && nat_eq key k) 1 0
pair_more f g class key here others c k = by_class (nat_eq class c) refl (nat_eq key k) refl
  where
    by_class : (t : Bool) → nat_eq class c ≡ t → (u : Bool) → nat_eq key k ≡ u → g c k ≡ f c k + cond (t && u) 1 0
    by_class true e true h = subst (λ (j : ℕ). g c j ≡ f c j + 1) (eqb-true key k h) (subst (λ (a : ℕ). g a key ≡ f a key + 1) (eqb-true class c e) here)
    by_class true e false h = let other : key ≢ k = eqb-false key k h in omega (arith, others (record { 0 = c }) k (λ _ same. other (sym same)))
    by_class false e u h = let other : class ≢ c = eqb-false class c e in omega (arith, others (record { 0 = c }) k (λ same _. other (sym same)))

pub pair_less : (f g : ℕ → ℕ → ℕ) (class key : ℕ) → g class key + 1 ≡ f class key → ((c : KindId) (k : ℕ) → (c.0 ≡ class → k ≢ key) → g c.0 k ≡ f c.0 k) → (c k : ℕ) → g c k + cond (nat_eq class c && nat_eq key k) 1 0 ≡ f c k
pair_less f g class key here others c k = by_class (nat_eq class c) refl (nat_eq key k) refl
  where
    by_class : (t : Bool) → nat_eq class c ≡ t → (u : Bool) → nat_eq key k ≡ u → g c k + cond (t && u) 1 0 ≡ f c k
    by_class true e true h = subst (λ (j : ℕ). g c j + 1 ≡ f c j) (eqb-true key k h) (subst (λ (a : ℕ). g a key + 1 ≡ f a key) (eqb-true class c e) here)
    by_class true e false h = let other : key ≢ k = eqb-false key k h in omega (arith, others (record { 0 = c }) k (λ _ same. other (sym same)))
    by_class false e u h = let other : class ≢ c = eqb-false class c e in omega (arith, others (record { 0 = c }) k (λ same _. other (sym same)))

-- two facts of success give a third
pub on_ok_both : {A E P Q R : Type 0} (r : Result A E) → (P → Q → R) → OnOk r P → OnOk r Q → OnOk r R
on_ok_both {A} {E} {P} {Q} {R} (Ok a) f p q = f p q
on_ok_both {A} {E} {P} {Q} {R} (Err e) f p q = tt
