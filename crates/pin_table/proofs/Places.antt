-- The place of a buffer's entry in the array, and what a write there or its removal is to the entries.
use Rattle.std.proofs.Common.{◌≡◌, ℕ, suc, zero, ◌<◌, Bool, true, false, cond, nat_eq, List, [], ◌∷◌, length, get_or, set, Option, Some, None, refl, ap, sym, ◌∙◌, arith}
use Rattle.std.specs.Prelude.{position, remove}
use Rattle.std.specs.Ordering.{nat_cmp}
use Rattle.std.specs.BTreeMap.{is_at}
use Rattle.std.specs.Map.{lookup, set_value, remove_entry}
use Rattle.std.proofs.lemmas.Bool.Decides.{nat_tests}
use Rattle.std.proofs.lemmas.List.Sums.{fails_before_first}
use Rattle.std.proofs.lemmas.List.Quantifiers.{position-Some}

module _ (test : ℕ → Bool) where
  abbrev Fails : List (ℕ × ℕ) → ℕ → ℕ × ℕ → Type 0
  Fails es n d = (k : ℕ) → k < n → test (get_or es k d).0 ≡ false

  lookup_here : (es : List (ℕ × ℕ)) (i : ℕ) (d : ℕ × ℕ) → i < length es → test (get_or es i d).0 ≡ true → Fails es i d → lookup test es ≡ Some (get_or es i d).1
  lookup_here [] i d l h b = absurd (omega (arith, l))
  lookup_here (e ∷ es) zero d l h b = ap (λ t. cond t (Some e.1) (lookup test es)) h
  lookup_here (e ∷ es) (suc i) d l h b = ap (λ t. cond t (Some e.1) (lookup test es)) (b zero (omega arith)) ∙ lookup_here es i d (omega (arith, l)) h (λ k m. b (suc k) (omega (arith, m)))

  set_here : (es : List (ℕ × ℕ)) (i : ℕ) (d : ℕ × ℕ) (w : ℕ) → i < length es → test (get_or es i d).0 ≡ true → Fails es i d → set es i ((get_or es i d).0, w) ≡ set_value test es w
  set_here [] i d w l h b = absurd (omega (arith, l))
  set_here (e ∷ es) zero d w l h b = sym (ap (λ t. cond t ((e.0, w) ∷ es) (e ∷ set_value test es w)) h)
  set_here (e ∷ es) (suc i) d w l h b = ap (λ (fs : List (ℕ × ℕ)). e ∷ fs) (set_here es i d w (omega (arith, l)) h (λ k m. b (suc k) (omega (arith, m)))) ∙ sym (ap (λ t. cond t ((e.0, w) ∷ es) (e ∷ set_value test es w)) (b zero (omega arith)))

  remove_here : (es : List (ℕ × ℕ)) (i : ℕ) (d : ℕ × ℕ) → i < length es → test (get_or es i d).0 ≡ true → Fails es i d → remove es i ≡ remove_entry test es
  remove_here [] i d l h b = absurd (omega (arith, l))
  remove_here (e ∷ es) zero d l h b = sym (ap (λ t. cond t es (e ∷ remove_entry test es)) h)
  remove_here (e ∷ es) (suc i) d l h b = ap (λ (fs : List (ℕ × ℕ)). e ∷ fs) (remove_here es i d (omega (arith, l)) h (λ k m. b (suc k) (omega (arith, m)))) ∙ sym (ap (λ t. cond t es (e ∷ remove_entry test es)) (b zero (omega arith)))

  lookup_nowhere : (es : List (ℕ × ℕ)) (d : ℕ × ℕ) → Fails es (length es) d → lookup test es ≡ None
  lookup_nowhere [] d b = refl
  lookup_nowhere (e ∷ es) d b = ap (λ t. cond t (Some e.1) (lookup test es)) (b zero (omega arith)) ∙ lookup_nowhere es d (λ k m. b (suc k) (omega (arith, m)))

  set_nowhere : (es : List (ℕ × ℕ)) (d : ℕ × ℕ) (w : ℕ) → Fails es (length es) d → set_value test es w ≡ es
  set_nowhere [] d w b = refl
  set_nowhere (e ∷ es) d w b = ap (λ t. cond t ((e.0, w) ∷ es) (e ∷ set_value test es w)) (b zero (omega arith)) ∙ ap (λ (fs : List (ℕ × ℕ)). e ∷ fs) (set_nowhere es d w (λ k m. b (suc k) (omega (arith, m))))

  remove_nowhere : (es : List (ℕ × ℕ)) (d : ℕ × ℕ) → Fails es (length es) d → remove_entry test es ≡ es
  remove_nowhere [] d b = refl
  remove_nowhere (e ∷ es) d b = ap (λ t. cond t es (e ∷ remove_entry test es)) (b zero (omega arith)) ∙ ap (λ (fs : List (ℕ × ℕ)). e ∷ fs) (remove_nowhere es d (λ k m. b (suc k) (omega (arith, m))))

-- whether it is the buffer's entry
abbrev pub is_entry : ℕ → ℕ × ℕ → Bool
is_entry buffer entry = nat_eq entry.0 buffer

none_passes : {X : Type 0} (p : X → Bool) (xs : List X) (d : X) → position p xs ≡ None → (k : ℕ) → k < length xs → p (get_or xs k d) ≡ false
none_passes p xs d e k l = grind (arith, nat_tests, fails_before_first)

-- both tests ask for the same buffer
one_test : (buffer k : ℕ) → nat_eq k buffer ≡ is_at (nat_cmp buffer) k
one_test buffer k = grind (arith, nat_tests)

by_key : (buffer : ℕ) (es : List (ℕ × ℕ)) (r : Option ℕ) → r ≡ position (is_entry buffer) es → position (λ (e : ℕ × ℕ). is_at (nat_cmp buffer) e.0) es ≡ r
by_key buffer es r e = ap (λ (p : ℕ × ℕ → Bool). position p es) (λ i x. sym (one_test buffer x.0) i) ∙ sym e

module _ (buffer : ℕ) (es : List (ℕ × ℕ)) (r : Option ℕ) (e : r ≡ position (is_entry buffer) es) where
  abbrev passes : ℕ × ℕ → Bool
  passes x = is_at (nat_cmp buffer) x.0

  pub lookup_placed : (i : ℕ) (d : ℕ × ℕ) → r ≡ Some i → lookup (is_at (nat_cmp buffer)) es ≡ Some (get_or es i d).1
  lookup_placed i d o = let at = position-Some passes es i d (by_key buffer es r e ∙ o) in lookup_here (is_at (nat_cmp buffer)) es i d at.0 at.1 at.2

  pub set_placed : (i : ℕ) (d : ℕ × ℕ) (w : ℕ) → r ≡ Some i → set es i ((get_or es i d).0, w) ≡ set_value (is_at (nat_cmp buffer)) es w
  set_placed i d w o = let at = position-Some passes es i d (by_key buffer es r e ∙ o) in set_here (is_at (nat_cmp buffer)) es i d w at.0 at.1 at.2

  pub remove_placed : (i : ℕ) → r ≡ Some i → remove es i ≡ remove_entry (is_at (nat_cmp buffer)) es
  remove_placed i o = let at = position-Some passes es i (0, 0) (by_key buffer es r e ∙ o) in remove_here (is_at (nat_cmp buffer)) es i (0, 0) at.0 at.1 at.2

  pub lookup_missed : r ≡ None → lookup (is_at (nat_cmp buffer)) es ≡ None
  lookup_missed o = lookup_nowhere (is_at (nat_cmp buffer)) es (0, 0) (none_passes passes es (0, 0) (by_key buffer es r e ∙ o))

  pub set_missed : (w : ℕ) → r ≡ None → set_value (is_at (nat_cmp buffer)) es w ≡ es
  set_missed w o = set_nowhere (is_at (nat_cmp buffer)) es (0, 0) w (none_passes passes es (0, 0) (by_key buffer es r e ∙ o))

  pub remove_missed : r ≡ None → remove_entry (is_at (nat_cmp buffer)) es ≡ es
  remove_missed o = remove_nowhere (is_at (nat_cmp buffer)) es (0, 0) (none_passes passes es (0, 0) (by_key buffer es r e ∙ o))
