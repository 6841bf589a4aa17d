-- The deepest level and those above it, in the order in which a store keeps them and in that of the session.
use Rattle.session_store.proofs.Words.{◌≡◌, ℕ, zero, suc, ◌+◌, ◌<◌, Some, None, List, [], ◌∷◌, ◌++◌, length, map, refl, sym, ap, ◌∙◌, inl, inr, arith, ◌-◌, ◌==◌, All, drop, reverse, slice_get, cases_Bool, All-pop, option_map, length-append, length-map, length-reverse, reverse-append, Level, level_at, with_deepest, first_of, level_state, levels_of}
use Rattle.session_store.proofs.Lists.{all_at, first_map, first_reverse}
use Rattle.std.proofs.lemmas.Bool.Decides.{nat_tests}

module _ {A : Type 0} where
  -- the last of some, by its place
  pub last_place : (xs : List A) (i : ℕ) (x : A) → length xs ≡ suc i → slice_get xs i ≡ Some x → (outer : List A) × (xs ≡ outer ++ x ∷ [])
  last_place [] i x n e = absurd (cc e)
  last_place (y ∷ []) zero x n e = let same : y ≡ x = cc e in ([], ap (λ (z : A). z ∷ []) same)
  last_place (y ∷ []) (suc i) x n e = absurd (cc e)
  last_place (y ∷ z ∷ xs) zero x n e = absurd (omega (arith, n))
  last_place (y ∷ z ∷ xs) (suc i) x n e =
      let rest = last_place (z ∷ xs) i x (omega (arith, n)) e in
      (y ∷ rest.0, ap (λ (zs : List A). y ∷ zs) rest.1)

  pub place_before : (outer : List A) (x : A) (i : ℕ) → i < length outer → slice_get (outer ++ x ∷ []) i ≡ slice_get outer i
  place_before [] x i l = absurd (omega (arith, l))
  place_before (y ∷ outer) x zero l = refl
  place_before (y ∷ outer) x (suc i) l = place_before outer x i (omega (arith, l))

-- the deepest level changes
pub deepest_with : (change : Level → Level) (outer : List Level) (level : Level) → with_deepest change (outer ++ level ∷ []) ≡ outer ++ change level ∷ []
deepest_with change [] level = refl
deepest_with change (a ∷ []) level = refl
deepest_with change (a ∷ b ∷ outer) level = ap (λ (ls : List Level). a ∷ ls) (deepest_with change (b ∷ outer) level)

-- the session has the deepest first
pub levels_are : (outer : List Level) (level : Level) → levels_of (outer ++ level ∷ []) ≡ level_state level ∷ levels_of outer
levels_are outer level = ap (map level_state) (reverse-append outer (level ∷ []))

pub levels_long : (levels : List Level) → length (levels_of levels) ≡ length levels
levels_long levels = length-map (reverse levels) level_state ∙ length-reverse levels

level_at_place : (levels : List Level) (i : ℕ) → level_at levels (i + 1) ≡ slice_get levels i
level_at_place levels i = grind (arith, nat_tests)

-- the level above the deepest
pub above_is : (outer : List Level) (level : Level) → option_map level_state (level_at (outer ++ level ∷ []) (length (outer ++ level ∷ []) - 1)) ≡ first_of (levels_of outer)
above_is [] level = refl
above_is (y ∷ outer) level =
    let n : length ((y ∷ outer) ++ level ∷ []) - 1 ≡ length outer + 1 = omega (arith, length-append (y ∷ outer) (level ∷ [])) in
    ap (λ (i : ℕ). option_map level_state (level_at ((y ∷ outer) ++ level ∷ []) i)) n
    ∙ ap (option_map level_state) (level_at_place ((y ∷ outer) ++ level ∷ []) (length outer) ∙ place_before (y ∷ outer) level (length outer) (omega arith) ∙ sym (first_reverse y outer))
    ∙ sym (first_map level_state (reverse (y ∷ outer)))

-- the deepest, by its number
pub deepest_is : (levels : List Level) (n : ℕ) (level : Level) → 0 < length levels → n ≡ length levels → level_at levels n ≡ Some level → (outer : List Level) × (levels ≡ outer ++ level ∷ [])
deepest_is levels n level some e is = grind (arith, nat_tests, last_place, level_at_place levels (length levels - 1))

-- what holds of all levels holds of one
pub all_level : (P : Level → Type 0) (levels : List Level) (n : ℕ) (level : Level) → All P levels → level_at levels n ≡ Some level → P level
all_level P levels n level all e =
    elim (cases_Bool (n == 0)) [
      | inl y ↦ absurd (let z : None ≡ Some level = rw y at e in cc z)
      | inr y ↦ all_at P levels (n - 1) level all (rw y at e)
    ]

-- what holds of the deepest and of those above it
pub all_deepest : (P : Level → Type 0) (levels outer : List Level) (level : Level) → levels ≡ outer ++ level ∷ [] → All P levels → All P outer × P level
all_deepest P levels outer level e all = All-pop P levels outer (Some level) e all

-- a list that isn't empty ends
pub ends : (levels : List Level) → 0 < length levels → (outer : List Level) × ((level : Level) × (levels ≡ outer ++ level ∷ []))
ends [] some = absurd (omega (arith, some))
ends (level ∷ []) some = ([], (level, refl))
ends (y ∷ z ∷ levels) some =
    let rest = ends (z ∷ levels) (omega arith) in
    (y ∷ rest.0, (rest.1.0, ap (λ (ls : List Level). y ∷ ls) rest.1.1))

-- the second level of the session
pub above_first : (levels : List Level) → 0 < length levels → first_of (drop 1 (levels_of levels)) ≡ option_map level_state (level_at levels (length levels - 1))
above_first levels some = grind (arith, nat_tests, ends levels some, levels_are, above_is)

pub deepest_new : (change : Level → Level) (levels outer : List Level) (level : Level) (new : List Level) → new ≡ with_deepest change levels → levels ≡ outer ++ level ∷ [] → new ≡ outer ++ change level ∷ []
deepest_new change levels outer level new e is = e ∙ ap (with_deepest change) is ∙ deepest_with change outer level
