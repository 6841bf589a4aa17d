-- A script that has a byte too many.
use Rattle.pgs_world.proofs.Base.{◌≡◌, ℕ, zero, suc, ◌+◌, List, [], ◌∷◌, ◌++◌, length, Option, refl, sym, ap, ◌∙◌, arith, prepend_known}
use Rattle.pgs_world.proofs.Words.{HasGiven, most_swept, GivesMore}

pub overlong : (bytes : List ℕ) (left left' : Option (List ℕ)) → HasGiven bytes left left' → length bytes ≡ most_swept + 1 → GivesMore left left'
overlong bytes left left' given long =
    let cut = split most_swept bytes long in
    record { bytes = cut.0; over = cut.1; given = given ∙ ap (λ (z : List ℕ). prepend_known z left') (sym cut.2); full = cut.3 }
  where
    split : (n : ℕ) (xs : List ℕ) → length xs ≡ n + 1 → (front : List ℕ) × (last : ℕ) × (front ++ last ∷ [] ≡ xs) × (length front ≡ n)
    split n [] e = absurd (omega (arith, e))
    split zero (x ∷ []) e = ([], x, refl, refl)
    split zero (x ∷ y ∷ ys) e = absurd (omega (arith, e))
    split (suc n) (x ∷ xs) e = let rest = split n xs (omega (arith, e)) in (x ∷ rest.0, rest.1, ap (λ (z : List ℕ). x ∷ z) rest.2, ap suc rest.3)
