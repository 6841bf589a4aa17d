-- The lines of the script that is made, one by one.
use Rattle.pgs_turns.proofs.Base.{◌≡◌, ℕ, zero, suc, ◌+◌, ◌-◌, ◌*◌, ◌/◌, ◌%◌, ◌<◌, ◌≤◌, Bool, true, false, List, [], ◌∷◌, ◌++◌, length, refl, ◌∙◌, ap, arith, length-append, nat_lt, slice_get, nat_tests}
use Rattle.pgs_turns.proofs.Words.{made_lines, made_script}

pub made_length : (n : ℕ) → length (made_script n) ≡ 13 * n
unfolding made_script
made_length zero = refl
made_length (suc n) = omega (arith, length-append (made_script n) (made_lines (n + 1)), made_length n)

-- what stands in the front of two lists, and behind it
get_front : {A : Type 0} (xs ys : List A) (k : ℕ) → k < length xs → slice_get (xs ++ ys) k ≡ slice_get xs k
get_front [] ys k less = absurd (omega (arith, less))
get_front (x ∷ xs) ys zero less = refl
get_front (x ∷ xs) ys (suc k) less = get_front xs ys k (omega (arith, less))

get_behind : {A : Type 0} (xs ys : List A) (k : ℕ) → slice_get (xs ++ ys) (length xs + k) ≡ slice_get ys k
get_behind [] ys k = let same : 0 + k ≡ k = omega arith in ap (λ (n : ℕ). slice_get ys n) same
get_behind (x ∷ xs) ys k = grind (arith, nat_tests, get_behind xs ys k)

-- the line at a place of the script is that of its round
pub made_at : (n place : ℕ) → place < 13 * n → slice_get (made_script n) place ≡ slice_get (made_lines (place / 13 + 1)) (place % 13)
unfolding made_script
made_at zero place less = absurd (omega (arith, less))
made_at (suc n) place less = by_test (made_at n place) (nat_lt place (13 * n)) refl
  where
    by_test : (place < 13 * n → slice_get (made_script n) place ≡ slice_get (made_lines (place / 13 + 1)) (place % 13)) → (b : Bool) → nat_lt place (13 * n) ≡ b → slice_get (made_script n ++ made_lines (n + 1)) place ≡ slice_get (made_lines (place / 13 + 1)) (place % 13)
    by_test earlier true e =
        let before : place < 13 * n = grind (arith, nat_tests, e) in
        get_front (made_script n) (made_lines (n + 1)) place (omega (arith, before, made_length n)) ∙ earlier before
    by_test earlier false e =
        let past : 13 * n ≤ place = grind (arith, nat_tests, e) in
        let k : ℕ = place - 13 * n in
        let at : place ≡ length (made_script n) + k = omega (arith, past, made_length n) in
        let round : n + 1 ≡ place / 13 + 1 = omega (arith, past, less) in
        let line : k ≡ place % 13 = omega (arith, past, less) in
        ap (λ (j : ℕ). slice_get (made_script n ++ made_lines (n + 1)) j) at ∙ get_behind (made_script n) (made_lines (n + 1)) k
        ∙ ap (λ (r : ℕ). slice_get (made_lines r) k) round ∙ ap (λ (j : ℕ). slice_get (made_lines (place / 13 + 1)) j) line
