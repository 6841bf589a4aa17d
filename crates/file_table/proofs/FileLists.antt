-- Lists of files.
use Rattle.std.proofs.Common.{◌≡◌, ℕ, zero, suc, ◌+◌, ◌≤◌, true, false, List, [], ◌∷◌, ◌++◌, length, take, refl, arith}
use Rattle.std.specs.Prelude.{◌==◌}
use Rattle.std.proofs.lemmas.Bool.Decides.{nat_tests}
use Rattle.file_table.specs.Descriptors.{is_among, without}
use Rattle.file_table.specs.Files.{IsDistinct}

pub among_without : (g f : ℕ) (xs : List ℕ) → is_among g (without f xs) ≡ true → is_among g xs ≡ true
among_without g f [] h = h
among_without g f (x ∷ xs) h = grind (arith, nat_tests, among_without g f xs)

pub not_among_without : (g f : ℕ) (xs : List ℕ) → is_among g xs ≡ false → is_among g (without f xs) ≡ false
not_among_without g f [] h = h
not_among_without g f (x ∷ xs) h = grind (arith, nat_tests, not_among_without g f xs)

pub without_itself : (f : ℕ) (xs : List ℕ) → IsDistinct xs → is_among f (without f xs) ≡ false
without_itself f [] d = refl
without_itself f (x ∷ xs) d = grind (arith, nat_tests, without_itself f xs d.1, d.0)

pub kept_without : (g f : ℕ) (xs : List ℕ) → is_among g xs ≡ true → (f == g) ≡ false → is_among g (without f xs) ≡ true
kept_without g f [] h n = h
kept_without g f (x ∷ xs) h n = grind (arith, nat_tests, kept_without g f xs)

pub distinct_without : (f : ℕ) (xs : List ℕ) → IsDistinct xs → IsDistinct (without f xs)
distinct_without f [] d = tt
distinct_without f (x ∷ xs) d = grind (arith, nat_tests, distinct_without f xs d.1, not_among_without x f xs d.0)

pub length-without : (f : ℕ) (xs : List ℕ) → length (without f xs) ≤ length xs
length-without f [] = omega arith
length-without f (x ∷ xs) = grind (arith, nat_tests, length-without f xs)

pub length-without_among : (f : ℕ) (xs : List ℕ) → is_among f xs ≡ true → length (without f xs) + 1 ≡ length xs
length-without_among f [] h = absurd (cc)
length-without_among f (x ∷ xs) h = grind (arith, nat_tests, length-without_among f xs)

pub among_take : (g n : ℕ) (xs : List ℕ) → is_among g (take n xs) ≡ true → is_among g xs ≡ true
among_take g zero xs h = absurd (cc)
among_take g (suc n) [] h = h
among_take g (suc n) (x ∷ xs) h = grind (arith, nat_tests, among_take g n xs)

pub not_among_take : (g n : ℕ) (xs : List ℕ) → is_among g xs ≡ false → is_among g (take n xs) ≡ false
not_among_take g zero xs h = refl
not_among_take g (suc n) [] h = h
not_among_take g (suc n) (x ∷ xs) h = grind (arith, nat_tests, not_among_take g n xs)

pub distinct_take : (n : ℕ) (xs : List ℕ) → IsDistinct xs → IsDistinct (take n xs)
distinct_take zero xs d = tt
distinct_take (suc n) [] d = tt
distinct_take (suc n) (x ∷ xs) d = (not_among_take x n xs d.0, distinct_take n xs d.1)

pub among_push : (g f : ℕ) (xs : List ℕ) → is_among g xs ≡ true → is_among g (xs ++ f ∷ []) ≡ true
among_push g f [] h = absurd (cc)
among_push g f (x ∷ xs) h = grind (arith, nat_tests, among_push g f xs)

pub pushed_among : (f : ℕ) (xs : List ℕ) → is_among f (xs ++ f ∷ []) ≡ true
pushed_among f [] = grind (arith, nat_tests)
pushed_among f (x ∷ xs) = grind (arith, nat_tests, pushed_among f xs)

pub not_among_push : (g f : ℕ) (xs : List ℕ) → is_among g xs ≡ false → (g == f) ≡ false → is_among g (xs ++ f ∷ []) ≡ false
not_among_push g f [] h n = grind (arith, nat_tests)
not_among_push g f (x ∷ xs) h n = grind (arith, nat_tests, not_among_push g f xs)

pub distinct_push : (f : ℕ) (xs : List ℕ) → IsDistinct xs → is_among f xs ≡ false → IsDistinct (xs ++ f ∷ [])
distinct_push f [] d h = (refl, tt)
distinct_push f (x ∷ xs) d h =
    let other : (x == f) ≡ false = grind (arith, nat_tests) in
    let behind : is_among f xs ≡ false = grind (arith, nat_tests) in
    (not_among_push x f xs d.0 other, distinct_push f xs d.1 behind)

pub without_missing : (f : ℕ) (xs : List ℕ) → is_among f xs ≡ false → without f xs ≡ xs
without_missing f [] none = refl
without_missing f (x ∷ xs) none = grind (arith, nat_tests, without_missing f xs)
