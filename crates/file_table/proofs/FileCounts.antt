-- How often files stand in lists.
use Rattle.std.proofs.Common.{◌≡◌, ℕ, suc, zero, ◌+◌, ◌<◌, Bool, true, false, ◌||◌, cond, nat_eq, List, [], ◌∷◌, length, refl, sym, ap, ◌∙◌, arith}
use Rattle.std.specs.Prelude.{◌==◌, count_by}
use Rattle.std.specs.Cmp.{nat_eq_equiv}
use Rattle.std.specs.List.{IsDistinct as AreDistinct, AllByRecursion}
use Rattle.std.specs.Set.{distinct_count}
use Rattle.std.proofs.lemmas.Bool.{eqb-true, eq-eqb}
use Rattle.std.proofs.lemmas.Bool.Decides.{nat_tests}
use Rattle.std.proofs.lemmas.List.Sums.{sum_by-cons}
use Rattle.std.proofs.lemmas.Map.Made.{length-from_keys}
use Rattle.file_table.specs.Descriptors.{is_among, without}
use Rattle.file_table.specs.Files.{IsDistinct}

-- how often a file stands in a list
abbrev pub times : ℕ → List ℕ → ℕ
times f xs = count_by (λ other. f == other) xs

times_cons : (f x : ℕ) (xs : List ℕ) → times f (x ∷ xs) ≡ cond (nat_eq f x) 1 0 + times f xs
times_cons f x xs = sum_by-cons (λ other. cond (nat_eq f other) 1 0) x xs

swapped : (a b : ℕ) → nat_eq a b ≡ nat_eq b a
swapped a b = grind (arith, nat_tests)

-- a file that isn't there
pub times_none : (f : ℕ) (xs : List ℕ) → is_among f xs ≡ false → times f xs ≡ 0
times_none f [] h = refl
times_none f (x ∷ xs) h = grind (arith, nat_tests, times_none f xs, times f xs, times f (x ∷ xs), times_cons f x xs)

-- each of different files stands once
pub times_once : (f : ℕ) (xs : List ℕ) → IsDistinct xs → times f xs ≡ cond (is_among f xs) 1 0
times_once f [] d = refl
times_once f (x ∷ xs) d = grind (arith, nat_tests, times_once f xs d.1, d.1, times f xs, times f (x ∷ xs), times, times_none, d.0, times_cons f x xs)

-- a file is taken out
pub times_without : (f file : ℕ) (xs : List ℕ) → is_among file xs ≡ true → times f (without file xs) + cond (nat_eq file f) 1 0 ≡ times f xs
times_without f file [] h = absurd (cc)
times_without f file (x ∷ xs) h = by_test (times_without f file xs) (nat_eq file x) refl
  where
    by_test : (is_among file xs ≡ true → times f (without file xs) + cond (nat_eq file f) 1 0 ≡ times f xs) → (t : Bool) → nat_eq file x ≡ t → times f (cond t xs (x ∷ without file xs)) + cond (nat_eq file f) 1 0 ≡ times f (x ∷ xs)
    by_test ih true e =
        let same : nat_eq file f ≡ nat_eq f x = ap (λ (k : ℕ). nat_eq k f) (eqb-true file x e) ∙ swapped x f in
        let weight : cond (nat_eq file f) (suc zero) zero ≡ cond (nat_eq f x) (suc zero) zero = ap (λ b. cond b (suc zero) zero) same in
        omega (arith, times_cons f x xs, weight)
    by_test ih false e = omega (arith, ih (sym (ap (λ b. b || is_among file xs) e) ∙ h), times_cons f x (without file xs), times_cons f x xs)

-- a file that stands in a list is one of it
there : (f : ℕ) (xs : List ℕ) → 0 < times f xs → is_among f xs ≡ true
there f xs l = grind (arith, nat_tests, times_none)

length_without : (f : ℕ) (xs : List ℕ) → is_among f xs ≡ true → length (without f xs) + 1 ≡ length xs
length_without f [] h = absurd (cc)
length_without f (x ∷ xs) h = grind (arith, nat_tests, length_without f xs)

-- lists in which each file stands as often are as long
pub alike_length : (xs ys : List ℕ) → ((f : ℕ) → times f ys ≡ times f xs) → length xs ≡ length ys
alike_length [] [] h = refl
alike_length [] (y ∷ ys) h = grind (arith, nat_tests, times_cons y y ys)
alike_length (x ∷ xs) ys h =
    let one : cond (nat_eq x x) (suc zero) zero ≡ suc zero = ap (λ b. cond b (suc zero) zero) (eq-eqb x x refl) in
    let here : is_among x ys ≡ true = there x ys (omega (arith, h x, times_cons x x xs, one)) in
    let rest : length xs ≡ length (without x ys) = alike_length xs (without x ys) (λ f. less f here) in
    omega (arith, rest, length_without x ys here)
  where
    less : (f : ℕ) → is_among x ys ≡ true → times f (without x ys) ≡ times f xs
    less f here =
        let weight : cond (nat_eq x f) (suc zero) zero ≡ cond (nat_eq f x) (suc zero) zero = ap (λ b. cond b (suc zero) zero) (swapped x f) in
        omega (arith, times_without f x ys here, h f, times_cons f x xs, weight)

apart : (x : ℕ) (ys : List ℕ) → is_among x ys ≡ false → AllByRecursion (λ y. nat_eq x y ≡ false) ys
apart x [] h = tt
apart x (y ∷ ys) h = grind (arith, nat_tests, apart x ys)

-- different files are as many as any list of them has
pub distinct : (xs : List ℕ) → IsDistinct xs → AreDistinct nat_eq xs
unfolding AreDistinct
distinct [] d = tt
distinct (x ∷ xs) d = (apart x xs d.0, distinct xs d.1)

pub different_length : (xs files : List ℕ) → IsDistinct xs → ((f : ℕ) → is_among f files ≡ is_among f xs) → length xs ≡ distinct_count nat_eq files
different_length xs files d h = length-from_keys nat_eq_equiv xs files (distinct xs d) (λ q. sym (h q))
