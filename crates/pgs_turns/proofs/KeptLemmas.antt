-- The lines of a script that is kept whole, one by one.
use Rattle.pgs_turns.proofs.Base.{◌≡◌, ℕ, zero, suc, ◌+◌, ◌<◌, ◌≤◌, min, Bool, true, false, List, [], ◌∷◌, length, take, drop, Some, sym, ◌∙◌, ap, arith, length-drop, ⊎_elim, ◌==◌, nat_lt, slice_get, if◌then◌else◌, cases_lt, nat_tests, take_all}
use Rattle.pgs_turns.proofs.Words.{IsKept, lines_of, newline, onto_first}

-- no more lines than bytes
onto : (b : ℕ) (lines : List (List ℕ)) (n : ℕ) → length lines ≤ n → length (onto_first b lines) ≤ suc n
onto b x1 n few = grind (arith, nat_tests)

pub few_lines_of : (bytes : List ℕ) → length (lines_of bytes) ≤ length bytes
few_lines_of [] = omega arith
few_lines_of (b ∷ bs) = by_test (few_lines_of bs) (b == newline)
  where
    by_test : length (lines_of bs) ≤ length bs → (t : Bool) → length (if t then [] ∷ lines_of bs else onto_first b (lines_of bs)) ≤ suc (length bs)
    by_test few true = omega (arith, few)
    by_test few false = onto b (lines_of bs) (length bs) few

-- the first bytes of a line, as many of 512 as it has
pub kept_front : (line : List ℕ) (n : ℕ) → n ≡ min (length line) 512 → take n line ≡ take 512 line
kept_front line n is =
    ⊎_elim (λ h. let all : n ≡ 512 = omega (arith, is, h) in ap (λ (k : ℕ). take k line) all) (λ h. take_all n line (omega (arith, is, h)) ∙ sym (take_all 512 line (omega (arith, h)))) (cases_lt 512 (length line))

-- the first of what stands behind a place stands there
pub next_there : {A : Type 0} (xs ys : List A) (k : ℕ) (x : A) → drop k xs ≡ x ∷ ys → slice_get xs k ≡ Some x
next_there [] ys zero x e = absurd (cc e)
next_there [] ys (suc k) x e = absurd (cc e)
next_there (z ∷ zs) ys zero x e = let same : z ≡ x = cc e in cc same
next_there (z ∷ zs) ys (suc k) x e = next_there zs ys k x e

dropped : {A : Type 0} (xs ys : List A) (k : ℕ) (x : A) → drop k xs ≡ x ∷ ys → drop (suc k) xs ≡ ys
dropped [] ys zero x e = absurd (cc e)
dropped [] ys (suc k) x e = absurd (cc e)
dropped (z ∷ zs) ys zero x e = cc e
dropped (z ∷ zs) ys (suc k) x e = dropped zs ys k x e

pub next_dropped : {A : Type 0} (xs ys : List A) (k : ℕ) (x : A) → drop k xs ≡ x ∷ ys → drop (k + 1) xs ≡ ys
next_dropped {A = A} xs ys k x e = let next : k + 1 ≡ suc k = omega arith in ap (λ (n : ℕ). drop n xs) next ∙ dropped xs ys k x e

-- where no bytes are left, all lines stand before the place
pub all_before : (bytes rest : List ℕ) (k : ℕ) → drop k (lines_of bytes) ≡ lines_of rest → length rest ≡ 0 → k ≤ length (lines_of bytes) → k ≡ length (lines_of bytes)
all_before bytes [] k e none within = omega (arith, length-drop k (lines_of bytes), ap length e, within)
all_before bytes (b ∷ rest) k e none within = absurd (omega (arith, none))

-- where another line stands behind it, there are more lines
pub one_before : (bytes rest : List ℕ) (line : List ℕ) (k : ℕ) → drop k (lines_of bytes) ≡ line ∷ lines_of rest → k < length (lines_of bytes)
one_before bytes rest line k e = omega (arith, length-drop k (lines_of bytes), ap length e)

-- a line, its front, and whether it has more
pub kept_line : (line kept : List ℕ) (long : Bool) → kept ≡ take 512 line → long ≡ nat_lt 512 (length line) → IsKept line kept long
kept_line line kept x2 front is = grind (arith, nat_tests)
