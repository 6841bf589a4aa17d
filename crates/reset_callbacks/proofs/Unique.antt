-- Hooks of different words stand in one order alone.
use Rattle.std.proofs.Common.{◌≡◌, ◌≢◌, ℕ, ◌<◌, ◌≤◌, ◌==◌, zero, suc, if◌then◌else◌, List, [], ◌∷◌, length, map, sum_by, refl, sym, ◌∙◌, ap, arith}
use Rattle.std.specs.List.Sorted.{IsNonDecreasingBy, IsPermutation}
use Rattle.std.proofs.lemmas.Bool.Decides.{nat_tests}
use Rattle.std.proofs.lemmas.List.Elements.{All-cons, All-head, All-tail, All-weaker, All-map, All-from_get_or}
use Rattle.std.proofs.lemmas.List.Sorted.{sum_by-IsPermutation}
use Rattle.std.proofs.lemmas.List.Sums.{sum_by-cons}
use Rattle.reset_callbacks.specs.Hook.{Hook, Lacks, AreDistinct}
use Rattle.reset_callbacks.proofs.InOrder.{NeverFalls}

-- 1 for a hook of this word, and what such a hook has run
has_word : ℕ → Hook → ℕ
has_word word h = if h.word == word then 1 else 0

runs_of : ℕ → Hook → ℕ
runs_of word h = if h.word == word then h.runs else 0

-- what a word's hooks count is 0 where there is none
none_has : (word : ℕ) (hs : List Hook) → Lacks hs word → sum_by (has_word word) hs ≡ 0
unfolding has_word
none_has word [] lacks = refl
none_has word (h ∷ hs) lacks =
    let other : h.word ≢ word = All-head (λ z. z.word ≢ word) h hs lacks in
    let rest = none_has word hs (All-tail (λ z. z.word ≢ word) h hs lacks) in
    let sum = sum_by-cons (has_word word) h hs in
    grind (arith, nat_tests, sum, rest, other)

none_ran : (word : ℕ) (hs : List Hook) → sum_by (has_word word) hs ≡ 0 → sum_by (runs_of word) hs ≡ 0
unfolding has_word runs_of
none_ran word [] none = refl
none_ran word (h ∷ hs) none = grind (arith, nat_tests, sum_by-cons (has_word word) h hs, sum_by-cons (runs_of word) h hs, none_ran word hs)

-- the word at the front of the one list is not below that of the other
not_below : (x y : Hook) (xs ys : List Hook) → NeverFalls (y ∷ ys) → sum_by (has_word x.word) (x ∷ xs) ≡ sum_by (has_word x.word) (y ∷ ys) → y.word ≤ x.word
unfolding has_word
not_below x y xs ys never same =
    let above : x.word < y.word → Lacks (y ∷ ys) x.word = λ less.
    All-cons (λ other. other.word ≢ x.word) y ys (λ equal. omega arith) (All-weaker (λ other. y.word ≤ other.word) (λ other. other.word ≢ x.word) (λ other more equal. omega arith) ys never.0) in
    let none : x.word < y.word → sum_by (has_word x.word) (y ∷ ys) ≡ 0 = λ less. none_has x.word (y ∷ ys) (above less) in
    let sum = sum_by-cons (has_word x.word) x xs in
    grind (arith, nat_tests, sum, none, same)

-- hooks of one word and as many runs are one
same_hook : (x y : Hook) → x.word ≡ y.word → x.runs ≡ y.runs → x ≡ y
same_hook x y word runs = ap (λ (n : ℕ). record { word = n; runs = x.runs }) word ∙ ap (λ (n : ℕ). record { word = y.word; runs = n }) runs

front : (x y : Hook) (xs ys : List Hook) → NeverFalls (x ∷ xs) → NeverFalls (y ∷ ys) → Lacks xs x.word
    → ((f : Hook → ℕ) → sum_by f (x ∷ xs) ≡ sum_by f (y ∷ ys)) → x ≡ y
unfolding has_word runs_of
front x y xs ys never also lacks same =
    let first : y.word ≤ x.word = not_below x y xs ys also (same (has_word x.word)) in
    let second : x.word ≤ y.word = not_below y x ys xs never (sym (same (has_word y.word))) in
    let word : x.word ≡ y.word = omega arith in
    let mine = sum_by-cons (has_word x.word) x xs in
    let theirs = sum_by-cons (has_word x.word) y ys in
    let none : sum_by (has_word x.word) xs ≡ 0 = none_has x.word xs lacks in
    let others : sum_by (has_word x.word) ys ≡ 0 = grind (arith, nat_tests, mine, theirs, none, word, same (has_word x.word)) in
    let own_runs = sum_by-cons (runs_of x.word) x xs in
    let their_runs = sum_by-cons (runs_of x.word) y ys in
    let no_runs : sum_by (runs_of x.word) xs ≡ 0 = none_ran x.word xs none in
    let none_theirs : sum_by (runs_of x.word) ys ≡ 0 = none_ran x.word ys others in
    same_hook x y word (grind (arith, nat_tests, own_runs, their_runs, no_runs, none_theirs, word, same (runs_of x.word)))

same_sums : (xs ys : List Hook) → NeverFalls xs → NeverFalls ys → AreDistinct xs → length xs ≡ length ys
    → ((f : Hook → ℕ) → sum_by f xs ≡ sum_by f ys) → xs ≡ ys
same_sums [] [] never also distinct long same = refl
same_sums [] (y ∷ ys) never also distinct long same = absurd (omega (arith, long))
same_sums (x ∷ xs) [] never also distinct long same = absurd (omega (arith, long))
same_sums (x ∷ xs) (y ∷ ys) never also distinct long same =
    let head : x ≡ y = front x y xs ys never also distinct.0 same in
    let tail : xs ≡ ys = same_sums xs ys never.1 also.1 distinct.1 (omega (arith, long)) (λ f.
    omega (arith, same f, sum_by-cons f x xs, sum_by-cons f y ys, ap f head)) in
    ap (λ (z : Hook). z ∷ xs) head ∙ ap (λ (zs : List Hook). y ∷ zs) tail

-- two lists of the same hooks, of which no two have one word, are the same where the words never fall
pub unique : (xs ys : List Hook) → NeverFalls xs → NeverFalls ys → AreDistinct xs → length xs ≡ length ys → IsPermutation xs ys → xs ≡ ys
unique xs ys never also distinct long moved = grind (arith, nat_tests, same_sums, sum_by-IsPermutation)

-- hooks that were sorted
pub sorted_never_falls : {B : Type 0} (meaning : B → Hook) (xs : List B) → IsNonDecreasingBy (λ b. (meaning b).word) xs → NeverFalls (map meaning xs)
sorted_never_falls meaning [] sorted = tt
sorted_never_falls meaning (x ∷ xs) sorted = (
  All-map (λ other. (meaning x).word ≤ other.word) meaning xs
      (All-from_get_or (λ b. (meaning x).word ≤ (meaning b).word) xs x (λ k below. sorted zero (suc k) x (omega arith) (omega arith))),
  sorted_never_falls meaning xs (λ i j d low below. sorted (suc i) (suc j) d (omega arith) (omega arith)),
)
