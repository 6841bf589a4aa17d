-- Lemmas on hooks in rising order of their words.
use Rattle.std.proofs.Common.{◌≡◌, ◌≢◌, ℕ, ◌+◌, ◌<◌, ◌≤◌, List, [], ◌∷◌, ◌++◌, length, All, refl, sym, arith, true, false, cond, nat_le}
use Rattle.std.specs.List.Sorted.{IsPermutation}
use Rattle.std.proofs.lemmas.List.Elements.{All-nil, All-cons, All-head, All-tail, All-weaker, All-push}
use Rattle.std.proofs.lemmas.List.Sorted.{All-permutation, IsPermutation-refl, IsPermutation-cons, IsPermutation-trans, IsPermutation-middle, IsPermutation-sym}
use Rattle.reset_callbacks.specs.Hook.{Hook, Lacks, AreRising, AreDistinct, with_hook, in_order}
use Rattle.std.proofs.lemmas.Bool.Decides.{nat_tests}

pub length-with_hook : (h : Hook) (xs : List Hook) → length (with_hook h xs) ≡ length xs + 1
length-with_hook h [] = refl
length-with_hook h (x ∷ xs) = grind (arith, length-with_hook h xs)

pub length-in_order : (xs : List Hook) → length (in_order xs) ≡ length xs
length-in_order [] = refl
length-in_order (x ∷ xs) = grind (arith, length-in_order xs, length-with_hook x (in_order xs))

-- hooks of different words may be put in in either order
pub with_hook-swap : (m x : Hook) (xs : List Hook) → m.word < x.word → with_hook m (with_hook x xs) ≡ with_hook x (with_hook m xs)
with_hook-swap m x [] below = grind arith
with_hook-swap m x (n ∷ xs) below = grind (arith, with_hook-swap m x xs below)

front_two : (h x : Hook) (xs : List Hook) → IsPermutation (h ∷ x ∷ xs) (x ∷ h ∷ xs)
front_two h x xs = IsPermutation-sym (x ∷ h ∷ xs) (h ∷ x ∷ xs) (IsPermutation-middle (x ∷ []) h xs)

pub with_hook-permutes : (h : Hook) (xs : List Hook) → IsPermutation (h ∷ xs) (with_hook h xs)
with_hook-permutes h [] = IsPermutation-refl (h ∷ [])
with_hook-permutes h (x ∷ xs) = grind (arith, nat_tests, h.word, x.word, IsPermutation-trans (h ∷ x ∷ xs) (x ∷ h ∷ xs) (x ∷ with_hook h xs) (front_two h x xs) (IsPermutation-cons x (h ∷ xs) (with_hook h xs) (with_hook-permutes h xs)), front_two h x xs, with_hook-permutes h xs)

pub in_order-permutes : (xs : List Hook) → IsPermutation xs (in_order xs)
in_order-permutes [] = IsPermutation-refl []
in_order-permutes (x ∷ xs) = grind (arith, nat_tests, IsPermutation-trans (x ∷ xs) (x ∷ in_order xs) (with_hook x (in_order xs)) (IsPermutation-cons x xs (in_order xs) (in_order-permutes xs)) (with_hook-permutes x (in_order xs)), in_order, in_order xs, in_order-permutes xs, with_hook-permutes x (in_order xs))

pub All-in_order : (P : Hook → Type 0) (xs : List Hook) → All P xs → All P (in_order xs)
All-in_order P xs all = All-permutation P xs (in_order xs) (in_order-permutes xs) all

-- each hook of the first list put into the second, from the back
with_hooks : List Hook → List Hook → List Hook
with_hooks [] ys = ys
with_hooks (x ∷ xs) ys = with_hook x (with_hooks xs ys)

with_hooks-with_hook : (h : Hook) (xs ys : List Hook) → with_hooks (with_hook h xs) ys ≡ with_hook h (with_hooks xs ys)
unfolding with_hooks
with_hooks-with_hook h [] ys = refl
with_hooks-with_hook h (x ∷ xs) ys = grind (arith, with_hooks-with_hook h xs ys, with_hook-swap x h (with_hooks xs ys))

pub Lacks-with_hook : (h : Hook) (xs : List Hook) (word : ℕ) → h.word ≢ word → Lacks xs word → Lacks (with_hook h xs) word
Lacks-with_hook h xs word other lacks =
    All-permutation (λ x. x.word ≢ word) (h ∷ xs) (with_hook h xs) (with_hook-permutes h xs)
    (All-cons (λ x. x.word ≢ word) h xs other lacks)

pub AreDistinct-with_hook : (h : Hook) (xs : List Hook) → Lacks xs h.word → AreDistinct xs → AreDistinct (with_hook h xs)
AreDistinct-with_hook h [] lacks distinct = (lacks, tt)
AreDistinct-with_hook h (x ∷ xs) lacks distinct =
    let other : x.word ≢ h.word = All-head (λ z. z.word ≢ h.word) x xs lacks in
    let rest : Lacks xs h.word = All-tail (λ z. z.word ≢ h.word) x xs lacks in
    elim (nat_le h.word x.word) as (λ b. AreDistinct (cond b (h ∷ x ∷ xs) (x ∷ with_hook h xs))) [
      | true ↦ (lacks, distinct)
      | false ↦ (
        Lacks-with_hook h xs x.word (λ same. other (sym same)) distinct.0,
        AreDistinct-with_hook h xs rest distinct.1,
      )
    ]

pub AreDistinct-in_order : (xs : List Hook) → AreDistinct xs → AreDistinct (in_order xs)
AreDistinct-in_order [] distinct = tt
AreDistinct-in_order (x ∷ xs) distinct =
    AreDistinct-with_hook x (in_order xs) (All-in_order (λ other. other.word ≢ x.word) xs distinct.0)
    (AreDistinct-in_order xs distinct.1)

pub AreDistinct-push : (xs : List Hook) (h : Hook) → Lacks xs h.word → AreDistinct xs → AreDistinct (xs ++ h ∷ [])
AreDistinct-push [] h lacks distinct = (lacks, tt)
AreDistinct-push (x ∷ xs) h lacks distinct =
    let other : x.word ≢ h.word = All-head (λ z. z.word ≢ h.word) x xs lacks in
    let rest : Lacks xs h.word = All-tail (λ z. z.word ≢ h.word) x xs lacks in (
      All-push (λ z. z.word ≢ x.word) xs h distinct.0 (λ same. other (sym same)),
      AreDistinct-push xs h rest distinct.1,
    )

pub AreDistinct-of_rising : (xs : List Hook) → AreRising xs → AreDistinct xs
AreDistinct-of_rising [] rising = tt
AreDistinct-of_rising (x ∷ xs) rising = grind (arith, nat_tests, All-weaker, x.word, rising.0, AreDistinct-of_rising xs rising.1, rising.1)

-- the words never fall
abbrev pub NeverFalls : List Hook → Type 0
NeverFalls [] = Unit {0}
NeverFalls (h ∷ hs) = All (λ other. h.word ≤ other.word) hs × NeverFalls hs

NeverFalls-with_hook : (h : Hook) (xs : List Hook) → NeverFalls xs → NeverFalls (with_hook h xs)
NeverFalls-with_hook h [] never = (All-nil (λ other. h.word ≤ other.word), tt)
NeverFalls-with_hook h (x ∷ xs) never =
    let above : h.word ≤ x.word → All (λ other. h.word ≤ other.word) (x ∷ xs) =
    λ first. All-cons (λ other. h.word ≤ other.word) x xs first
    (All-weaker (λ other. x.word ≤ other.word) (λ other. h.word ≤ other.word) (λ other more. omega arith) xs never.0)
    in
    let behind : x.word < h.word → All (λ other. x.word ≤ other.word) (with_hook h xs) =
    λ first. All-permutation (λ other. x.word ≤ other.word) (h ∷ xs) (with_hook h xs) (with_hook-permutes h xs)
    (All-cons (λ other. x.word ≤ other.word) h xs (omega arith) never.0)
    in
    let rest : NeverFalls (with_hook h xs) = NeverFalls-with_hook h xs never.1 in
    grind (arith, above, behind, rest, never)

pub NeverFalls-in_order : (xs : List Hook) → NeverFalls (in_order xs)
NeverFalls-in_order [] = tt
NeverFalls-in_order (x ∷ xs) = NeverFalls-with_hook x (in_order xs) (NeverFalls-in_order xs)
