-- Lemmas on what is left of a list by two tests.
use Rattle.std.proofs.Common.{◌≡◌, ◌≤◌, Bool, true, false, cond, ◌&&◌, List, [], ◌∷◌, length, map, refl, sym, ap, ◌∙◌, arith}
use Rattle.std.specs.List.{filter}
use Rattle.std.proofs.lemmas.List.Elements.{filter_agree}

and_comm : (a b : Bool) → (a && b) ≡ (b && a)
and_comm true true = refl
and_comm true false = refl
and_comm false true = refl
and_comm false false = refl

and_absorb : (a b : Bool) → (b ≡ true → a ≡ true) → (a && b) ≡ b
and_absorb true b h = refl
and_absorb false true h = h refl
and_absorb false false h = refl

module _ {X : Type 0} where
  -- what passes two tests, one after the other
  pub filter_both : (p q : X → Bool) (xs : List X) → filter (λ x. q x && p x) xs ≡ filter p (filter q xs)
  filter_both p q [] = refl
  filter_both p q (x ∷ xs) =
      elim (q x) as (λ b. cond (b && p x) (x ∷ filter (λ y. q y && p y) xs) (filter (λ y. q y && p y) xs) ≡ filter p (cond b (x ∷ filter q xs) (filter q xs))) [
        | true ↦ ap (λ ys. cond (p x) (x ∷ ys) ys) (filter_both p q xs)
        | false ↦ filter_both p q xs
      ]

  -- the order of two tests doesn't matter
  pub filter_comm : (p q : X → Bool) (xs : List X) → filter p (filter q xs) ≡ filter q (filter p xs)
  filter_comm p q xs = sym (filter_both p q xs) ∙ filter_agree (λ x. q x && p x) (λ x. p x && q x) (λ x. and_comm (q x) (p x)) xs ∙ filter_both q p xs

  -- a test that follows from a later one says nothing
  pub filter_absorb : (p q : X → Bool) → ((x : X) → p x ≡ true → q x ≡ true) → (xs : List X) → filter p (filter q xs) ≡ filter p xs
  filter_absorb p q follows xs = sym (filter_both p q xs) ∙ filter_agree (λ x. q x && p x) p (λ x. and_absorb (q x) (p x) (follows x)) xs

  -- a test that all pass leaves the list
  pub filter_all : (p : X → Bool) → ((x : X) → p x ≡ true) → (xs : List X) → filter p xs ≡ xs
  filter_all p passes [] = refl
  filter_all p passes (x ∷ xs) = ap (λ b. cond b (x ∷ filter p xs) (filter p xs)) (passes x) ∙ ap (λ ys. x ∷ ys) (filter_all p passes xs)

  -- what passes is no longer than the list
  pub length-filter_le : (p : X → Bool) (xs : List X) → length (filter p xs) ≤ length xs
  length-filter_le p [] = omega arith
  length-filter_le p (x ∷ xs) = elim (p x) as (λ b. length (cond b (x ∷ filter p xs) (filter p xs)) ≤ length (x ∷ xs)) [ true ↦ omega (arith, length-filter_le p xs) | false ↦ omega (arith, length-filter_le p xs) ]

  -- two functions that agree on what passes
  pub map-filter_agree : {Y : Type 0} (f g : X → Y) (p : X → Bool) → ((x : X) → p x ≡ true → f x ≡ g x) → (xs : List X) → map f (filter p xs) ≡ map g (filter p xs)
  map-filter_agree f g p agree [] = refl
  map-filter_agree {Y} f g p agree (x ∷ xs) = by_test (map-filter_agree f g p agree xs) (p x) refl
    where
      by_test : map f (filter p xs) ≡ map g (filter p xs) → (b : Bool) → p x ≡ b → map f (cond b (x ∷ filter p xs) (filter p xs)) ≡ map g (cond b (x ∷ filter p xs) (filter p xs))
      by_test same true e = ap (λ y. y ∷ map f (filter p xs)) (agree x e) ∙ ap (λ ys. g x ∷ ys) same
      by_test same false e = same
