-- Lists of numbers that differ, and what is said of each element.
use Rattle.std.proofs.Common.{◌≡◌, ◌≢◌, ℕ, ◌+◌, true, false, List, [], ◌∷◌, ◌++◌, refl, sym, ap, ◌∙◌, append_assoc, arith}
use Rattle.std.specs.List.{flat_map}
use Rattle.std.proofs.lemmas.Bool.{both_ways, or_left, or_right, eq-eqb}
use Rattle.forest.specs.Forest.{Forest, Empty, Node, has, Once}
use Rattle.forest.specs.Walk.{order}
use Rattle.forest.proofs.Trees.{apart_of}
use Rattle.std.proofs.lemmas.Bool.Decides.{nat_tests}

-- each element is so
abbrev pub Each : {X : Type 0} → (X → Type 0) → List X → Type 0
Each P [] = Unit {0}
Each P (x ∷ xs) = P x × Each P xs

-- each number differs from those behind it
abbrev pub Differ : List ℕ → Type 0
Differ [] = Unit {0}
Differ (n ∷ ns) = Each (λ m. m ≢ n) ns × Differ ns

module _ {X : Type 0} where
  pub Each-both : (P : X → Type 0) (xs ys : List X) → Each P xs → Each P ys → Each P (xs ++ ys)
  Each-both P [] ys a b = b
  Each-both P (x ∷ xs) ys a b = (a.0, Each-both P xs ys a.1 b)

  pub Each-more : (P Q : X → Type 0) (xs : List X) → ((x : X) → P x → Q x) → Each P xs → Each Q xs
  Each-more P Q [] f a = tt
  Each-more P Q (x ∷ xs) f a = (f x a.0, Each-more P Q xs f a.1)

module _ {X Y : Type 0} where
  pub flat-append : (f : X → List Y) (xs ys : List X) → flat_map f (xs ++ ys) ≡ flat_map f xs ++ flat_map f ys
  flat-append f [] ys = refl
  flat-append f (x ∷ xs) ys = ap (λ (zs : List Y). f x ++ zs) (flat-append f xs ys) ∙ sym (append_assoc (f x) (flat_map f xs) (flat_map f ys))

  pub flat-same : (f g : X → List Y) (xs : List X) → Each (λ x. f x ≡ g x) xs → flat_map f xs ≡ flat_map g xs
  flat-same f g [] a = refl
  flat-same f g (x ∷ xs) a = rw (a.0, flat-same f g xs a.1) refl

differ_both : (xs ys : List ℕ) → Differ xs → Differ ys → Each (λ n. Each (λ m. m ≢ n) ys) xs → Differ (xs ++ ys)
differ_both [] ys a b c = b
differ_both (x ∷ xs) ys a b c = (Each-both (λ m. m ≢ x) xs ys a.0 c.0, differ_both xs ys a.1 b c.1)

module _ {A : Type 0} where
  -- each number of the walk stands in the forest
  pub order_in : (t : Forest A) → Each (λ n. has n t ≡ true) (order t)
  order_in Empty = tt
  order_in (Node k a below beside) = grind (arith, nat_tests, Each-both, Each-more, order_in below, order_in beside, or_right, or_left, eq-eqb k)

  apart_of_one : (n : ℕ) (t : Forest A) (ns : List ℕ) → has n t ≡ false → Each (λ m. has m t ≡ true) ns → Each (λ m. m ≢ n) ns
  apart_of_one n t [] h a = tt
  apart_of_one n t (m ∷ ns) h a = (λ e. both_ways (has n t) h (rw e at a.0), apart_of_one n t ns h a.1)

  pub order_differ : (t : Forest A) → Once t → Differ (order t)
  order_differ Empty o = tt
  order_differ (Node k a below beside) o = grind (arith, nat_tests, apart_of k a below beside o, differ_both (order below) (k ∷ order beside), order_differ below (apart_of k a below beside o).once_below, order_differ beside (apart_of k a below beside o).once_beside, apart_of_one k beside (order beside) (apart_of k a below beside o).not_beside (order_in beside), apart_of_one, order_in beside, order_in below, Each-more, both_ways)

  pub order_at_differ : (n : ℕ) (t : Forest A) → Once t → has n t ≡ false → Differ (order t ++ n ∷ [])
  order_at_differ n t o h = grind (arith, nat_tests, differ_both (order t) (n ∷ []) (order_differ t o) (tt, tt), order_differ t o, Each-more, both_ways, order_in t)
