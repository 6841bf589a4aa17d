-- Lists from their other end.
use Rattle.session_store.proofs.Words.{◌≡◌, ℕ, zero, suc, ◌<◌, List, [], ◌∷◌, ◌++◌, length, map, All, Some, refl, sym, ap, ◌∙◌, subst, arith, Contains, reverse, slice_get, option_map, length-reverse, map-append, reverse-append, reverse-reverse, All-cons, All-nil, All-contains, All-contains_itself, All-head, All-pop, All-tail, All-weaker, first_of, last_of}
use Rattle.std.proofs.lemmas.Bool.Decides.{nat_tests}

module _ {A : Type 0} where
  -- a list turned round, one element at a time
  pub reverse_more : (x : A) (xs : List A) → reverse (x ∷ xs) ≡ reverse xs ++ x ∷ []
  reverse_more x xs = reverse-append (x ∷ []) xs

  -- what holds of the elements of a list that is turned round
  pub all_reverse : (P : A → Type 0) (xs : List A) → All P (reverse xs) → All P xs
  all_reverse P [] h = h
  all_reverse P (x ∷ xs) h =
      let both = All-pop P (reverse (x ∷ xs)) (reverse xs) (Some x) (reverse_more x xs) h in
      All-cons P x xs both.1 (all_reverse P xs both.0)

  first_before : (xs ys : List A) → 0 < length xs → first_of (xs ++ ys) ≡ first_of xs
  first_before x0 ys some = grind (arith, nat_tests)

  -- the last element, by its place
  pub first_reverse : (x : A) (xs : List A) → first_of (reverse (x ∷ xs)) ≡ slice_get (x ∷ xs) (length xs)
  first_reverse x [] = refl
  first_reverse x (y ∷ xs) =
      let some : 0 < length (reverse (y ∷ xs)) = omega (arith, length-reverse (y ∷ xs)) in
      ap first_of (reverse_more x (y ∷ xs)) ∙ first_before (reverse (y ∷ xs)) (x ∷ []) some ∙ first_reverse y xs

  -- what holds of all holds of one
  pub all_at : (P : A → Type 0) (xs : List A) (i : ℕ) (x : A) → All P xs → slice_get xs i ≡ Some x → P x
  all_at P [] i x h e = absurd (cc e)
  all_at P (y ∷ xs) zero x h e = let same : y ≡ x = cc e in subst P same (All-head P y xs h)
  all_at P (y ∷ xs) (suc i) x h e = all_at P xs i x (All-tail P y xs h) e

  -- what follows of two things that hold of all
  pub all_both : (P Q R : A → Type 0) → ((x : A) → P x → Q x → R x) → (xs : List A) → All P xs → All Q xs → All R xs
  all_both P Q R more x4 p q = grind (arith, nat_tests, All-cons, All-head, All-tail)

  -- what holds of the elements of a list holds of those of a part of it
  pub all_left : (P : A → Type 0) (xs ys : List A) → ((x : A) → Contains ys x → Contains xs x) → All P xs → All P ys
  all_left P xs ys left all = All-weaker (Contains ys) P (λ y here. All-contains P xs y all (left y here)) ys (All-contains_itself ys)

module _ {A B : Type 0} (f : A → B) where
  pub reverse_map : (xs : List A) → reverse (map f xs) ≡ map f (reverse xs)
  reverse_map [] = refl
  reverse_map (x ∷ xs) =
      reverse_more (f x) (map f xs)
      ∙ ap (λ (ys : List B). ys ++ f x ∷ []) (reverse_map xs)
      ∙ sym (map-append f (reverse xs) (x ∷ []))
      ∙ ap (map f) (sym (reverse_more x xs))

  -- what follows of what holds of all that a list is mapped to
  pub all_mapped : (P : B → Type 0) (Q : A → Type 0) → ((x : A) → P (f x) → Q x) → (xs : List A) → All P (map f xs) → All Q xs
  all_mapped P Q more [] h = All-nil Q
  all_mapped P Q more (x ∷ xs) h = All-cons Q x xs (more x (All-head P (f x) (map f xs) h)) (all_mapped P Q more xs (All-tail P (f x) (map f xs) h))

  pub first_map : (xs : List A) → first_of (map f xs) ≡ option_map f (first_of xs)
  first_map x0 = grind (arith, nat_tests)

  -- the last element of a list that is turned round and mapped is the first of the list
  pub last_reverse : (xs : List A) → last_of (map f (reverse xs)) ≡ option_map f (first_of xs)
  last_reverse xs =
      ap first_of (reverse_map (reverse xs) ∙ ap (map f) (reverse-reverse xs)) ∙ first_map xs
