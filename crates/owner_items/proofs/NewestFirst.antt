-- The newest item that passes a test, found in the list from the newest on.
use Rattle.std.proofs.Common.{◌≡◌, ℕ, zero, suc, Bool, true, false, List, [], ◌∷◌, ◌++◌, reverse, get_or, find, Some, None, refl, arith}
use Rattle.std.specs.List.{remove}
use Rattle.std.proofs.lemmas.Grind.{reverse_onto}
use Rattle.std.proofs.lemmas.List.{append-nil}
use Rattle.pgs_step.specs.declared.ids.Item.{Item}
use Rattle.owner_items.specs.ItemList.{without_newest}
use Rattle.owner_items.specs.Newest.{IsNewest, NonePasses}
use Rattle.std.proofs.lemmas.Bool.Decides.{nat_tests}

pub find-append_some : (test : Item → Bool) (xs ys : List Item) (x : Item) → find test xs ≡ Some x → find test (xs ++ ys) ≡ Some x
find-append_some test [] ys x found = absurd cc
find-append_some test (z ∷ zs) ys x found = grind (arith, find-append_some test zs ys x, found)

pub find-append_none : (test : Item → Bool) (xs ys : List Item) → find test xs ≡ None → find test (xs ++ ys) ≡ find test ys
find-append_none test [] ys none = refl
find-append_none test (z ∷ zs) ys none = grind (arith, find-append_none test zs ys, none)

pub without-append_some : (test : Item → Bool) (xs ys : List Item) (x : Item) → find test xs ≡ Some x → without_newest test (xs ++ ys) ≡ without_newest test xs ++ ys
without-append_some test [] ys x found = absurd cc
without-append_some test (z ∷ zs) ys x found = grind (arith, without-append_some test zs ys x, found)

pub without-append_none : (test : Item → Bool) (xs ys : List Item) → find test xs ≡ None → without_newest test (xs ++ ys) ≡ xs ++ without_newest test ys
without-append_none test [] ys none = refl
without-append_none test (z ∷ zs) ys none = grind (arith, without-append_none test zs ys, none)

reverse-front : (x : Item) (xs : List Item) → reverse (x ∷ xs) ≡ reverse xs ++ x ∷ []
reverse-front x xs = reverse_onto xs x []

pub find_none : (test : Item → Bool) (xs : List Item) → NonePasses test xs → find test (reverse xs) ≡ None
find_none test [] none = refl
find_none test (x ∷ xs) none =
    let rest : find test (reverse xs) ≡ None = find_none test xs (λ k d within. none (suc k) d (omega arith)) in
    let fails : test x ≡ false = none 0 x (omega arith) in
    rw (reverse-front x xs, find-append_none test (reverse xs) (x ∷ []) rest) (grind (arith, fails))

pub without_none : (test : Item → Bool) (xs : List Item) → find test xs ≡ None → without_newest test xs ≡ xs
without_none test [] none = refl
without_none test (x ∷ xs) none = grind (arith, without_none test xs, none)

newest_of_rest :
    (test : Item → Bool) (y : Item) (ys : List Item) (place : ℕ) → IsNewest test (y ∷ ys) (suc place) → IsNewest test ys place
newest_of_rest test y ys place newest =
    record {
      within = omega (arith, newest.within);
      passes = newest.passes;
      later = λ k d after within. newest.later (suc k) d (omega arith) (omega arith);
    }

pub find_newest :
    (test : Item → Bool) (xs : List Item) (place : ℕ) (x : Item) → IsNewest test xs place → x ≡ get_or xs place x →
    find test (reverse xs) ≡ Some x
find_newest test [] place x newest is = absurd (omega (arith, newest.within))
find_newest test (y ∷ ys) zero x newest is =
    let rest : find test (reverse ys) ≡ None = find_none test ys (λ k d within. newest.later (suc k) d (omega arith) (omega arith)) in
    let passes : test y ≡ true = newest.passes x in
    rw (reverse-front y ys, find-append_none test (reverse ys) (y ∷ []) rest) (grind (arith, passes, is))
find_newest test (y ∷ ys) (suc place) x newest is = grind (arith, nat_tests, reverse-front, find-append_some, newest_of_rest, find_newest test ys place x (newest_of_rest test y ys place newest) is)

pub without_newest_is :
    (test : Item → Bool) (xs : List Item) (place : ℕ) (x : Item) → IsNewest test xs place → x ≡ get_or xs place x →
    without_newest test (reverse xs) ≡ reverse (remove xs place)
without_newest_is test [] place x newest is = absurd (omega (arith, newest.within))
without_newest_is test (y ∷ ys) zero x newest is =
    let rest : find test (reverse ys) ≡ None = find_none test ys (λ k d within. newest.later (suc k) d (omega arith) (omega arith)) in
    let passes : test y ≡ true = newest.passes x in
    let gone : without_newest test (y ∷ []) ≡ [] = grind (arith, passes) in
    rw (reverse-front y ys, without-append_none test (reverse ys) (y ∷ []) rest, gone) (append-nil (reverse ys))
without_newest_is test (y ∷ ys) (suc place) x newest is = grind (arith, nat_tests, newest_of_rest test y ys place newest, reverse-front y ys, reverse-front y (remove ys place), without-append_some test (reverse ys) (y ∷ []) x (find_newest test ys place x (newest_of_rest test y ys place newest) is), find_newest test ys place x (newest_of_rest test y ys place newest) is, without_newest_is test ys place x (newest_of_rest test y ys place newest) is)
