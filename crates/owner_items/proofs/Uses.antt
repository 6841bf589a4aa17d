-- How often a kind and key stand among the items, through the calls.
use Rattle.std.proofs.Common.{◌≡◌, ℕ, ◌+◌, Bool, not, cond, List, [], ◌∷◌, filter, Some, refl, arith, find}
use Rattle.std.specs.List.{count_by}
use Rattle.std.proofs.lemmas.List.Sums.{sum_by-cons}
use Rattle.pgs_step.specs.declared.ids.Item.{Item}
use Rattle.owner_items.specs.ItemList.{without_newest}
use Rattle.owner_items.specs.Next.{with_item, by_rank}
use Rattle.std.proofs.lemmas.Bool.Decides.{nat_tests}

count-cons : (p : Item → Bool) (x : Item) (xs : List Item) → count_by p (x ∷ xs) ≡ cond (p x) 1 0 + count_by p xs
count-cons p x xs = sum_by-cons (λ z. cond (p z) 1 0) x xs

-- an item that is found and taken out, and those that stay
pub count-without :
    (p test : Item → Bool) (items : List Item) (item : Item) → find test items ≡ Some item →
    count_by p items ≡ cond (p item) 1 0 + count_by p (without_newest test items)
count-without p test [] item found = absurd cc
count-without p test (x ∷ xs) item found = grind (arith, nat_tests, count-cons, count-without p test xs item)

count-with_item : (p : Item → Bool) (rank : Item → ℕ) (x : Item) (xs : List Item) → count_by p (with_item rank x xs) ≡ cond (p x) 1 0 + count_by p xs
count-with_item p rank x [] = count-cons p x []
count-with_item p rank x (y ∷ ys) = grind (arith, nat_tests, count-with_item p rank x ys, count-cons p y ys, count-cons p x (y ∷ ys), count-cons p y (with_item rank x ys))

-- what a phase releases and what it leaves are all items
pub count-parts :
    (p test : Item → Bool) (rank : Item → ℕ) (items : List Item) →
    count_by p items ≡ count_by p (by_rank rank (filter test items)) + count_by p (filter (λ x. not (test x)) items)
count-parts p test rank [] = refl
count-parts p test rank (x ∷ xs) = grind (arith, nat_tests, not, count-cons, count-with_item, count-parts p test rank xs)
