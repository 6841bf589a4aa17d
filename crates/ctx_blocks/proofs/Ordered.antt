-- Lemmas on blocks in the order of their numbers, where no two are in one region: that list is the only one that rises
-- and has the same block in each region.
use Rattle.ctx_blocks.proofs.Base.{[], AllByRecursion, AreRising, arith, Block, cases_eq, false, if◌then◌else◌, in_order, IsDistinct, IsFirst, keys_of, length, nat_eq, nat_tests, None, position, position-Some, put_in, refl, Some, sub-one, sum_by, sum_by-cons, swap_remove_entry, values_of, with_block, without_block, ℕ, ◌+◌, ◌==◌, ◌∙◌, ◌∷◌, ◌≡◌, ◌≢◌}
use Rattle.ctx_blocks.proofs.Numbered.{Entries, at_region, rising_above, rising_drop}

-- no two blocks are in one region
abbrev pub AreApart : Entries → Type 0
AreApart [] = Unit {0}
AreApart (e ∷ es) = (at_region e.0 es ≡ None) × AreApart es

none-distinct : (region : ℕ) (es : Entries) → AllByRecursion (λ y. nat_eq region y ≡ false) (keys_of es) → at_region region es ≡ None
none-distinct region [] h = refl
none-distinct region (e ∷ es) h = grind (arith, none-distinct region es h.1)

pub AreApart-distinct : (es : Entries) → IsDistinct nat_eq (keys_of es) → AreApart es
unfolding IsDistinct
AreApart-distinct [] h = tt
AreApart-distinct (e ∷ es) h = (none-distinct e.0 es h.0, AreApart-distinct es h.1)

-- a block among those of other numbers
lookup-put_in : (region : ℕ) (e : ℕ × Block) (xs : Entries) → at_region e.0 xs ≡ None → at_region region (put_in e xs) ≡ (if region == e.0 then Some e.1 else at_region region xs)
lookup-put_in region e [] none = grind arith
lookup-put_in region e (x ∷ xs) none = grind (arith, lookup-put_in region e xs)

length-put_in : (e : ℕ × Block) (xs : Entries) → length (put_in e xs) ≡ length xs + 1
length-put_in e [] = refl
length-put_in e (x ∷ xs) = grind (arith, length-put_in e xs)

sum-put_in : (f : Block → ℕ) (e : ℕ × Block) (xs : Entries) → sum_by f (values_of (put_in e xs)) ≡ f e.1 + sum_by f (values_of xs)
sum-put_in f e [] = omega (arith, sum_by-cons f e.1 [])
sum-put_in f e (x ∷ xs) =
    grind (arith, sum-put_in f e xs, sum_by-cons f x.1 (values_of xs), sum_by-cons f x.1 (values_of (put_in e xs)), sum_by-cons f e.1 (values_of (x ∷ xs)))

-- the order leaves each block in its region, their number and their sums
pub lookup-in_order : (region : ℕ) (es : Entries) → AreApart es → at_region region (in_order es) ≡ at_region region es
lookup-in_order region [] apart = refl
lookup-in_order region (e ∷ es) apart = grind (arith, lookup-put_in region e (in_order es), lookup-in_order e.0 es apart.1, lookup-in_order region es apart.1)

pub length_in_order : (es : Entries) → length (in_order es) ≡ length es
length_in_order [] = refl
length_in_order (e ∷ es) = omega (arith, length-put_in e (in_order es), length_in_order es)

pub sum-in_order : (f : Block → ℕ) (es : Entries) → sum_by f (values_of (in_order es)) ≡ sum_by f (values_of es)
sum-in_order f [] = refl
sum-in_order f (e ∷ es) = omega (arith, sum-put_in f e (in_order es), sum-in_order f es, sum_by-cons f e.1 (values_of es))

-- and no two are in one region still
apart-put_in : (e : ℕ × Block) (xs : Entries) → at_region e.0 xs ≡ None → AreApart xs → AreApart (put_in e xs)
apart-put_in e [] none apart = (refl, tt)
apart-put_in e (x ∷ xs) none apart = grind (arith, apart-put_in e xs, lookup-put_in x.0 e xs)

pub apart-in_order : (es : Entries) → AreApart es → AreApart (in_order es)
apart-in_order [] apart = tt
apart-in_order (e ∷ es) apart = apart-put_in e (in_order es) (lookup-in_order e.0 es apart.1 ∙ apart.0) (apart-in_order es apart.1)

-- a list with a block, and one without
pub lookup-with : (region other : ℕ) (block : Block) (es : Entries) → at_region other (with_block es region block) ≡ (if region == other then Some block else at_region other es)
lookup-with region other block [] = grind arith
lookup-with region other block (e ∷ es) = grind (arith, lookup-with region other block es)

pub apart-with : (region : ℕ) (block : Block) (es : Entries) → AreApart es → AreApart (with_block es region block)
apart-with region block [] apart = grind arith
apart-with region block (e ∷ es) apart = grind (arith, apart-with region block es, lookup-with region e.0 block es)

pub lookup-without : (region other : ℕ) (es : Entries) → AreApart es → at_region other (without_block es region) ≡ (if region == other then None else at_region other es)
lookup-without region other [] apart = grind arith
lookup-without region other (e ∷ es) apart = grind (arith, lookup-without region other es apart.1)

pub apart-without : (region : ℕ) (es : Entries) → AreApart es → AreApart (without_block es region)
apart-without region [] apart = tt
apart-without region (e ∷ es) apart = grind (arith, apart-without region es apart.1, lookup-without region e.0 es apart.1)

-- a block that was taken out of blocks that rise goes back to where it was
put_first : (most : ℕ) (e : ℕ × Block) (xs : Entries) → AreRising (e.1.number + 1) most xs → put_in e xs ≡ e ∷ xs
put_first most e [] h = refl
put_first most e (x ∷ xs) h = grind arith

same_entry : (x y : ℕ × Block) → x.0 ≡ y.0 → x.1 ≡ y.1 → x ≡ y
same_entry x y region block i = (region i, block i)

put_back : (least most : ℕ) (e : ℕ × Block) (ys : Entries) → AreRising least most ys → at_region e.0 ys ≡ Some e.1 → put_in e (without_block ys e.0) ≡ ys
put_back least most e [] h is = absurd (cc)
put_back least most e (y ∷ ys) h is = grind (arith, nat_tests, cases_eq e.0 y.0, same_entry e y, put_first most y ys h.2, rising_above (y.1.number + 1) most e.0 ys e.1 h.2, put_back (y.1.number + 1) most e ys h.2)

-- so the order of blocks is what rises and has them
pub in_order-is : (least most : ℕ) (es ys : Entries) → AreApart es → AreApart ys → AreRising least most ys → ((region : ℕ) → at_region region es ≡ at_region region ys) → in_order es ≡ ys
in_order-is least most [] [] apart_e apart_y rising same = refl
in_order-is least most [] (y ∷ ys) apart_e apart_y rising same = let is = same y.0 in absurd (grind arith)
in_order-is least most (e ∷ es) ys apart_e apart_y rising same = grind (arith, nat_tests, at_region, lookup-without e.0, in_order-is least most es (without_block ys e.0) apart_e.1 (apart-without e.0 ys apart_y) (rising_drop least most e.0 ys rising), apart-without e.0 ys apart_y, rising_drop least most e.0 ys rising, put_back least most e ys rising)

-- the block with the least number is the first one
first-least : (keeper first most : ℕ) (block : Block) (vs : Entries) → at_region keeper vs ≡ Some block → block.number ≡ first → AreRising first most vs → IsFirst keeper first vs
first-least keeper first most block [] is number h = absurd (cc)
first-least keeper first most block (v ∷ vs) is number h = grind (arith, rising_above (v.1.number + 1) most keeper vs block h.2)

pub first-in_order : (keeper first most : ℕ) (es : Entries) → AreApart es → IsFirst keeper first es → AreRising first most (in_order es) → IsFirst keeper first (in_order es)
first-in_order keeper first most [] apart is h = absurd is
first-in_order keeper first most (e ∷ es) apart is h =
    first-least keeper first most e.1 (in_order (e ∷ es)) (lookup-in_order keeper (e ∷ es) apart ∙ grind (arith, is.0)) is.1 h

-- it stays where it is, where another one's place is taken by the last block
pub first-swap_remove : (keeper first region : ℕ) (es : Entries) → region ≢ keeper → IsFirst keeper first es → IsFirst keeper first (swap_remove_entry (λ n. region == n) es)
first-swap_remove keeper first region [] differs is = absurd is
first-swap_remove keeper first region (e ∷ []) differs is = let other : (region == e.0) ≡ false = grind (arith, is.0) in rw other is
first-swap_remove keeper first region (e ∷ x ∷ xs) differs is = grind (arith, nat_tests, position, position-Some, sub-one)
