-- Lemmas on blocks by their numbers: what is done to a block by its region is done to it by its number.
use Rattle.ctx_blocks.proofs.Base.{nat_tests, [], AreRising, arith, Block, filter, find, is_other, IsFirst, List, lookup, map, None, Option, put_at, refl, Some, values_of, with_block, without_block, ℕ, ◌++◌, ◌+◌, ◌<◌, ◌==◌, ◌∷◌, ◌≡◌, ◌≤◌}

abbrev pub Entries : Type 0
Entries = List (ℕ × Block)

-- the block of a region
abbrev pub at_region : ℕ → Entries → Option Block
at_region region es = lookup (λ n. region == n) es

-- the least number may be a lower one
rising_below : (least lower most : ℕ) (es : Entries) → lower ≤ least → AreRising least most es → AreRising lower most es
rising_below least lower most [] less h = h
rising_below least lower most (e ∷ es) less h = grind (arith)

-- a block's number is at least the least one
pub rising_above : (least most region : ℕ) (es : Entries) (block : Block) → AreRising least most es → at_region region es ≡ Some block → least ≤ block.number
rising_above least most region [] block h is = absurd (cc)
rising_above least most region (e ∷ es) block h is = grind (arith, rising_above (e.1.number + 1) most region es block h.2)

-- the first block's number is at most the greatest one
pub first_upto : (keeper number most : ℕ) (es : Entries) → IsFirst keeper number es → AreRising number most es → number ≤ most
first_upto keeper number most [] first h = absurd first
first_upto keeper number most (e ∷ es) first h = omega (arith, first.1, h.1)

-- the block of a region is that of its number
pub found_by_number : (least most region : ℕ) (es : Entries) (block : Block) → AreRising least most es → at_region region es ≡ Some block → find (λ x. x.number == block.number) (values_of es) ≡ Some block
found_by_number least most region [] block h is = absurd (cc)
found_by_number least most region (e ∷ es) block h is = grind (arith, nat_tests, rising_above (e.1.number + 1) most region es block h.2, e.1.number, h.2, found_by_number (e.1.number + 1) most region es block h.2)

-- blocks of one number are in one region
pub region_by_number : (least most a b : ℕ) (es : Entries) (first second : Block) → AreRising least most es → at_region a es ≡ Some first → at_region b es ≡ Some second → first.number ≡ second.number → a ≡ b
region_by_number least most a b [] first second h is there same = absurd (cc)
region_by_number least most a b (e ∷ es) first second h is there same = grind (arith, nat_tests, rising_above (e.1.number + 1) most a es first h.2, e.1.number, h.2, rising_above (e.1.number + 1) most b es second h.2, region_by_number (e.1.number + 1) most a b es first second h.2)

-- no block behind has a lower number
put_none : (least most : ℕ) (es : Entries) (block : Block) → block.number < least → AreRising least most es → map (put_at block) (values_of es) ≡ values_of es
put_none least most [] block less h = refl
put_none least most (e ∷ es) block less h = grind (arith, put_none (e.1.number + 1) most es block)

drop_none : (least most : ℕ) (es : Entries) (number : ℕ) → number < least → AreRising least most es → filter (is_other number) (values_of es) ≡ values_of es
drop_none least most [] number less h = refl
drop_none least most (e ∷ es) number less h = grind (arith, drop_none (e.1.number + 1) most es number)

-- a block is another one of its number
pub put_by_number : (least most region : ℕ) (es : Entries) (old new : Block) → AreRising least most es → at_region region es ≡ Some old → new.number ≡ old.number → values_of (with_block es region new) ≡ map (put_at new) (values_of es)
put_by_number least most region [] old new h is same = absurd (cc)
put_by_number least most region (e ∷ es) old new h is same = grind (arith, nat_tests, rising_above (e.1.number + 1) most region es old h.2, e.1.number, h.2, put_none (e.1.number + 1) most es new, put_by_number (e.1.number + 1) most region es old new h.2)

pub rising_put : (least most region : ℕ) (es : Entries) (old new : Block) → AreRising least most es → at_region region es ≡ Some old → new.number ≡ old.number → AreRising least most (with_block es region new)
rising_put least most region [] old new h is same = absurd (cc)
rising_put least most region (e ∷ es) old new h is same = grind (arith, rising_put (e.1.number + 1) most region es old new h.2)

-- a new block is the last one
pub with_last : (region : ℕ) (new : Block) (es : Entries) → at_region region es ≡ None → with_block es region new ≡ es ++ ((region, new) ∷ [])
with_last region new [] is = refl
with_last region new (e ∷ es) is = grind (arith, with_last region new es)

pub add_by_number : (region : ℕ) (new : Block) (es : Entries) → at_region region es ≡ None → values_of (with_block es region new) ≡ values_of es ++ (new ∷ [])
add_by_number region new [] is = refl
add_by_number region new (e ∷ es) is = grind (arith, add_by_number region new es)

pub rising_add : (least most region : ℕ) (new : Block) (es : Entries) → at_region region es ≡ None → least ≤ most + 1 → new.number ≡ most + 1 → AreRising least most es → AreRising least (most + 1) (with_block es region new)
rising_add least most region new [] is low next h = grind (arith)
rising_add least most region new (e ∷ es) is low next h = grind (arith, rising_add (e.1.number + 1) most region new es)

-- a block is there no more
pub drop_by_number : (least most region : ℕ) (es : Entries) (old : Block) → AreRising least most es → at_region region es ≡ Some old → values_of (without_block es region) ≡ filter (is_other old.number) (values_of es)
drop_by_number least most region [] old h is = absurd (cc)
drop_by_number least most region (e ∷ es) old h is = grind (arith, nat_tests, rising_above (e.1.number + 1) most region es old h.2, e.1.number, h.2, drop_none (e.1.number + 1) most es old.number, old.number, drop_by_number (e.1.number + 1) most region es old h.2)

pub rising_drop : (least most region : ℕ) (es : Entries) → AreRising least most es → AreRising least most (without_block es region)
rising_drop least most region [] h = h
rising_drop least most region (e ∷ es) h = grind (arith, rising_below (e.1.number + 1) least most es, rising_drop (e.1.number + 1) most region es h.2)

-- what is put is found by its number; what is put twice or put and taken away is so at once
pub put_found : (new : Block) (xs : List Block) (old : Block) → find (λ x. x.number == new.number) xs ≡ Some old → find (λ x. x.number == new.number) (map (put_at new) xs) ≡ Some new
put_found new [] old is = absurd (cc)
put_found new (x ∷ xs) old is = grind (arith, put_found new xs old)

pub put_twice : (a b : Block) (xs : List Block) → a.number ≡ b.number → map (put_at b) (map (put_at a) xs) ≡ map (put_at b) xs
put_twice a b [] same = refl
put_twice a b (x ∷ xs) same = grind (arith, put_twice a b xs same)

pub put_away : (a : Block) (number : ℕ) (xs : List Block) → a.number ≡ number → filter (is_other number) (map (put_at a) xs) ≡ filter (is_other number) xs
put_away a number [] same = refl
put_away a number (x ∷ xs) same = grind (arith, put_away a number xs same)

-- the last of a list is another one
pub put_behind : (least most : ℕ) (es : Entries) (first last : Block) → most < last.number → last.number ≡ first.number → AreRising least most es → map (put_at last) (values_of es ++ (first ∷ [])) ≡ values_of es ++ (last ∷ [])
put_behind least most [] first last above same h = grind (arith)
put_behind least most (e ∷ es) first last above same h = grind (arith, put_behind (e.1.number + 1) most es first last above same h.2)
