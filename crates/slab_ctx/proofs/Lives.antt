-- Lemmas on lists of blocks, on the sums over their live chunks, and on blocks by their numbers: what is done to one by its
-- region is done to it by its number.
use Rattle.slab_ctx.proofs.Words.{◌≡◌, ◌≢◌, ℕ, ◌+◌, ◌==◌, List, [], ◌∷◌, length, map, Option, Some, None, sum_by, refl, arith, ◌<◌, lookup, sum_by-cons, with_block, without_block, Block, live_of, numbered_of, AreRising, rising_above, SlabBlock, with_live, without_number, live_in}

abbrev pub Entries : Type 0
Entries = List (ℕ × Block)

-- the block of a region in a list
abbrev pub find : ℕ → Entries → Option Block
find number es = lookup (λ n. number == n) es

-- a block becomes another one, or is given back
pub lives-put : (f : ℕ → ℕ) (number : ℕ) (now b : Block) (es : Entries) → find number es ≡ Some b → sum_by f (map live_of (with_block es number now)) + f b.live ≡ sum_by f (map live_of es) + f now.live
lives-put f number now b [] found = absurd (cc)
lives-put f number now b (e ∷ es) found = grind (arith, lives-put f number now b es, sum_by-cons f e.1.live (map live_of es), sum_by-cons f now.live (map live_of es), sum_by-cons f e.1.live (map live_of (with_block es number now)))

pub lives-drop : (f : ℕ → ℕ) (number : ℕ) (b : Block) (es : Entries) → find number es ≡ Some b → sum_by f (map live_of (without_block es number)) + f b.live ≡ sum_by f (map live_of es)
lives-drop f number b [] found = absurd (cc)
lives-drop f number b (e ∷ es) found = grind (arith, lives-drop f number b es, sum_by-cons f e.1.live (map live_of es), sum_by-cons f e.1.live (map live_of (without_block es number)))

-- how many there are, as a sum
pub ones : (xs : List ℕ) → sum_by (λ x. 1) xs ≡ length xs
ones [] = refl
ones (x ∷ xs) = omega (arith, sum_by-cons (λ (x : ℕ). 1) x xs, ones xs)

-- no block is in another region still
pub alone-put : (number : ℕ) (now : Block) (key : ℕ) → number ≢ key → (es : Entries) → find key es ≡ None → find key (with_block es number now) ≡ None
alone-put number now key differs [] none = grind arith
alone-put number now key differs (e ∷ es) none = grind (arith, alone-put number now key differs es)

pub alone-drop : (number key : ℕ) (es : Entries) → find key es ≡ None → find key (without_block es number) ≡ None
alone-drop number key [] none = grind arith
alone-drop number key (e ∷ es) none = grind (arith, alone-drop number key es)

-- no block behind has a lower number
live_none : (least most number live : ℕ) (es : Entries) → number < least → AreRising least most es → with_live (map numbered_of es) number live ≡ map numbered_of es
live_none least most number live [] less h = refl
live_none least most number live (e ∷ es) less h = grind (arith, live_none (e.1.number + 1) most number live es)

pub numbered_put : (least most region : ℕ) (es : Entries) (old now : Block) → AreRising least most es → find region es ≡ Some old → now.number ≡ old.number → map numbered_of (with_block es region now) ≡ with_live (map numbered_of es) old.number now.live
numbered_put least most region [] old now h is same = absurd (cc)
numbered_put least most region (e ∷ es) old now h is same = grind (arith, rising_above (e.1.number + 1) most region es old h.2, live_none (e.1.number + 1) most old.number now.live es, numbered_put (e.1.number + 1) most region es old now h.2)

drop_none : (least most number : ℕ) (es : Entries) → number < least → AreRising least most es → without_number (map numbered_of es) number ≡ map numbered_of es
drop_none least most number [] less h = refl
drop_none least most number (e ∷ es) less h = grind (arith, drop_none (e.1.number + 1) most number es)

pub numbered_drop : (least most region : ℕ) (es : Entries) (old : Block) → AreRising least most es → find region es ≡ Some old → map numbered_of (without_block es region) ≡ without_number (map numbered_of es) old.number
numbered_drop least most region [] old h is = absurd (cc)
numbered_drop least most region (e ∷ es) old h is = grind (arith, rising_above (e.1.number + 1) most region es old h.2, drop_none (e.1.number + 1) most old.number es, numbered_drop (e.1.number + 1) most region es old h.2)

-- the live chunks of a block, by its number
pub live_is : (least most region : ℕ) (es : Entries) (block : Block) → AreRising least most es → find region es ≡ Some block → live_in (map numbered_of es) block.number ≡ block.live
live_is least most region [] block h is = absurd (cc)
live_is least most region (e ∷ es) block h is = grind (arith, rising_above (e.1.number + 1) most region es block h.2, live_is (e.1.number + 1) most region es block h.2)

-- the sums over their live chunks
pub sums_are : (f : ℕ → ℕ) (es : Entries) → sum_by (λ (b : SlabBlock). f b.live) (map numbered_of es) ≡ sum_by f (map live_of es)
sums_are f [] = refl
sums_are f (e ∷ es) = omega (arith, sum_by-cons (λ (b : SlabBlock). f b.live) (numbered_of e) (map numbered_of es), sum_by-cons f e.1.live (map live_of es), sums_are f es)
