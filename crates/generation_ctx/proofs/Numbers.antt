-- The numbers of blocks, and the ledger by them, once a block was put, added or given back.
use Rattle.generation_ctx.proofs.Words.{◌≡◌, ◌≢◌, ℕ, ◌≤◌, ◌==◌, Bool, if◌then◌else◌, filter, Option, Some, None, unwrap_or, option_map, refl, ap, sym, ◌∙◌, arith, find, values_of, Addr, one_value, Layout, block_at, chunk_at, Chunk, AreRising, is_other, PutsBlock, DropsBlock, SameContext, Block, drop_other, number_is, number_put, found_by_number, put_by_number, drop_by_number, rising_put, rising_drop, region_by_number, no_block, block_in, put, given, is_spare, number_of, ledger_of, AreNumbered, IsSpare, IsKept, Books}
use Rattle.std.proofs.lemmas.Bool.Decides.{nat_tests}

-- a block that is there, by the ledger
pub found_number : (b : Books) (region : ℕ) (block : Block) → AreNumbered b.blocks → block_at b.blocks region ≡ Some block → find (λ x. x.number == block.number) (ledger_of b).blocks ≡ Some block
found_number b region block numbered is = found_by_number 1 b.blocks.last_number region b.blocks.blocks block numbered.rising is

pub block_is : (b : Books) (region : ℕ) (block : Block) → AreNumbered b.blocks → block_at b.blocks region ≡ Some block → block_in (ledger_of b) (number_of b.blocks region) ≡ block
block_is b region block numbered is = ap (block_in (ledger_of b)) (number_is b.blocks region block is) ∙ ap (λ (o : Option Block). unwrap_or o no_block) (found_number b region block numbered is)

-- blocks of one number are in one region
pub one_region : (l : Layout) (a b : ℕ) (first second : Block) → AreNumbered l → block_at l a ≡ Some first → block_at l b ≡ Some second → number_of l a ≡ number_of l b → a ≡ b
one_region l a b first second numbered is there same = grind (arith, nat_tests, region_by_number 1 l.last_number a b l.blocks first second numbered.rising is there (sym (number_is l a first is) ∙ same ∙ number_is l b second there), l.last_number, l.blocks, numbered.rising, number_is l a first is, number_is l b second there)

-- blocks are numbered, where they rise and the keeper keeps its number
pub numbered_by : (l m : Layout) → AreNumbered l → SameContext l m → l.last_number ≤ m.last_number → AreRising 1 m.last_number m.blocks → number_of m l.keeper ≡ number_of l l.keeper → AreNumbered m
numbered_by l m numbered kept last rising keeper = grind (arith, nat_tests, kept.first_number, numbered.first, numbered.some, number_of m, kept.keeper, numbered.keeper)

-- the number of the spare stays where that of its region does
pub spare_numbers : (l m : Layout) (current : ℕ) (spare : Option ℕ) → IsSpare l current spare → ((r : ℕ) (block : Block) → block_at l r ≡ Some block → spare ≡ Some r → number_of m r ≡ number_of l r) → option_map (number_of m) spare ≡ option_map (number_of l) spare
spare_numbers l m current None idle all = refl
spare_numbers l m current (Some r) idle all = ap Some (all r idle.block idle.is refl)

module _ (l m : Layout) (region : ℕ) (old new : Block) (is : block_at l region ≡ Some old) (puts : PutsBlock l m region new) (same : new.number ≡ old.number) where
  pub numbered_put : AreNumbered l → SameContext l m → m.last_number ≡ l.last_number → AreNumbered m
  numbered_put numbered kept last = grind (arith, nat_tests, numbered_by l m numbered kept (omega (arith, last)) (rw (last, puts.blocks) (rising_put 1 l.last_number region l.blocks old new numbered.rising is same)) (number_put l m region old new is puts same l.keeper), rising_put 1 l.last_number region l.blocks old new numbered.rising is same, numbered.rising, number_put l m region old new is puts same l.keeper)

pub ledger_put : (b : Books) (m : Layout) (region : ℕ) (old new : Block) → block_at b.blocks region ≡ Some old → PutsBlock b.blocks m region new → new.number ≡ old.number → IsKept b → m.last_number ≡ b.blocks.last_number → ledger_of (record b { blocks = m }) ≡ put (ledger_of b) new
ledger_put b m region old new is puts same kept last =
    let values = ap values_of puts.blocks ∙ put_by_number 1 b.blocks.last_number region b.blocks.blocks old new kept.numbered.rising is same in
    let current = number_put b.blocks m region old new is puts same b.current in
    let spare = spare_numbers b.blocks m b.current b.spare kept.spare (λ r block there e. number_put b.blocks m region old new is puts same r) in
    cc

module _ (l m : Layout) (region : ℕ) (old : Block) (is : block_at l region ≡ Some old) (drops : DropsBlock l m region) where
  -- numbers stay where another block is given back
  number_drop : (r : ℕ) → region ≢ r → number_of m r ≡ number_of l r
  number_drop r ne = ap (λ (o : Option Block). (unwrap_or o no_block).number) (drop_other l m region drops r ne)

  pub numbered_drop : region ≢ l.keeper → AreNumbered l → SameContext l m → m.last_number ≡ l.last_number → AreNumbered m
  numbered_drop ne numbered kept last = numbered_by l m numbered kept (omega (arith, last)) (rw (last, drops.blocks) (rising_drop 1 l.last_number region l.blocks numbered.rising)) (number_drop l.keeper ne)

pub ledger_drop : (b : Books) (m : Layout) (region : ℕ) (old : Block) → block_at b.blocks region ≡ Some old → DropsBlock b.blocks m region → region ≢ b.current → ((other : ℕ) → b.spare ≡ Some other → region ≢ other) → IsKept b → m.last_number ≡ b.blocks.last_number → ledger_of (record b { blocks = m }) ≡ given (ledger_of b) (number_of b.blocks region)
ledger_drop b m region old is drops not_current not_spare kept last =
    let l = b.blocks in
    let values : values_of m.blocks ≡ filter (is_other (number_of l region)) (values_of l.blocks) =
    ap values_of drops.blocks ∙ drop_by_number 1 l.last_number region l.blocks old kept.numbered.rising is ∙ ap (λ (n : ℕ). filter (is_other n) (values_of l.blocks)) (sym (number_is l region old is)) in
    let current = number_drop l m region old is drops b.current not_current in
    let spare = spare_numbers l m b.current b.spare kept.spare (λ r block there e. number_drop l m region old is drops r (not_spare r e)) in
    cc

-- a test of numbers is one of regions
pub same_test : (l : Layout) (a b : ℕ) (first second : Block) → AreNumbered l → block_at l a ≡ Some first → block_at l b ≡ Some second → (number_of l a == number_of l b) ≡ (a == b)
same_test l a b first second numbered is there = grind (arith, nat_tests, number_of, one_region)

pub keeper_test : (l : Layout) (region : ℕ) (keeper block : Block) → AreNumbered l → block_at l l.keeper ≡ Some keeper → block_at l region ≡ Some block → (number_of l region == 1) ≡ (region == l.keeper)
keeper_test l region keeper block numbered is there = ap (λ (n : ℕ). number_of l region == n) (sym numbered.keeper) ∙ same_test l region l.keeper block keeper numbered there is

-- another block is current, which isn't the spare any more
pub seated : (l : Layout) (current number : ℕ) (spare : Option ℕ) (block : Block) → AreNumbered l → block_at l number ≡ Some block → IsSpare l current spare
    → option_map (number_of l) (if is_spare spare number then None else spare) ≡ (if is_spare (option_map (number_of l) spare) (number_of l number) then None else option_map (number_of l) spare)
seated l current number None block numbered is idle = refl
seated l current number (Some r) block numbered is idle = rw (same_test l r number idle.block block numbered idle.is is) (grind arith)

-- whether the chunk at an address has its block for itself
pub own_of : (l : Layout) (at : Addr) (chunk other : Chunk) {own : Bool} → chunk_at l at ≡ Some chunk → chunk_at l at ≡ Some other → other.own ≡ own → chunk.own ≡ own
own_of l at chunk other is there own = ap (λ (x : Chunk). x.own) (one_value (chunk_at l at) chunk other is there) ∙ own
