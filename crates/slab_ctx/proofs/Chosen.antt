-- Lemmas on the block that serves a request.
use Rattle.slab_ctx.proofs.Words.{◌≡◌, ◌≢◌, ℕ, ◌+◌, ◌<◌, ◌≤◌, ◌⊎◌, nat_lt, if◌then◌else◌, [], ◌∷◌, map, Option, Some, None, refl, sym, ap, ◌∙◌, inl, inr, arith, cases_eq, from_map, AreRising, Layout, block_at, Block, rising_above, Rank, Entry, Ranks, Leads, rank_at, entry_of, rank_of, own_at, IsOrdered, SlabBlock, serving, fuller, others, numbered_of, blocks_of, serving_block, AreApart, IsListed}
use Rattle.slab_ctx.specs.Steps.{IsChosen}
use Rattle.slab_ctx.proofs.Lives.{Entries, find}
use Rattle.slab_ctx.proofs.Listed.{find-other}
use Rattle.std.proofs.lemmas.Bool.Decides.{nat_tests}

-- each block of a list is found in it
find_tail : (e : ℕ × Block) (es : Entries) (region : ℕ) (block : Block) → find e.0 es ≡ None → find region es ≡ Some block → find region (e ∷ es) ≡ Some block
find_tail e es region block alone found = grind arith

-- where no block has a free chunk none serves
serving-full : (per : ℕ) (es : Entries) → AreApart es → ((region : ℕ) (block : Block) → find region es ≡ Some block → per ≤ block.live) → serving per (map numbered_of es) ≡ None
serving-full per [] apart full = refl
serving-full per (e ∷ es) apart full =
    let rest = serving-full per es apart.1 (λ region block found. full region block (find_tail e es region block apart.0 found)) in
    let head = full e.0 e.1 (grind arith) in
    grind arith

-- the block that serves has at most so many live chunks
abbrev Below : ℕ → Option SlabBlock → Type 0
Below most None = Unit {0}
Below most (Some block) = block.live ≤ most

below_step : (most per : ℕ) (e : ℕ × Block) (s : Option SlabBlock) → (e.1.live < per → e.1.live ≤ most) → Below most s → Below most (if nat_lt e.1.live per then Some (fuller (numbered_of e) s) else s)
below_step most per e x3 head rest = grind (arith, nat_tests)

serving_below : (per most : ℕ) (es : Entries) → AreApart es → ((region : ℕ) (block : Block) → find region es ≡ Some block → block.live < per → block.live ≤ most) → Below most (serving per (map numbered_of es))
serving_below per most [] apart all = tt
serving_below per most (e ∷ es) apart all =
    below_step most per e (serving per (map numbered_of es)) (all e.0 e.1 (grind arith))
    (serving_below per most es apart.1 (λ region block found. all region block (find_tail e es region block apart.0 found)))

-- one block is at least as good as another one
abbrev IsBetter : Block → Block → Type 0
IsBetter a b = (b.live < a.live) ⊎ ((b.live ≡ a.live) × (a.number ≤ b.number))

head_wins : (e : ℕ × Block) (s : Option SlabBlock) → Below e.1.live s → fuller (numbered_of e) s ≡ numbered_of e
head_wins e x1 below = grind (arith, nat_tests)

-- the best block serves
module _ (per : ℕ) (block : Block) (free : block.live < per) where
  serving-best : (least most region : ℕ) (es : Entries) → AreRising least most es → AreApart es → find region es ≡ Some block
      → ((other : ℕ) (b : Block) → find other es ≡ Some b → b.live < per → IsBetter block b)
      → serving per (map numbered_of es) ≡ Some (record { number = block.number; live = block.live })
  serving-best least most region [] rising apart found best = absurd (cc)
  serving-best least most region (e ∷ es) rising apart found best =
      let tail = λ (other : ℕ) (b : Block) (is : find other es ≡ Some b). best other b (find_tail e es other b apart.0 is) in
      elim (cases_eq region e.0) [
        | inl here ↦
            let is : e.1 ≡ block = grind arith in
            let live : e.1.live ≡ block.live = ap (λ (x : Block). x.live) is in
            let wins = head_wins e (serving per (map numbered_of es)) (serving_below per e.1.live es apart.1 (λ other b there less. let it = tail other b there less in grind arith)) in
            grind arith
        | inr there ↦
            let later : find region es ≡ Some block = grind arith in
            let before = rising_above (e.1.number + 1) most region es block rising.2 later in
            let rest = serving-best (e.1.number + 1) most region es rising.2 apart.1 later tail in
            let head = best e.0 e.1 (grind arith) in
            rw rest (grind arith)
      ]

-- the ranks say which block serves
module _ (r : Ranks) (l : Layout) (per : ℕ) (ordered : IsOrdered r l per) (listed : IsListed l) where
  -- a block that stands in the list has its rank
  rank-found : (region : ℕ) (block : Block) → find region (others l.blocks) ≡ Some block → rank_at r.entries.entries region ≡ Some (rank_of per block)
  rank-found region block found = grind (arith, ordered.at region, find-other l listed region)

  -- a key with a rank is a block
  ranked_is : (region : ℕ) (rank : Rank) → rank_at r.entries.entries region ≡ Some rank → (block : Block) × (block_at l region ≡ Some block) × (region ≢ l.keeper) × (rank_of per block ≡ rank)
  ranked_is region rank is = grind (arith, from_map (rank_of per) (own_at l region) rank (sym (ordered.at region) ∙ is), ordered.at region)

  -- the least rank
  module _ (e : Entry) (there : rank_at r.entries.entries e.key ≡ Some e.rank) (least : (key : ℕ) (rank : Rank) → rank_at r.entries.entries key ≡ Some rank → Leads (Some e) (Some (entry_of (key, rank)))) where
    -- it is that of a block with a free chunk
    module _ (few : e.rank.major ≤ per) where
      pub chosen : IsChosen l per e.key
      chosen = let it = ranked_is e.key e.rank there in record { block = it.0; found = it.1; not_keeper = it.2; free = grind (arith, it.3, few) }

      pub serving_chosen : serving per (blocks_of l) ≡ serving_block l (Some e.key)
      serving_chosen = grind (arith, nat_tests, ranked_is e.key e.rank there, serving-best, others l.blocks, find-other, rank-found)

    -- no block has a free chunk
    pub serving_none : per < e.rank.major → serving per (blocks_of l) ≡ None
    serving_none many = serving-full per (others l.blocks) listed.apart (λ region block found. let leads = least region (rank_of per block) (rank-found region block found) in grind arith)

  -- there is no block
  pub serving_empty : ((key : ℕ) (rank : Rank) → rank_at r.entries.entries key ≡ Some rank → Leads None (Some (entry_of (key, rank)))) → serving per (blocks_of l) ≡ None
  serving_empty least = serving-full per (others l.blocks) listed.apart (λ region block found. absurd (least region (rank_of per block) (rank-found region block found)))
