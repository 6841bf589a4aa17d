-- What the code keeps, after a step.
use Rattle.slab_ctx.proofs.Words.{◌≡◌, ◌≢◌, ℕ, ◌==◌, if◌then◌else◌, Option, Some, None, option_map, arith, ◌+◌, ◌-◌, ◌^◌, ◌≤◌, ◌++◌, List, [], ◌∷◌, length, map, sum_by, refl, sym, ap, ◌∙◌, Layout, block_at, total, Block, Rank, Ranks, rank_at, IsRanked, rank_of, IsOrdered, length-append, sum_by-append, sum_by-cons, with_block, PutsBlock, DropsBlock, SameContext, rising_put, rising_add, is_empty, free_in, free_chunks, per_block, SlabBlock, with_live, others, live_of, lives_of, numbered_of, blocks_of, HasSlots, first_region, Counts, inner_of, ledger_of, IsKeptBut, IsKept, Books}
use Rattle.ctx_blocks.proofs.Totals.{total-put}
use Rattle.slab_ctx.proofs.Lives.{numbered_put, find, ones, lives-put, lives-drop}
use Rattle.slab_ctx.proofs.Bounds.{free-is}
use Rattle.slab_ctx.proofs.Listed.{find-other, others-put, others-drop, IsListed-none, IsListed-put, map-added, IsListed-drop}

-- a block has a rank
pub has_rank : (r : Ranks) (l : Layout) (per : ℕ) → IsOrdered r l per → (number : ℕ) → number ≢ l.keeper → (block : Block) → block_at l number ≡ Some block → rank_at r.entries.entries number ≡ None → ⊥
has_rank r l per ordered number differs block found none = grind (arith, ordered.at number)

-- a key gets a rank, or loses it
abbrev pub PutsRank : Ranks → Ranks → ℕ → Option Rank → Type 0
PutsRank r s key rank = (other : ℕ) → rank_at s.entries.entries other ≡ (if key == other then rank else rank_at r.entries.entries other)

-- the free chunks, where the books count them
free_from : (n : Books) → n.free ≡ sum_by (free_in (per_block n.slots.size)) (lives_of n.slots.blocks) → n.free ≡ free_chunks (inner_of n)
unfolding free_chunks
free_from n is = is

-- a context without blocks
pub kept-none : (n : Books) → HasSlots n.slots → n.slots.blocks.blocks ≡ (n.slots.blocks.keeper, first_region) ∷ [] → n.empty ≡ 0 → n.free ≡ 0 → IsRanked n.ranks → n.ranks.entries.entries ≡ [] → IsKept n
kept-none n slots blocks empty free ranked none = grind (arith, IsListed-none, free_from)

module _ (b n : Books) (few number : ℕ) (kept : IsKeptBut b few) (slots : HasSlots n.slots) (size : n.slots.size ≡ b.slots.size) (same : SameContext b.slots.blocks n.slots.blocks) (differs : number ≢ b.slots.blocks.keeper) where
  -- a block is new, has another number of live chunks, or is given back
  order-now : (now : Option Block) → IsRanked n.ranks → ((other : ℕ) → block_at n.slots.blocks other ≡ (if number == other then now else block_at b.slots.blocks other)) → PutsRank b.ranks n.ranks number (option_map (rank_of (per_block b.slots.size)) now) → IsOrdered n.ranks n.slots.blocks (per_block n.slots.size)
  order-now now ranked blocks ranks = rw size (record { ranked = ranked; at = λ other. grind (arith, ranks other, blocks other, kept.order.at other, same.keeper) })

  per_same : (xs : List ℕ) → sum_by (free_in (per_block n.slots.size)) xs ≡ sum_by (free_in (per_block b.slots.size)) xs
  per_same xs = ap (λ z. sum_by (free_in (per_block z)) xs) size

  -- a block is new
  pub kept-added : (block : Block) → few ≡ 0 → block_at b.slots.blocks number ≡ None → PutsBlock b.slots.blocks n.slots.blocks number block → block.number ≡ b.slots.blocks.last_number + 1 → n.slots.blocks.last_number ≡ b.slots.blocks.last_number + 1 → block.live ≡ 0 → total n.slots.blocks ≡ total b.slots.blocks + 8192 → total n.slots.blocks ≤ 2 ^ 62
      → n.empty ≡ b.empty + 1 → n.free ≡ b.free + per_block b.slots.size → IsRanked n.ranks → PutsRank b.ranks n.ranks number (Some (rank_of (per_block b.slots.size) block)) → IsKept n
  kept-added block none fresh puts next last live more most empty free ranked ranks =
      let l = b.slots.blocks in
      let m = n.slots.blocks in
      let per = per_block b.slots.size in
      let lives : lives_of m ≡ lives_of l ++ 0 ∷ [] = map-added l kept.listed number differs m same block puts live_of fresh ∙ ap (λ x. lives_of l ++ x ∷ []) live in
      record {
        slots = slots;
        listed = IsListed-put l kept.listed number differs m same block puts (rw last (rising_add 1 l.last_number number block (others l.blocks) (find-other l kept.listed number differs ∙ fresh) (omega arith) next kept.listed.rising));
        empty = omega (arith, empty, none, kept.empty, ap (sum_by is_empty) lives, sum_by-append is_empty (lives_of l) (0 ∷ []), sum_by-cons is_empty 0 []);
        free = free_from n (omega (arith, free, free-is b few kept, per_same (lives_of m), ap (sum_by (free_in per)) lives, sum_by-append (free_in per) (lives_of l) (0 ∷ []), sum_by-cons (free_in per) 0 []));
        bytes = omega (arith, more, kept.bytes, ap length lives, length-append (lives_of l) (0 ∷ []));
        most = most;
        order = order-now (Some block) ranked puts.at ranks;
      }

  module _ (block : Block) (found : block_at b.slots.blocks number ≡ Some block) where
    there : find number (others b.slots.blocks.blocks) ≡ Some block
    there = find-other b.slots.blocks kept.listed number differs ∙ found

    -- a block has another number of live chunks
    module _ (live : ℕ) (counts : Counts b.slots.blocks n.slots.blocks number live) where
      changed : others n.slots.blocks.blocks ≡ with_block (others b.slots.blocks.blocks) number counts.block
      changed = others-put b.slots.blocks kept.listed number differs n.slots.blocks same counts.block counts.puts

      sum_counted : (f : ℕ → ℕ) → sum_by f (lives_of n.slots.blocks) + f block.live ≡ sum_by f (lives_of b.slots.blocks) + f live
      sum_counted f = rw (changed, ← counts.count) (lives-put f number counts.block block (others b.slots.blocks.blocks) there)

      -- its number stays
      pub blocks-counted : blocks_of n.slots.blocks ≡ with_live (blocks_of b.slots.blocks) block.number live
      blocks-counted = rw (← counts.count) (ap (map numbered_of) changed ∙ numbered_put 1 b.slots.blocks.last_number number (others b.slots.blocks.blocks) block counts.block kept.listed.rising there (counts.same_number block found))

      pub kept-changed : (more : ℕ) → n.slots.blocks.last_number ≡ b.slots.blocks.last_number → n.empty + more + is_empty block.live ≡ b.empty + few + is_empty live → n.free + free_in (per_block b.slots.size) block.live ≡ b.free + free_in (per_block b.slots.size) live → IsRanked n.ranks → PutsRank b.ranks n.ranks number (Some (rank_of (per_block b.slots.size) counts.block)) → IsKeptBut n more
      kept-changed more last empty free ranked ranks =
          let l = b.slots.blocks in
          let m = n.slots.blocks in
          let per = per_block b.slots.size in
          let filled = kept.slots.filled number block differs found in
          let same_total = total-put l m number block counts.block counts.puts.blocks found (counts.bytes ∙ sym filled.bytes) in
          record {
            slots = slots;
            listed = IsListed-put l kept.listed number differs m same counts.block counts.puts (rw last (rising_put 1 l.last_number number (others l.blocks) block counts.block kept.listed.rising there (counts.same_number block found)));
            empty = omega (arith, empty, kept.empty, sum_counted is_empty);
            free = free_from n (omega (arith, free, free-is b few kept, per_same (lives_of m), sum_counted (free_in per)));
            bytes = omega (arith, same_total, kept.bytes, sum_counted (λ x. 1), ones (lives_of l), ones (lives_of m));
            most = omega (arith, same_total, kept.most);
            order = order-now (Some counts.block) ranked counts.puts.at ranks;
          }

    -- an empty block is given back, which the books don't count
    pub kept-dropped : block.live ≡ 0 → few ≡ 1 → DropsBlock b.slots.blocks n.slots.blocks number → n.slots.blocks.last_number ≡ b.slots.blocks.last_number → total n.slots.blocks + 8192 ≡ total b.slots.blocks → n.empty ≡ b.empty → n.free ≡ b.free - per_block b.slots.size → IsRanked n.ranks → PutsRank b.ranks n.ranks number None → IsKept n
    kept-dropped live one drops last less empty free ranked ranks = grind (arith, others-drop b.slots.blocks kept.listed number differs n.slots.blocks same drops, IsListed-drop b.slots.blocks kept.listed number differs n.slots.blocks same drops last, free_from n, free-is b few kept, per_same (lives_of n.slots.blocks), ones (lives_of b.slots.blocks), ones (lives_of n.slots.blocks), order-now None ranked drops.at ranks, lives-drop)

-- a block counts among the empty ones and with its free chunks
module _ (b : Books) (few number : ℕ) (kept : IsKeptBut b few) (differs : number ≢ b.slots.blocks.keeper) (block : Block) (found : block_at b.slots.blocks number ≡ Some block) where
  sum_left : (f : ℕ → ℕ) → f block.live ≤ sum_by f (lives_of b.slots.blocks)
  sum_left f = omega (arith, lives-drop f number block (others b.slots.blocks.blocks) (find-other b.slots.blocks kept.listed number differs ∙ found))

  pub empty-least : is_empty block.live ≤ b.empty + few
  empty-least = omega (arith, kept.empty, sum_left is_empty)

  pub free-least : per_block b.slots.size - block.live ≤ b.free
  free-least = omega (arith, free-is b few kept, sum_left (free_in (per_block b.slots.size)))

-- the ledger, by its parts
pub ledger-parts : (n : Books) (size count : ℕ) (blocks : List SlabBlock) → n.slots.size ≡ size → n.slots.blocks.last_number ≡ count → blocks_of n.slots.blocks ≡ blocks → ledger_of n ≡ record { size = size; count = count; blocks = blocks }
ledger-parts n size count blocks same last all = rw (same, last, all) refl
