-- Lemmas on the blocks of a context with the keeper alone.
use Rattle.ctx_blocks.proofs.Base.{[], accounts, Addr, Agrees-nothing, ap, arith, Block, block_at, block_bytes, Books, Changes, counted, footprint, held, if◌then◌else◌, in_order, inl, inr, IsDistinct, IsFilled, IsKept, IsLaid, Layout, layout_of, length-block_bytes, length-replicate, List, map, Moves, Moves-one, Moves-taken, nat_tests, None, nothing, overwritten, refl, region_at, same_addr_from, Some, Space, start_of, sum_by-cons, total, unwritten, ℕ, ◌+◌, ◌-◌, ◌<◌, ◌==◌, ◌∙◌, ◌∷◌, ◌≡◌, ◌≢◌, ◌≤◌}
use Rattle.ctx_blocks.proofs.Laid.{mark_cases, region_is, IsSound-laid}

-- the region of the keeper has 200 bytes before its block
pub keeper_start : (l : Layout) → start_of l l.keeper ≡ 200
keeper_start l = grind arith

module _ (l : Layout) (block : Block) (blocks : l.blocks ≡ (l.keeper, block) ∷ []) (chunks : l.chunks ≡ []) where
  pub keeper_is : block_at l l.keeper ≡ Some block
  keeper_is = rw blocks (grind arith)

  -- the keeper is the only block
  only_keeper : (number : ℕ) (it : Block) → block_at l number ≡ Some it → (number ≡ l.keeper) × (it ≡ block)
  only_keeper number it owned = let has = rw blocks at owned in grind arith

  pub total_one : total l ≡ block.size
  total_one = rw blocks (omega (arith, sum_by-cons (λ (b : Block). b.size) block []))

  module _ (filled : IsFilled (block.size - 200 - 40) block) where
    pub IsLaid-new : IsLaid l
    IsLaid-new = grind (arith, nat_tests, only_keeper, keeper_start l)

    others : (other : ℕ) → other ≢ l.keeper → (footprint l).region other ≡ None
    others other differs = rw blocks (grind arith)

    -- its header is the only mark
    one_mark : (b : Addr) (bytes : List ℕ) → (footprint l).mark b ≡ Some bytes → (b ≡ record { region = l.keeper; offset = 200 }) × (240 ≤ block.size) × (block_bytes l.context block.size ≡ bytes)
    one_mark b bytes marked =
        elim (mark_cases l b bytes marked) [
          | inl had ↦
              let is = only_keeper b.region had.0 had.2 in
              let start : start_of l b.region ≡ 200 = rw is.0 (keeper_start l) in
              (same_addr_from b (record { region = l.keeper; offset = 200 }) is.0 (had.1 ∙ start), omega (arith, had.3, start, ap (λ (x : Block). x.size) is.1), rw is.1 at had.4)
          | inr other ↦ let none = rw chunks at other.2 in absurd (cc)
        ]

    module _ (sp mp : Space) (below : l.account < accounts sp) (free : region_at sp l.keeper ≡ None) (took : Changes sp mp l.keeper (Some (unwritten l.account block.size)))
        (holds : (account : ℕ) → held mp account ≡ held sp account + (if l.account == account then block.size else 0)) where
      -- a region without room for a block's header
      pub Moves-bare : block.size < 240 → Moves (nothing l.account l.context) (footprint l) sp mp
      unfolding counted
      Moves-bare small =
          Moves-one (nothing l.account l.context) (footprint l) sp mp l.keeper block.size (unwritten l.account block.size) (Agrees-nothing l.account l.context sp below) (IsSound-laid l IsLaid-new) refl refl
          took refl (length-replicate block.size None) (λ none. free) (region_is l l.keeper block keeper_is) others
          (λ b bytes marked region. absurd (omega (arith, (one_mark b bytes marked).1)))
          (λ b bytes marked differs. absurd (omega (arith, (one_mark b bytes marked).1)))
          (λ account. grind (arith, holds account, total_one))

      pub Moves-new : (tp : Space) → 240 ≤ block.size → Changes mp tp l.keeper (overwritten (region_at mp l.keeper) 200 (map Some (block_bytes l.context block.size))) → Moves (nothing l.account l.context) (footprint l) sp tp
      Moves-new tp large wrote =
          Moves-taken (nothing l.account l.context) (footprint l) sp mp tp (record { region = l.keeper; offset = 200 }) block.size (block_bytes l.context block.size) (Agrees-nothing l.account l.context sp below)
          free took wrote (omega (arith, length-block_bytes l.context block.size)) holds (IsSound-laid l IsLaid-new) refl refl (omega (arith, total_one)) (region_is l l.keeper block keeper_is) others
          (λ b bytes marked. let it = one_mark b bytes marked in inl (it.0, it.2))

-- all that is kept where the keeper is alone
pub IsKept-new : (n : Books) (block : Block) → n.blocks.entries ≡ (n.keeper, block) ∷ [] → n.chunks.entries ≡ [] → IsFilled (block.size - 200 - 40) block → block.live ≡ 0 → block.number ≡ n.first_number → n.last_number ≡ n.first_number → n.total ≡ block.size → IsKept n
unfolding IsDistinct
IsKept-new n block blocks chunks filled none number last totals = grind (arith, nat_tests, only_keeper (layout_of n) block (ap in_order blocks) chunks, total_one (layout_of n) block (ap in_order blocks) chunks)
