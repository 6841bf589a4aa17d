-- The books of a context with the keeper alone.
use Rattle.std.proofs.Common.{◌≡◌, ℕ, ◌-◌, length, Some, refl, arith, ◌∙◌, ap}
use Rattle.chunk_header.specs.declared.Kind.TheVariants.{Bump}
use Rattle.ctx_blocks.specs.Layout.{block_at, total, rooms, whole_block, keeper_alone}
use Rattle.bump_ctx.specs.Ledger.{created}
use Rattle.chunk_header.specs.Growth.{AreSizes}
use Rattle.bump_ctx.specs.Kept.{ledger_of, room_of, room_at, IsKept}
use Rattle.bump_ctx.specs.declared.books.Books.{Books}

module _ (n : Books) (kind : n.blocks.kind ≡ Bump) (sized : AreSizes n.sizes.init n.sizes.max n.next) (next : n.next ≡ n.sizes.init) (k : ℕ) (only : n.blocks.blocks ≡ keeper_alone n.blocks.keeper k n.sizes.init) (first : n.newest ≡ n.blocks.keeper) where
  there : block_at n.blocks n.blocks.keeper ≡ Some (whole_block k 200 n.sizes.init)
  there = rw only (grind arith)

  at_newest : block_at n.blocks n.newest ≡ Some (whole_block k 200 n.sizes.init)
  at_newest = rw first there

  pub kept_alone : IsKept n
  kept_alone = record {
    kind = kind;
    sizes = sized;
    keeper = record { block = whole_block k 200 n.sizes.init; is = there; size = refl };
    bytes = n.sizes.init;
    newest = record { block = whole_block k 200 n.sizes.init; is = at_newest; size = refl };
  }

  pub ledger_alone : ledger_of n ≡ created n.sizes.init n.sizes.max
  unfolding created
  ledger_alone =
      let all : total n.blocks ≡ n.sizes.init = rw only (omega arith) in
      let count : length n.blocks.blocks ≡ 1 = rw only refl in
      let room : room_at n.blocks n.newest ≡ n.sizes.init - 240 = ap room_of at_newest ∙ omega arith in
      let sums : rooms n.blocks ≡ n.sizes.init - 200 - 40 = rw only (omega arith) in
      let idle : rooms n.blocks - room_at n.blocks n.newest ≡ 0 = omega (arith, sums, room) in
      cc
