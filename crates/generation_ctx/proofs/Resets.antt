-- The books of a context with the keeper alone.
use Rattle.generation_ctx.proofs.Words.{◌≡◌, [], Some, None, refl, arith, block_at, whole_block, keeper_alone, created, number_is, AreSizes, ledger_of, IsKept, Books}
use Rattle.chunk_header.specs.declared.Kind.TheVariants.{Generation}

module _ (n : Books) (kind : n.blocks.kind ≡ Generation) (one : n.blocks.first_number ≡ 1) (last : n.blocks.last_number ≡ 1) (sized : AreSizes n.sizes.init n.sizes.max n.next) (only : n.blocks.blocks ≡ keeper_alone n.blocks.keeper 1 n.sizes.init) (first : n.current ≡ n.blocks.keeper) (spare : n.spare ≡ None) where
  there : block_at n.blocks n.blocks.keeper ≡ Some (whole_block 1 200 n.sizes.init)
  there = rw only (grind arith)

  at_current : block_at n.blocks n.current ≡ Some (whole_block 1 200 n.sizes.init)
  at_current = rw first there

  pub alone : n.blocks.chunks ≡ [] → n.next ≡ n.sizes.init → IsKept n × (ledger_of n ≡ created n.sizes.init n.sizes.max)
  unfolding created
  alone none next = (
    record {
      kind = kind;
      numbered = record { first = one; rising = rw (only, last) (omega arith, omega arith, tt); some = omega (arith, last); keeper = number_is n.blocks n.blocks.keeper (whole_block 1 200 n.sizes.init) there };
      sizes = sized;
      keeper = record { block = whole_block 1 200 n.sizes.init; is = there; size = refl };
      bytes = n.sizes.init;
      current = record { block = whole_block 1 200 n.sizes.init; is = at_current; size = refl };
      spare = rw spare tt;
      alone = λ at chunk is own. (let gone = rw none at is in absurd (cc));
    },
    rw (number_is n.blocks n.current (whole_block 1 200 n.sizes.init) at_current, next, last, spare, only) refl,
  )
