-- What the code keeps, once a block was put.
use Rattle.std.proofs.Common.{◌≡◌, ℕ, Some, None, ◌∙◌, sym, subst}
use Rattle.ctx_blocks.specs.Layout.{Layout, block_at}
use Rattle.ctx_blocks.specs.Steps.{PutsBlock, SameContext}
use Rattle.ctx_blocks.specs.declared.parts.Block.{Block}
use Rattle.ctx_blocks.specs.Kept.{HasSize}
use Rattle.bump_ctx.specs.Kept.{IsKept}
use Rattle.bump_ctx.specs.declared.books.Books.{Books}
use Rattle.ctx_blocks.proofs.Changed.{size_put}

module _ (b : Books) (m : Layout) (number : ℕ) (block : Block) (kept : IsKept b) (same : SameContext b.blocks m) (puts : PutsBlock b.blocks m number block) where
  kept_put : ((other : Block) → block_at b.blocks number ≡ Some other → block.size ≡ other.size) → IsKept (record b { blocks = m })
  kept_put sizes = record {
    kind = same.kind ∙ kept.kind;
    sizes = kept.sizes;
    keeper = subst (λ k. HasSize m k b.sizes.init) (sym same.keeper) (size_put b.blocks m number block puts sizes b.blocks.keeper b.sizes.init kept.keeper);
    bytes = kept.bytes;
    newest = size_put b.blocks m number block puts sizes b.newest kept.bytes kept.newest;
  }

  -- a block in the place of another one
  pub kept_same : (old : Block) → block_at b.blocks number ≡ Some old → block.size ≡ old.size → IsKept (record b { blocks = m })
  kept_same old is size = kept_put (λ other there. cc)

  -- a block more
  pub kept_more : block_at b.blocks number ≡ None → IsKept (record b { blocks = m })
  kept_more fresh = kept_put (λ other there. cc)
