-- The steps of the ledger of a Slab, for those who compute with them over any kind.
unfoldable pub use Rattle.slab_ctx.specs.Ledger.{created, free_chunks, per_block, serve, stats, stride, take}
