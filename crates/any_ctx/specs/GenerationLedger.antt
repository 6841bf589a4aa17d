-- The steps of the ledger of a Generation, for those who compute with them over any kind.
unfoldable pub use Rattle.generation_ctx.specs.Ledger.{block_size, chosen, created, cut, cut_off, emptied, freed_shared, give, lessened, owned, reset, resize, stats, stopped, take, take_cut, take_from, take_new, take_own, turned, with_new}
