-- The steps of the ledger of an AllocSet, for those who compute with them over any kind.
unfoldable pub use Rattle.alloc_set.specs.Ledger.{block_size, chunk_limit, class_of, class_up_to, created, cut_off, cut_rest, cut_up, from_new, give, halved, halved_by, limit_class, renewed, resize, resize_block, resize_class, reused, stats, take, take_class, take_own, with_own, without_own}
