-- The words and lemmas of the crates below, and the definitions of specs/, that these proofs take.
pub use Rattle.addr_space.proofs.Options.{both_err, either_way, from_map, if_ok, on_err, on_ok, one_value, option_cases}
pub use Rattle.addr_space.proofs.Steps.{Keeps-more, Keeps-same, Keeps-then, KeepsBut-same, Moves-more, Moves-none, Moves-same}
pub use Rattle.addr_space.specs.Footprint.{Agrees, Keeps, Moves}
pub use Rattle.addr_space.specs.Space.{Asks, Space, byte_at, held}
pub use Rattle.addr_space.specs.declared.Addr.{Addr}
pub use Rattle.chunk_header.proofs.Doubling.{AreSizes-first, AreSizes-next}
pub use Rattle.chunk_header.proofs.Put.{MovesAt-from, MovesAt-same}
pub use Rattle.chunk_header.specs.Growth.{AreSizes}
unfoldable pub use Rattle.chunk_header.specs.Growth.{doubled, granted, grown, up8}
pub use Rattle.chunk_header.specs.Header.{AllOfKind, TakesSpace}
pub use Rattle.chunk_header.specs.declared.CtxError.{CtxError}
pub use Rattle.chunk_header.specs.declared.CtxError.TheVariants.{NoSpace, TooBig}
pub use Rattle.chunk_header.specs.declared.Header.{Header}
pub use Rattle.ctx_blocks.proofs.Aligned.{chunk_whole, live_whole, move_whole}
pub use Rattle.ctx_blocks.proofs.Among.{among_adding, among_drop, among_more, among_put, among_same, numbers_left, numbers_stay}
pub use Rattle.ctx_blocks.proofs.Changed.{drop_other, fresh_put, put_here, put_other, size_drop, size_put, stays_live}
pub use Rattle.ctx_blocks.proofs.Numbered.{add_by_number, drop_by_number, found_by_number, put_away, put_behind, put_by_number, put_found, put_twice, region_by_number, rising_add, rising_drop, rising_put}
pub use Rattle.ctx_blocks.proofs.Places.{number_is, number_put, number_stays, numbers_among, places_put}
pub use Rattle.ctx_blocks.proofs.Put.{chunk_here, chunk_was}
pub use Rattle.ctx_blocks.specs.Kept.{AreRising, HasSize, IsPlaced}
pub use Rattle.ctx_blocks.specs.Layout.{Layout, block_at, chunk_at, footprint, gap_of, header_room, keeper_alone, whole_block}
pub use Rattle.ctx_blocks.specs.Numbered.{AreAmong, KeepsNumbers, is_other}
pub use Rattle.ctx_blocks.specs.Steps.{DropsBlock, MovesStill, PutsBlock, PutsChunk, SameContext}
pub use Rattle.ctx_blocks.specs.declared.parts.Block.{Block}
pub use Rattle.ctx_blocks.specs.declared.parts.Chunk.{Chunk}
pub use Rattle.generation_ctx.specs.Kept.{AllAlone, AreNumbered, IsAlone, IsIdle, IsKept, IsSpare, ledger_of, state_of}
pub use Rattle.generation_ctx.specs.Ledger.{GenerationLedger, GenerationPlace, GenerationResized, GenerationTaken, added, block_in, emptied_other, filled, given, is_spare, moved, no_block, put, set_aside}
unfoldable pub use Rattle.generation_ctx.specs.Ledger.{block_size, chosen, created, cut, cut_off, emptied, freed_shared, give, lessened, owned, reset, resize, stats, stopped, take, take_cut, take_from, take_new, take_own, turned, with_new}
pub use Rattle.generation_ctx.specs.State.{number_of, place_in}
pub use Rattle.generation_ctx.specs.Steps.{Allocates, Frees, Lessens, Rearranges}
pub use Rattle.generation_ctx.specs.declared.books.Books.{Books}
pub use Rattle.std.proofs.Common.{Bool, Err, IfSome, IsSome, None, Option, Some, ap, arith, false, filter, if◌then◌else◌, inl, inr, min, option_map, refl, subst, sym, true, unwrap_or, ℕ, ◌*◌, ◌+◌, ◌-◌, ◌<◌, ◌==◌, ◌∙◌, ◌≡◌, ◌≢◌, ◌≤◌, ◌⊎◌}
pub use Rattle.std.proofs.lemmas.Bool.{cases_Bool}
pub use Rattle.std.proofs.lemmas.Result.{err_from_is_err_and}
pub use Rattle.std.specs.List.{find}
pub use Rattle.std.specs.Map.{values_of}
pub use Rattle.std.specs.Prelude.{List, Ok, Result, [], ◌∷◌}
