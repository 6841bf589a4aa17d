-- The words and lemmas of the crates below, and the definitions of specs/, that these proofs take.
pub use Rattle.std.proofs.Common.{[], ap, arith, Bool, drop, false, filter, if◌then◌else◌, inl, inr, is_some, length, length-take, List, map, nat_eq, None, Option, option_map, position, refl, rules, slice_get, Some, subst, sum_by, sym, take, true, unwrap_or, ℕ, ◌%◌, ◌++◌, ◌+◌, ◌-◌, ◌<◌, ◌==◌, ◌^◌, ◌∙◌, ◌∷◌, ◌≡◌, ◌≢◌, ◌≤◌, ◌⊎◌}
pub use Rattle.std.proofs.Math.Numerals.{sub-one}
pub use Rattle.std.proofs.lemmas.Bool.{cases_eq}
pub use Rattle.std.proofs.lemmas.Bool.Decides.{nat_tests}
pub use Rattle.std.proofs.lemmas.Cmp.{nat_eq_equiv}
pub use Rattle.std.proofs.lemmas.Grind.{common_steps}
pub use Rattle.std.proofs.lemmas.List.{drop_all, drop_more, length-replicate, map-append, take-take, take_all}
pub use Rattle.std.proofs.lemmas.List.Quantifiers.{position-Some}
pub use Rattle.std.proofs.lemmas.List.Sums.{sum_by-append, sum_by-cons}
pub use Rattle.std.proofs.lemmas.Map.Entries.{sum_by-remove_entry}
pub use Rattle.std.proofs.lemmas.Map.Made.{lookup_key_passes}
pub use Rattle.std.proofs.lemmas.Option.{get_or_from_slice_get, slice_get_within}
pub use Rattle.std.specs.List.{AllByRecursion, find}
unfoldable pub use Rattle.std.specs.List.{IsDistinct}
pub use Rattle.std.specs.Map.{keys_of, lookup, values_of}
pub use Rattle.addr_space.proofs.Addresses.{put_at-cases, same_addr-cases, same_addr_from}
pub use Rattle.addr_space.proofs.Carried.{HasBytesOf-carried, IsInside-live, KeepsBut-carried, Moves-carried}
pub use Rattle.addr_space.proofs.Options.{from_map, from_then, one_value, option_cases}
pub use Rattle.addr_space.proofs.Steps.{Agrees-nothing, Moves-more, Moves-one, Moves-still}
pub use Rattle.addr_space.specs.Footprint.{Agrees, IsSound, Keeps, Moves, nothing}
unfoldable pub use Rattle.addr_space.specs.Footprint.{counted}
pub use Rattle.addr_space.specs.Live.{MovesAt, PutsAt, PutsLive, same_addr, SameLive, StaysLive}
pub use Rattle.addr_space.specs.Space.{accounts, Changes, held, IsInside, IsRegion, overwritten, region_at, share, Space, unwritten}
pub use Rattle.addr_space.specs.declared.Addr.{Addr}
pub use Rattle.chunk_header.proofs.Marks.{marked_by}
pub use Rattle.chunk_header.proofs.Sums.{sum_by-insert}
pub use Rattle.chunk_header.proofs.Words.{length-block_bytes, length-header_bytes}
pub use Rattle.chunk_header.proofs.Wrote.{Keeps-give, Keeps-written, Moves-gone, Moves-taken, Moves-written}
pub use Rattle.chunk_header.specs.Header.{AllHeaded, AllOfKind, block_bytes, header_bytes, IsHeaded, IsLeading, IsPackable, TakesSpace}
unfoldable pub use Rattle.chunk_header.specs.Header.{space_of}
pub use Rattle.chunk_header.specs.declared.Kind.{Kind}
pub use Rattle.chunk_header.specs.declared.Kind.TheVariants.{Generation, Slab}
pub use Rattle.ctx_blocks.specs.Held.{Holds, IsWritten}
pub use Rattle.ctx_blocks.specs.Kept.{AreRising, HasSize, IsClear, IsCounted, IsFilled, IsFirst, IsKept, IsLaid, IsPlaced, IsSized, layout_of}
pub use Rattle.ctx_blocks.specs.Layout.{block_at, block_word, chunk_at, chunk_word, count_in, footprint, front_of, gap_of, header_of, header_room, is_in, keeper_alone, Layout, rooms, start_of, total, whole_block, whole_of}
unfoldable pub use Rattle.ctx_blocks.specs.Layout.{mark_of}
pub use Rattle.ctx_blocks.specs.Numbered.{AreAmong, is_other, KeepsNumbers, no_block, number_of, put_at}
pub use Rattle.ctx_blocks.specs.Order.{in_order, put_in}
pub use Rattle.ctx_blocks.specs.Steps.{AreUnique, DropsBlock, MovesStill, PutsBlock, PutsChunk, SameContext, with_block, with_chunk, without_block, without_chunk}
pub use Rattle.ctx_blocks.specs.declared.books.Books.{Books}
pub use Rattle.ctx_blocks.specs.declared.parts.Block.{Block}
pub use Rattle.ctx_blocks.specs.declared.parts.Chunk.{Chunk}
pub use Rattle.indexmap.proofs.CallerLemmas.{keys-with_value_at, updates-with_value_at}
pub use Rattle.indexmap.proofs.MapLemmas.{insert_entry-first}
pub use Rattle.indexmap.proofs.RemoveLemmas.{own_first}
pub use Rattle.indexmap.specs.IndexMap.{insert_entry, IsUnique, swap_remove_entry}
