-- The words and lemmas of the crates below, and the definitions of specs/, that these proofs take.
pub use Rattle.std.proofs.Common.{[], ap, arith, Bool, drop, Err, false, get_or, IfSome, if◌then◌else◌, inl, inr, is_some, length, List, map, min, None, Ok, Option, option_and_then, option_map, position, refl, replicate, Result, rules, set, slice_index, slice_index_or, Some, subst, suc, sum, sum_by, sym, true, unwrap_or, zero, ℕ, ◌%◌, ◌*◌, ◌++◌, ◌+◌, ◌-◌, ◌/◌, ◌<◌, ◌==◌, ◌^◌, ◌↔◌, ◌∙◌, ◌∷◌, ◌≡◌, ◌≢◌, ◌≤◌, ◌⊎◌}
pub use Rattle.std.proofs.Math.Nat.{add-zero, div-eq_of_lt, div-eq_of_lt-le, mod-eq-sub-mod, mod-eq_of_lt, pow-succ'}
pub use Rattle.std.proofs.Math.Pow.{pow_mono}
pub use Rattle.std.proofs.lemmas.Bool.{cases_eq, cases_lt}
pub use Rattle.std.proofs.lemmas.Bool.Decides.{nat_tests}
pub use Rattle.std.proofs.lemmas.List.{drop_all, drop_more, get_or-map, get_or-replicate, get_or-set_other, get_or-set_same, get_or-take, get_or_append_left, length-append, length-map, length-replicate, length-set, length-take, map-set, set-get_or}
pub use Rattle.std.proofs.lemmas.List.Sums.{sum_by-cons, sum_by-le-sum_by, sum_by-swap_remove}
pub use Rattle.std.proofs.lemmas.Map.{lookup-none, lookup-remove_entry, none_passes_from_lookup}
pub use Rattle.std.proofs.lemmas.Map.Entries.{none_past_head, sum_by-remove_entry}
pub use Rattle.std.proofs.lemmas.Map.Steps.{lookup-le-sum}
pub use Rattle.std.proofs.lemmas.Nat.{from_le_bytes-to_le_bytes_4, leading_top}
pub use Rattle.std.proofs.lemmas.Option.{slice_get-get_or, slice_get-map}
pub use Rattle.std.proofs.lemmas.Result.{err_from_is_err_and}
pub use Rattle.std.specs.Cmp.{IsEquivalence}
pub use Rattle.std.specs.Int.{from_le_bytes, w32}
pub use Rattle.std.specs.Int.Count.{count_leading_zeros}
pub use Rattle.std.specs.List.{AllByRecursion}
unfoldable pub use Rattle.std.specs.List.{IsDistinct}
pub use Rattle.std.specs.Map.{keys_of, lookup, values_of}
pub use Rattle.std.specs.Option.{option_or}
pub use Rattle.addr_space.proofs.Addresses.{put_at-cases, same_addr-cases, same_addr_from}
pub use Rattle.addr_space.proofs.Carried.{HasBytesOf-carried, IsInside-live, KeepsBut-carried, Moves-carried}
pub use Rattle.addr_space.proofs.Copied.{some_region}
pub use Rattle.addr_space.proofs.Options.{both_err, either_way, from_map, from_then, if_ok, on_err, on_ok, one_value, option_cases}
pub use Rattle.addr_space.proofs.Steps.{Agrees-nothing, Keeps-more, Keeps-same, Keeps-then, KeepsBut-same, Moves-more, Moves-none, Moves-one, Moves-same, Moves-still, same_stays, same_was}
pub use Rattle.addr_space.proofs.Written.{byte_at-apart, HasBytes-written, HasRegion-written, held-written}
pub use Rattle.addr_space.specs.Footprint.{Agrees, Footprint, HasRegion, IsSound, IsWithin, Keeps, Moves, nothing}
unfoldable pub use Rattle.addr_space.specs.Footprint.{counted}
pub use Rattle.addr_space.specs.Live.{MovesLive, PutsAt, PutsLive, same_addr, SameLive, StaysLive}
pub use Rattle.addr_space.specs.Space.{Asks, byte_at, bytes_of, Changes, HasBytes, held, IsApart, IsInside, IsKnown, IsOverLimit, overwritten, raised, raised_by, Region, region_at, resized, share, Space}
pub use Rattle.addr_space.specs.declared.Addr.{Addr}
pub use Rattle.alloc_set.specs.Calls.{Refits}
pub use Rattle.alloc_set.specs.Cut.{Allocates, CutsUp}
pub use Rattle.alloc_set.specs.Kept.{is_free, IsAlone, IsChain, IsCleared, IsCounted, IsKept, IsPlaced, IsSettled, IsShelved, IsSized, new_books, shelf_at, state_of, taken_bytes}
pub use Rattle.alloc_set.specs.Ledger.{chunk_bytes, Class, class_bytes, class_size, free_bytes, of_class, of_own, own_size, resize_at, SetLedger, SetPlace, shelved, then_shelved, with_free}
unfoldable pub use Rattle.alloc_set.specs.Ledger.{block_size, chunk_limit, class_of, class_up_to, created, cut_off, cut_rest, cut_up, from_new, give, halved, halved_by, limit_class, renewed, resize, resize_block, resize_class, reused, stats, take, take_class, take_own, with_own, without_own}
pub use Rattle.alloc_set.specs.Links.{IsLinkable}
pub use Rattle.alloc_set.specs.Listed.{IsUnique, with_chunk, without_chunk}
pub use Rattle.alloc_set.specs.Live.{LeavesLive}
pub use Rattle.alloc_set.specs.Resize.{Reallocates}
pub use Rattle.alloc_set.specs.State.{capacity_of, chunk_at, footprint, free_size, front_of, header_of, link_bytes, link_of, live_place, live_size, place_at, region_of, SetState, start_of}
unfoldable pub use Rattle.alloc_set.specs.State.{mark_of}
pub use Rattle.alloc_set.specs.Steps.{PutsChunk, SameBlocks}
pub use Rattle.alloc_set.specs.declared.books.Block.{Block}
pub use Rattle.alloc_set.specs.declared.books.Books.{Books}
pub use Rattle.alloc_set.specs.declared.chunk.Chunk.{Chunk}
pub use Rattle.alloc_set.specs.declared.chunk.Chunk.TheVariants.{Free, Live, Own}
pub use Rattle.chunk_header.proofs.Put.{MovesAt-from, MovesAt-same, put-here}
pub use Rattle.chunk_header.proofs.Sums.{sum_by-insert}
pub use Rattle.chunk_header.proofs.Words.{length-block_bytes, length-header_bytes}
pub use Rattle.chunk_header.proofs.Wrote.{Keeps-give, Keeps-taken, Keeps-written, Moves-gone, Moves-taken, Moves-written, share-owned}
pub use Rattle.chunk_header.specs.Answers.{Resized, Taken}
unfoldable pub use Rattle.chunk_header.specs.Growth.{doubled, grown, up8}
pub use Rattle.chunk_header.specs.Header.{header_bytes, header_place, IsHeaded, IsLeading, IsPackable, TakesSpace}
unfoldable pub use Rattle.chunk_header.specs.Header.{block_bytes, space_of}
pub use Rattle.chunk_header.specs.Shelves.{no_shelf}
pub use Rattle.chunk_header.specs.declared.CtxError.{CtxError}
pub use Rattle.chunk_header.specs.declared.CtxError.TheVariants.{NoSpace, TooBig}
pub use Rattle.chunk_header.specs.declared.Header.{Header}
pub use Rattle.chunk_header.specs.declared.Kind.TheVariants.{AllocSet}
pub use Rattle.chunk_header.specs.declared.Stats.{Stats}
pub use Rattle.chunk_header.specs.declared.shelves.Shelf.{Shelf}
pub use Rattle.indexmap.proofs.MapLemmas.{Found-position, Missing-position, swap_remove_entry-found, swap_remove_entry-missing}
pub use Rattle.indexmap.specs.IndexMap.{swap_remove_entry}
