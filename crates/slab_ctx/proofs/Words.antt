-- The words and lemmas of the crates below, and the definitions of specs/, that these proofs take.
pub use Rattle.addr_space.proofs.Addresses.{same_addr-cases, same_addr_from}
pub use Rattle.addr_space.proofs.Options.{both_err, either_way, from_map, if_ok, on_err, on_ok, one_value, option_cases}
pub use Rattle.addr_space.proofs.Steps.{Keeps-more, Keeps-same, Keeps-then, Moves-more, Moves-none, Moves-same}
pub use Rattle.addr_space.specs.Space.{IsApart, Space}
pub use Rattle.addr_space.specs.declared.Addr.{Addr}
unfoldable pub use Rattle.chunk_header.specs.Growth.{up8}
pub use Rattle.chunk_header.specs.Header.{AllHeaded, AllOfKind, IsHeaded, TakesSpace}
pub use Rattle.chunk_header.specs.declared.Kind.TheVariants.{Slab}
pub use Rattle.ctx_blocks.proofs.Aligned.{chunk_whole, live_whole}
pub use Rattle.ctx_blocks.proofs.Among.{among_more, among_put, numbers_stay}
pub use Rattle.ctx_blocks.proofs.Changed.{chunk_apart, put_here, puts_same, stays_live}
pub use Rattle.ctx_blocks.proofs.Laid.{from_live, region_is}
pub use Rattle.ctx_blocks.proofs.Numbered.{rising_above, rising_add, rising_drop, rising_put, with_last}
pub use Rattle.ctx_blocks.proofs.Places.{number_is, number_put, numbers_among, places_put}
pub use Rattle.ctx_blocks.specs.Kept.{AreRising}
pub use Rattle.ctx_blocks.specs.Layout.{Layout, block_at, chunk_at, gap_of, header_room, start_of, total}
pub use Rattle.ctx_blocks.specs.Steps.{DropsBlock, PutsBlock, PutsChunk, SameContext, with_block, without_block}
pub use Rattle.ctx_blocks.specs.declared.parts.Block.{Block}
pub use Rattle.ctx_blocks.specs.declared.parts.Chunk.{Chunk}
pub use Rattle.indexmap.proofs.CallerLemmas.{index_map_len-with_value_at, keys-with_value_at, updates-with_value_at}
pub use Rattle.indexmap.proofs.MapLemmas.{Found-position, swap_remove_entry-found}
pub use Rattle.slab_ctx.specs.Counts.{Counts}
pub use Rattle.slab_ctx.specs.Kept.{AreApart, IsKept, IsKeptBut, IsListed, inner_of, ledger_of, state_of}
pub use Rattle.slab_ctx.specs.Ledger.{SlabBlock, SlabLedger, empties, fuller, live_in, serving, with_live, without_number}
unfoldable pub use Rattle.slab_ctx.specs.Ledger.{created, give, reset, resize, serve, stats, take}
pub use Rattle.slab_ctx.specs.Lives.{free_in, is_empty}
unfoldable pub use Rattle.slab_ctx.specs.Lives.{free_chunks, per_block, stride}
pub use Rattle.slab_ctx.specs.Order.{IsOrdered, own_at, rank_of}
pub use Rattle.slab_ctx.specs.Ranks.{IsRanked, current_in, entry_in, entry_of, leaf_in, rank_at}
pub use Rattle.slab_ctx.specs.Slots.{HasSlots, IsFilled, IsFree, IsSlot, IsSlotted, at_offset, chunk_of, first_region, items_of, stack_at}
pub use Rattle.slab_ctx.specs.State.{blocks_of, footprint, free_at, is_slot, live_of, lives_of, numbered_of, others, place, place_at, serving_block}
pub use Rattle.slab_ctx.specs.Tree.{IsLesser, IsTree, IsTreeBut, Leads, leaf, node}
pub use Rattle.slab_ctx.specs.declared.books.Books.{Books}
pub use Rattle.slab_ctx.specs.declared.ranks.Ranks.{Ranks}
pub use Rattle.slab_ctx.specs.declared.tree.Entry.{Entry}
pub use Rattle.slab_ctx.specs.declared.tree.Rank.{Rank}
pub use Rattle.slab_ctx.specs.declared.tree.Tree.{Tree}
pub use Rattle.std.proofs.Common.{Bool, IfOk, IfSome, IsSome, List, None, OnOk, Option, Result, Some, [], ap, arith, get_or, if◌then◌else◌, inl, inr, is_some, length, map, nat_eq, nat_le, nat_lt, option_map, refl, set, slice_get, slice_index, subst, suc, sum_by, sym, true, zero, ℕ, ◌%◌, ◌&&◌, ◌*◌, ◌++◌, ◌+◌, ◌-◌, ◌/◌, ◌<◌, ◌==◌, ◌^◌, ◌↔◌, ◌∙◌, ◌∷◌, ◌≡◌, ◌≢◌, ◌≤◌, ◌⊎◌}
pub use Rattle.std.proofs.Math.Nat.{div-mul-le_self, le-div_iff_mul-le, mod-eq-sub-div-mul, mul-le-mul_right, mul_assoc}
pub use Rattle.std.proofs.lemmas.Bool.{cases_eq, cases_lt}
pub use Rattle.std.proofs.lemmas.Cmp.{nat_eq_equiv}
pub use Rattle.std.proofs.lemmas.List.{get_or-set_other, get_or-set_same, get_or-take, get_or_read, length-append, length-map, length-set, map-append}
pub use Rattle.std.proofs.lemmas.List.Sums.{sum_by-append, sum_by-cons}
pub use Rattle.std.proofs.lemmas.Option.{slice_get-get_or, slice_get-map, slice_get_past, slice_get_within}
pub use Rattle.std.specs.Global.{Vec}
pub use Rattle.std.specs.Map.{keys_of, lookup, values_of}
pub use Rattle.std.specs.Prelude.{Err, Ok, position, slice_set}
pub use Rattle.std.specs.Vec.{with_item}
