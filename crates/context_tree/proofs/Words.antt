-- The words and lemmas of the crates below, and the definitions of specs/, that these proofs take.
pub use Rattle.addr_space.proofs.Apart.{Agrees-other, AreDisjoint-other, AreDisjoint-sym, Keeps-other}
pub use Rattle.addr_space.proofs.Asked.{Asks-more}
pub use Rattle.addr_space.proofs.Contexts.{AreDisjoint-fresh, AreDisjoint-nothing, IsInside-live_part, counted-nothing, counted-other, counted-own, ends_small}
pub use Rattle.addr_space.proofs.Held.{held-changed}
pub use Rattle.addr_space.proofs.Options.{either_way, from_map, none_or_some, on_err, one_value, option_cases}
pub use Rattle.addr_space.proofs.Steps.{Moves-more, Moves-none}
pub use Rattle.addr_space.specs.Footprint.{AreDisjoint, Footprint, nothing}
pub use Rattle.addr_space.specs.Space.{Asks, Changes, HasBytes, IsInside, IsKnown, Region, Space, accounts, byte_at, bytes_of, held, overwritten, part, region_at, share}
pub use Rattle.addr_space.specs.declared.Addr.{Addr}
pub use Rattle.any_ctx.specs.Calls.{take_in}
pub use Rattle.any_ctx.specs.Contexts.{footprint, ledger, place_at}
pub use Rattle.any_ctx.specs.Kinds.{first_size}
pub use Rattle.any_ctx.specs.Ledgers.{InSlab, Ledger, Place, give, resize, stats, take}
pub use Rattle.any_ctx.specs.declared.any.AnyCtx.{AnyCtx}
pub use Rattle.any_ctx.specs.declared.any.CtxKind.{CtxKind}
pub use Rattle.any_ctx.specs.declared.any.CtxKind.TheVariants.{Default}
pub use Rattle.chunk_header.specs.declared.CtxError.TheVariants.{NoSpace}
pub use Rattle.chunk_header.specs.declared.Stats.{Stats}
pub use Rattle.context_node.proofs.Bytes.{IsIn, has_known, in_live, length-bytes_at, part_read}
pub use Rattle.context_node.proofs.Changes.{names_changed}
pub use Rattle.context_node.proofs.Freeing.{context_freed, known_freed, left, sound_freed}
pub use Rattle.context_node.proofs.Handing.{distinct_between, distinct_handed, distinct_right, handed_none}
pub use Rattle.context_node.proofs.Made.{sound_made}
pub use Rattle.context_node.proofs.Names.{at_below, at_beside, at_here, below_or_beside, if_some, is_same, none_in_entries, one_at, one_in_entries, same_is, some_or_none}
pub use Rattle.context_node.proofs.Refitting.{context_refitted, known_refitted, sound_refitted}
pub use Rattle.context_node.proofs.Removals.{other_than_removed, still_at}
pub use Rattle.context_node.proofs.Sounds.{step_at, step_here, step_other}
pub use Rattle.context_node.proofs.Steps.{chunk_same, context_same, context_stays, entries_same}
pub use Rattle.context_node.proofs.Taking.{chunks_now, context_took, entry_cases, front_other, known_took, placed_here, placed_other, sound_took}
pub use Rattle.context_node.proofs.Waiting.{SameChunks, same_sound}
pub use Rattle.context_node.proofs.Writing.{context_written, known_written, moves_now, sound_written}
pub use Rattle.context_node.specs.Chunking.{Freed, Refitted, Took, Written, entered, taken_entry}
pub use Rattle.context_node.specs.Ending.{Cleared, Gone, is_named, left_names, without_context}
pub use Rattle.context_node.specs.Kept.{Kept}
pub use Rattle.context_node.specs.Making.{entered_context}
pub use Rattle.context_node.specs.Soundness.{IsSoundContext, same}
pub use Rattle.context_node.specs.State.{bytes_at, chunk_of, context_of, entries}
pub use Rattle.context_node.specs.declared.chunk_id.ChunkId.{ChunkId}
pub use Rattle.context_node.specs.declared.entry.Entry.{Entry}
pub use Rattle.context_node.specs.declared.making.NewContext.{NewContext}
pub use Rattle.context_report.specs.Lines.{added, capped, line_of, no_total}
pub use Rattle.context_report.specs.declared.Total.{Total}
pub use Rattle.context_rules.specs.Chunks.{allocated, asked, freed, registered, resized, served, shown, with_changed, with_chunk, with_size, without, written, written_over}
pub use Rattle.context_rules.specs.Contexts.{Chunk, Context, Contexts, Found, context_named, created, found, has_name, is_child, is_nothing, new_context, placed_under}
pub use Rattle.context_rules.specs.Ends.{Ended, and_then, callbacks, children_gone, cleared, cleared_alone, emptied, gone, gone_events, handed_in, unchanged, waiting}
pub use Rattle.context_rules.specs.Names.{is_reserved, same_name}
pub use Rattle.context_rules.specs.Opening.{opening, topmost}
pub use Rattle.context_rules.specs.Refusals.{alloc_refusal, bytes_refusal, create_refusal, is_chunk, is_taken, is_within, put_refusal, refusal, where_so}
pub use Rattle.context_rules.specs.Reports.{lines, summed}
pub use Rattle.context_rules.specs.declared.errors.TreeError.{TreeError}
pub use Rattle.context_rules.specs.declared.errors.TreeError.TheVariants.{Ctx, Memory, Range, Taken, TooMany}
pub use Rattle.context_tree.specs.Calls.{Did}
pub use Rattle.context_tree.specs.Lookup.{Leads}
pub use Rattle.context_tree.specs.Making.{Added, AsksInVain, AsksPart, AsksPartInVain, CameBack, Grew, bare, room_refusal}
pub use Rattle.context_tree.specs.Soundness.{IsChunk, IsNamed, IsOwn, IsSound, one_below}
pub use Rattle.context_tree.specs.State.{Agrees, HooksFit, IsLive, Moves, SameRegions, TreeState, left_of, no_contexts, place_of, total_of}
unfoldable pub use Rattle.context_tree.specs.State.{stands_for}
pub use Rattle.context_tree.specs.declared.tree.Own.{Own}
pub use Rattle.forest.proofs.Mapped.{at_changed, at_changed_other, mapped-at, mapped-changed, mapped-children, mapped-follows, mapped-has, mapped-lead, mapped-moved, mapped-once, mapped-parent, mapped-put, mapped-removed, mapped-size}
pub use Rattle.forest.proofs.Moved.{at_children, at_moved, sum_moved, sum_of}
pub use Rattle.forest.proofs.Trees.{Apart, Below, Beside, Here, apart_of, at_absent, at_removed, at_some, changed_absent, children_absent, first_child_other, has_at, has_changed, has_children, has_none, has_of_removed, left_apart, once_removed, put_absent, removed_absent, size_changed, size_moved, size_put, size_removed, times_changed, times_moved, times_none, times_put, times_removed, where_is}
pub use Rattle.forest.proofs.Walks.{above_stays, children_in, children_removed, lead_end, lead_in, lead_leaf, lead_of_node, lead_removed, once_children}
pub use Rattle.forest.specs.Forest.{Empty, Forest, Node, Once, at, changed, children, either, first, has, is_above, mapped, moved, parent_of, put, removed, size, subtree, times, with_children}
pub use Rattle.forest.specs.Forested.{Forested}
pub use Rattle.forest.specs.Preorder.{Visited, preorder}
pub use Rattle.forest.specs.Walk.{follows, lead}
pub use Rattle.forest.specs.declared.id.NodeId.{NodeId}
pub use Rattle.pgs_step.specs.declared.counters.MemoryCounters.{MemoryCounters}
pub use Rattle.pgs_step.specs.declared.events.What.{What}
pub use Rattle.pgs_step.specs.declared.events.What.TheVariants.{Create, Delete, Reset}
pub use Rattle.pgs_step.specs.declared.ids.CtxId.{CtxId}
pub use Rattle.reset_callbacks.proofs.ShelfSteps.{differ_taken}
pub use Rattle.reset_callbacks.specs.Hook.{AreDistinct, Hook, Lacks, ran}
pub use Rattle.reset_callbacks.specs.ShelfState.{ShelfState, taken}
