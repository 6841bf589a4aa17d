-- The words and lemmas of the crates below, and the definitions of specs/, that these proofs take.
pub use Rattle.addr_space.proofs.Addresses.{put_at-cases, same_addr-cases}
pub use Rattle.addr_space.proofs.Apart.{KeepsBut-inside, Moves-inside}
pub use Rattle.addr_space.proofs.Bytes.{length-part, overwritten-more}
pub use Rattle.addr_space.proofs.Contexts.{IsInside-live_part, ends_small}
pub use Rattle.addr_space.proofs.Options.{none_or_some, option_cases}
pub use Rattle.addr_space.proofs.Written.{HasBytes-written, byte_at-apart}
pub use Rattle.addr_space.specs.Footprint.{AreDisjoint, Footprint, HasRegion, WritesInside}
pub use Rattle.addr_space.specs.Space.{Changes, HasBytes, IsKnown, Region, Space, byte_at, bytes_of, overwritten, part, region_at}
pub use Rattle.addr_space.specs.declared.Addr.{Addr}
pub use Rattle.any_ctx.specs.Contexts.{footprint, ledger, place_at}
pub use Rattle.any_ctx.specs.Ledgers.{InSlab, Ledger, Place, give, resize}
pub use Rattle.any_ctx.specs.declared.any.AnyCtx.{AnyCtx}
pub use Rattle.context_node.specs.Chunking.{Freed, Refitted, Took, Written, placed, taken_entry}
pub use Rattle.context_node.specs.Ending.{is_named, left_names}
pub use Rattle.context_node.specs.Kept.{Kept}
pub use Rattle.context_node.specs.KeptChunks.{IsKept, KeptChunks, named_part}
pub use Rattle.context_node.specs.Soundness.{AreFlat, IsSoundContext, same}
pub use Rattle.context_node.specs.State.{bytes_at, chunk_of, context_of, entries}
pub use Rattle.context_node.specs.declared.chunk_id.ChunkId.{ChunkId}
pub use Rattle.context_node.specs.declared.entry.Entry.{Entry}
pub use Rattle.context_rules.specs.Chunks.{with_changed, with_chunk, with_size, without, written_over, zeros}
pub use Rattle.context_rules.specs.Contexts.{Chunk, Context, has_name}
pub use Rattle.context_rules.specs.Ends.{callbacks, handed_in}
pub use Rattle.forest.proofs.Mapped.{at_changed, at_changed_other}
pub use Rattle.forest.proofs.Trees.{Apart, apart_of, at_absent, at_removed, at_some, changed_absent, has_at, has_changed, has_of_removed, once_changed, once_front, once_removed, removed_absent, size_removed}
pub use Rattle.forest.specs.Forest.{Empty, Forest, Node, Once, at, changed, children, either, first, has, removed, size, times}
pub use Rattle.pgs_step.specs.declared.events.What.TheVariants.{Callback}
pub use Rattle.reset_callbacks.specs.Hook.{AreDistinct, Hook, Lacks, ran}
pub use Rattle.reset_callbacks.specs.ShelfState.{ShelfState, finished, held}
pub use Rattle.std.proofs.Common.{All, Bool, Err, IsSome, List, None, Ok, Option, Some, [], ap, append_assoc, arith, drop, false, get_or, inl, inr, length, map, refl, replicate, subst, sym, take, true, unwrap_or, ℕ, ◌++◌, ◌+◌, ◌-◌, ◌<◌, ◌∙◌, ◌∷◌, ◌≡◌, ◌≢◌, ◌≤◌, ◌⊎◌}
pub use Rattle.std.proofs.lemmas.Bool.{both_ways, cases_Bool, cases_eq, cases_lt, eq-eqb, ne_eqb}
pub use Rattle.std.proofs.lemmas.Grind.{same_number_lists}
pub use Rattle.std.proofs.lemmas.List.{append-nil, get_or-append_right, get_or-drop, get_or-map, get_or-take, get_or_append_left, length-append, length-drop, length-map, length-replicate, length-take, map-append, replicate-append-replicate, take-replicate}
pub use Rattle.std.proofs.raw_atomic.Walks.{leaves, proved}
pub use Rattle.std.specs.HashMap.{get}
pub use Rattle.std.specs.Option.{IfSome, option_map, option_map_or}
pub use Rattle.std.specs.Prelude.{find, if◌then◌else◌, is_some, max, min, ◌==◌, ◌||◌}
pub use base.Fml.{Fml}
pub use base.Logic.{SProp, emp}
pub use contract.Monad.{fact, fact_i}
pub use contract.Running.{tables}
pub use denote.Builtin.{RefOf}
pub use denote.Exit.{yes}
pub use denote.Param.{bounded, param}
pub use denote.RattleType.{RattleType, owns}
pub use denote.Ref.{shr_Tells, shr_vals}
pub use denote.Shadow.{makes_shadow}
pub use denote.Signature.{plain, types_at}
pub use denote.Steps.{nothing}
pub use denote.Triple.Entry.{alive}
pub use denote.Triple.Walked.{Goes-dropped, Stays, stay_dropped, walk_of}
pub use mir.MapTy.{inst_fn}
pub use mir.Syntax.{a_type, dcons, dnil, named}
pub use mir.Val.{Val, vcons, vnil, vptr, vstruct}
pub use types.ByLocal.{alloc_all, free_all, look_at, pass_all, sets}
pub use types.Kit.{ !, by, fjoin, keep, qed, raw, split, use0, ‵, ◌$◌, ◌∵◌, ◌⊛◌}
pub use types.Part.{agg}
pub use types.Run.{and_then, enter, no_more, returns}
