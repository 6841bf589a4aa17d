-- The words and lemmas of the crates below, and the definitions of specs/, that these proofs take.
pub use Rattle.addr_space.specs.Space.{Asks, Space}
pub use Rattle.any_ctx.specs.Kinds.{first_size}
pub use Rattle.any_ctx.specs.declared.any.CtxKind.{CtxKind}
pub use Rattle.context_rules.specs.Refusals.{alloc_refusal, bytes_refusal, create_refusal, delete_refusal, free_refusal, is_chunk, is_taken, put_refusal, realloc_refusal, reset_only_refusal, reset_refusal, set_parent_refusal}
pub use Rattle.context_rules.specs.declared.errors.TreeError.{TreeError}
pub use Rattle.context_tree.specs.Making.{AsksInVain}
pub use Rattle.context_tree.specs.State.{Agrees, Moves, TreeState, error_of}
pub use Rattle.forest.specs.Forest.{has, size}
pub use Rattle.owner_core.specs.declared.errors.OwnerError.{OwnerError}
pub use Rattle.owner_kinds.specs.KindShelf.{table_of}
pub use Rattle.owner_kinds.specs.KindTable.{IsExtension}
pub use Rattle.pgs_step.specs.declared.errors.Error.{Error}
pub use Rattle.pgs_step.specs.declared.errors.Error.TheVariants.{Injected, KindLimit, LimitReached, LockHeld, NameTaken, NoMemory, NoSuchBuffer, NoSuchName, NotHeld}
pub use Rattle.pgs_step.specs.declared.events.What.{What}
pub use Rattle.pgs_step.specs.declared.ids.Item.{Item}
pub use Rattle.pgs_step.specs.declared.ids.KindId.{KindId}
pub use Rattle.pgs_step.specs.declared.ids.OwnerId.{OwnerId}
pub use Rattle.reset_callbacks.specs.ShelfState.{ShelfState}
pub use Rattle.session_commands.specs.Answers.{Answers, Fits, at_calls, refusal_of, wants}
pub use Rattle.session_commands.specs.Deepest.{IsLevelOwner, IsOwnerOf}
pub use Rattle.session_commands.specs.Performed.{Grows, HasRoom, IsBetweenSteps, Now, Performed, Taken, Takes, most_calls, now, scene_in}
pub use Rattle.session_commands.specs.declared.calls.Calls.{Calls}
pub use Rattle.session_owners.proofs.Balances.{balances_more, balances_none, serves_still}
pub use Rattle.session_owners.specs.Commons.{Balances, CommonState, Serves, seen_by}
pub use Rattle.session_owners.specs.Counted.{IsReference, files_held, holds_file}
pub use Rattle.session_owners.specs.ResourceState.{ResourceState, has_begun, items_of, owners_of, plan_state}
pub use Rattle.session_rules.proofs.Asking.{asked_both, asked_one, asked_so}
pub use Rattle.session_rules.specs.Acts.{Ended, changes, children_gone, context_cleared, context_cleared_alone, context_gone, for_each, in_order, nothing, say, switched, where_so, where_there}
pub use Rattle.session_rules.specs.Asked.{asks_in, then_asked, where_done}
unfoldable pub use Rattle.session_rules.specs.Asked.{asked_all}
pub use Rattle.session_rules.specs.Calls.{Done, IsLater, fallible, is_call, refused_call, unfailing, unless_refused}
pub use Rattle.session_rules.specs.Checks.{failure, holds_snapshot, lock_count, refusal_at, space_error, tree_error, unless}
pub use Rattle.session_rules.specs.Counts.{counts, holds}
pub use Rattle.session_rules.specs.Does.{done_behind, then_done}
unfoldable pub use Rattle.session_rules.specs.Does.{does, does_all}
pub use Rattle.session_rules.specs.Elements.{Check, Element, InCurrent, NewContext, OfLevel, OwnerRole, Text}
pub use Rattle.session_rules.specs.Lookup.{context_named, kind_named, memory_in, newest, newest_of_level, owner_in, plan_at}
pub use Rattle.session_rules.specs.Making.{context_made, context_refused, left, limit, new_context_made, new_context_refused, new_owner_made, plan_made}
pub use Rattle.session_rules.specs.Parts.{at_context, at_kind, at_owner, context_moved, contexts_become, lock_given_back, pinning, snapshot_popped, tells}
pub use Rattle.session_rules.specs.Releases.{Keeper, NoOne, TheDescriptors, TheKind, given_back, item_released, keeper_of, left_to, plan_becomes}
pub use Rattle.session_rules.specs.Standing.{IsAtRest, IsWorking, Stands}
pub use Rattle.session_rules.specs.State.{LevelState, OpenPortal, SessionState, StandingPlan, buffer_pin, file_kind, first_of, level_owner, opening, plan_reference, snapshot_reference}
pub use Rattle.session_rules.specs.Taking.{alloc_refused, chunk_resized, descriptor_given, full, hook_refused, hook_registered, hook_waits, item_taken, lock_refused, lock_taken, memory_taken, resize_refused, snapshot_pushed, take_refused}
pub use Rattle.session_rules.specs.Transcript.{is_want}
pub use Rattle.session_rules.specs.Works.{Row, chunk_row, context_row, elements, item_row, lock_row, plan_row, row_of, snapshot_row, tell_row}
pub use Rattle.session_rules.specs.World.{Around, Moment, Scene}
pub use Rattle.session_store.specs.Calls.{Acted, BothAlone, ContextsAlone, IsSilent, Keeps, Refused, Unmade}
pub use Rattle.session_store.specs.State.{StoreState, contexts_in, held_in, left_in, levels_of, portals_of, scene_of}
unfoldable pub use Rattle.session_store.specs.State.{session_of}
