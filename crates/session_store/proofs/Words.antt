-- The words and lemmas of the crates below, and the definitions of specs/, that these proofs take.
pub use Rattle.addr_space.proofs.Options.{both_err, either_way, on_err}
pub use Rattle.addr_space.specs.Space.{Asks, HasBytes, Space, held}
pub use Rattle.any_ctx.specs.declared.any.CtxKind.{CtxKind}
pub use Rattle.context_rules.specs.Chunks.{allocated, asked, freed, registered, resized, resized_asked, shown, written, zeros}
pub use Rattle.context_rules.specs.Contexts.{Context, Contexts, Found, context_named, created, created_events, found, is_protected, reparented, reparented_events}
pub use Rattle.context_rules.specs.Ends.{children_gone, cleared, cleared_alone, gone, handed_in}
pub use Rattle.context_rules.specs.Names.{is_reserved, same_name}
pub use Rattle.context_rules.specs.Refusals.{alloc_refusal, bytes_refusal, create_refusal, delete_refusal, free_refusal, is_taken, put_refusal, realloc_refusal, reset_only_refusal, reset_refusal, set_parent_refusal, where_so}
pub use Rattle.context_rules.specs.Reports.{report, summed}
pub use Rattle.context_rules.specs.declared.errors.TreeError.{TreeError}
pub use Rattle.context_rules.specs.declared.errors.TreeError.TheVariants.{Memory, NoName, Range}
pub use Rattle.context_tree.proofs.Adding.{stands_still}
pub use Rattle.context_tree.specs.Calls.{Did, DidNothing}
pub use Rattle.context_tree.specs.Making.{AsksInVain}
pub use Rattle.context_tree.specs.State.{Agrees, HooksFit, IsLive, Moves, SameRegions, StaysPut, TreeState, error_of, left_of, no_contexts, place_of, total_of}
unfoldable pub use Rattle.context_tree.specs.State.{stands_for}
pub use Rattle.forest.proofs.Mapped.{mapped-has}
pub use Rattle.forest.proofs.Trees.{has_changed, has_children}
pub use Rattle.forest.specs.Forest.{Empty, Forest, Node, Once, at, changed, children, has, size}
pub use Rattle.lock_shared.specs.Ranked.{beside, least_conflict}
pub use Rattle.pgs_step.specs.declared.events.What.{What}
pub use Rattle.pgs_step.specs.declared.ids.CtxId.{CtxId}
pub use Rattle.pgs_step.specs.declared.ids.OwnerId.{OwnerId}
pub use Rattle.plan_store.specs.Plans.{Plans, plan_of}
pub use Rattle.plan_store.specs.declared.plan.Plan.{Plan}
pub use Rattle.portal_store.specs.declared.portal.Portal.{Portal}
pub use Rattle.reset_callbacks.specs.Hook.{AreDistinct, Hook}
pub use Rattle.reset_callbacks.specs.ShelfState.{ShelfState, taken}
pub use Rattle.session_owners.proofs.Balances.{balances_more, balances_none}
pub use Rattle.session_owners.specs.Commons.{Balances, CommonState, Serves, pinned_beside, seen_by}
pub use Rattle.session_owners.specs.Fitting.{AreLeft, OwnersFit, contexts_of}
pub use Rattle.session_owners.specs.ResourceState.{Owner, OwnerTree, ResourceState, Roomy, has_begun, owners_of, plan_state, plans_of, spare_of}
pub use Rattle.session_rules.proofs.Standings.{own_there}
pub use Rattle.session_rules.specs.Acts.{Ended, nothing, of_contexts, switched, where_there}
pub use Rattle.session_rules.specs.Commands.{savepoint}
pub use Rattle.session_rules.specs.Counts.{counts, holds}
pub use Rattle.session_rules.specs.Elements.{LevelContext, OfLevel}
pub use Rattle.session_rules.specs.Lookup.{plan_at}
pub use Rattle.session_rules.specs.Making.{context_made, level_context_name, level_made, level_parent, new_context_made, new_owner_made, owner_made, plan_made}
pub use Rattle.session_rules.specs.Parts.{context_moved, contexts_become, level_stands, lock_given_back, pinning, snapshot_popped}
pub use Rattle.session_rules.specs.Standing.{AreLevels, IsPlan, IsPortal, IsRow, Stands}
pub use Rattle.session_rules.specs.State.{LevelState, SessionState, StandingPlan, abort_context, buffer_pin, cache_context, context_of, deepest_changed, file_kind, first_of, last_of, owner_of, plan_reference}
unfoldable pub use Rattle.session_rules.specs.State.{opening}
pub use Rattle.session_rules.specs.Taking.{chunk_resized, descriptor_given, hook_waits, item_taken, lock_taken, memory_taken, pushed_at, snapshot_pushed}
pub use Rattle.session_rules.specs.World.{Around, Scene}
pub use Rattle.session_store.specs.Calls.{Acted, BothAlone, ContextsAlone, IsSilent, Keeps, Refused, StandsIn, StaysBeside, Unmade}
pub use Rattle.session_store.specs.Placed.{HasLevels, IsPlaced, IsThere, LevelLies, Lies, OwnerLies, PortalLies}
pub use Rattle.session_store.specs.Plans.{plan_refusal}
pub use Rattle.session_store.specs.State.{StoreState, contexts_in, held_in, left_in, level_state, levels_of, portal_state, portals_of, scene_of}
unfoldable pub use Rattle.session_store.specs.State.{session_of}
pub use Rattle.std.proofs.Common.{All, Bool, Err, IfErr, IfOk, IfSome, IsSome, List, None, Ok, OnErr, OnOk, Option, Result, Some, [], ap, append-nil, arith, false, inl, inr, length, map, refl, subst, suc, sym, true, zero, ℕ, ◌++◌, ◌+◌, ◌<◌, ◌^◌, ◌↔◌, ◌∙◌, ◌∷◌, ◌≡◌, ◌≢◌, ◌≤◌, ◌⊎◌, rules}
pub use Rattle.std.proofs.lemmas.Bool.{cases_Bool, eq-eqb, le-ltb, lt-ltb}
pub use Rattle.std.proofs.lemmas.List.{length-append, length-map, length-reverse, map-append, reverse-append, reverse-reverse}
pub use Rattle.std.proofs.lemmas.List.Elements.{All-cons, All-contains, All-contains_itself, All-head, All-nil, All-pop, All-push, All-tail, All-weaker}
pub use Rattle.std.specs.Option.{option_and_then, option_map, option_map_or, option_or}
pub use Rattle.std.specs.Prelude.{Contains, IsErr, IsErrOf, codes, drop, if◌then◌else◌, is_none, is_ok, is_some, nat_lt, not, option_copied, reverse, slice_get, unwrap_or, ◌&&◌, ◌-◌, ◌==◌}
pub use Rattle.subxact_stack.specs.Levels.{deepest_named, deepest_named_from, is_named, level_at, new_level, with_deepest}
pub use Rattle.subxact_stack.specs.declared.levels.Level.{Level}
