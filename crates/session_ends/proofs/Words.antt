-- The words and lemmas of the crates below, and the definitions of specs/, that these proofs take.
pub use Rattle.addr_space.specs.Space.{Asks, Space, held}
pub use Rattle.context_rules.specs.Contexts.{Contexts, created, created_events, is_empty}
pub use Rattle.context_rules.specs.Ends.{gone}
pub use Rattle.context_rules.specs.Refusals.{create_refusal, is_within}
pub use Rattle.context_rules.specs.declared.errors.TreeError.TheVariants.{Memory}
pub use Rattle.context_tree.proofs.Composed.{tree_more}
pub use Rattle.context_tree.specs.Calls.{Did, DidNothing}
pub use Rattle.context_tree.specs.State.{Agrees, HooksFit, IsLive, Moves, TreeState, place_of, total_of}
unfoldable pub use Rattle.context_tree.specs.State.{stands_for}
pub use Rattle.exec_core.specs.Turn.{IsScan, new_scan, rest, taken}
pub use Rattle.exec_core.specs.declared.scan.Scan.{Scan}
pub use Rattle.forest.proofs.Mapped.{mapped-has}
pub use Rattle.forest.proofs.Moved.{above_none}
pub use Rattle.forest.proofs.Trees.{has_of_removed, has_some, times_some}
pub use Rattle.forest.specs.Forest.{Empty, Forest, Once, at, children, has, is_above, parent_of, removed, with_children}
pub use Rattle.owner_core.proofs.Sounds.{once_of}
pub use Rattle.owner_core.specs.Owners.{OwnerTree, forgotten, has_begun, items_of}
pub use Rattle.owner_core.specs.Released.{own_released, released}
pub use Rattle.owner_core.specs.Sound.{IsSound}
pub use Rattle.owner_core.specs.declared.errors.OwnerError.{OwnerError}
pub use Rattle.owner_core.specs.declared.errors.OwnerError.TheVariants.{NotOwned}
pub use Rattle.owner_items.specs.ItemList.{is_of, without_newest}
pub use Rattle.owner_kinds.specs.KindShelf.{table_of}
pub use Rattle.owner_kinds.specs.KindTable.{KindTable}
pub use Rattle.pgs_command.proofs.ValueLemmas.{is_text-means}
pub use Rattle.pgs_command.specs.Words.{is_text}
pub use Rattle.pgs_step.specs.declared.events.What.{What}
pub use Rattle.pgs_step.specs.declared.ids.CtxId.{CtxId}
pub use Rattle.pgs_step.specs.declared.ids.Item.{Item}
pub use Rattle.pgs_step.specs.declared.ids.KindId.{KindId}
pub use Rattle.pgs_step.specs.declared.ids.OwnerId.{OwnerId}
pub use Rattle.pgs_step.specs.declared.ids.Phase.TheVariants.{AfterLocks, BeforeLocks, Locks}
pub use Rattle.plan_store.specs.Plans.{Plans, is_usable}
pub use Rattle.plan_store.specs.declared.plan.Plan.{Plan}
pub use Rattle.portal_store.proofs.PortalLemmas.{named_by_place, place_within}
pub use Rattle.portal_store.specs.Portal.{coming, failed_owner, is_outer, kept_owner, lowered, moved_owner, sub_aborted, to_parent}
pub use Rattle.portal_store.specs.Portals.{HasDistinctNames, changed, has_name, names, new_portal, place_named, portal_named, without}
pub use Rattle.portal_store.specs.declared.portal.Portal.{Portal}
pub use Rattle.portal_store.specs.declared.portal.PortalState.{PortalState}
pub use Rattle.portal_store.specs.declared.portal.PortalState.TheVariants.{Failed, Ready}
pub use Rattle.reset_callbacks.specs.ShelfState.{ShelfState}
pub use Rattle.session_ends.specs.Parts.{IsFreed, MayLeave, context_left, going, level_left}
pub use Rattle.session_ends.specs.Place.{CanGo, HaveGone, hosting}
pub use Rattle.session_ends.specs.PlaceLaws.{goes_nothing}
pub use Rattle.session_ends.specs.Portals.{EndsSo, GoesOut, IsEnding, IsSpare, PlansMayGo, above_left, executor_at, left_by, none_left, number_in, owner_ended, owner_to, portal_after}
pub use Rattle.session_ends.specs.declared.portals.LevelEnd.{LevelEnd}
pub use Rattle.session_ends.specs.declared.portals.LevelEnd.TheVariants.{Aborts, Goes, Merges}
pub use Rattle.session_owners.proofs.Acts.{acted_nothing}
pub use Rattle.session_owners.proofs.Balances.{balances_more, balances_none, serves_still}
pub use Rattle.session_owners.specs.Commons.{Balances, CommonState, Serves, seen_by}
pub use Rattle.session_owners.specs.Fitting.{ActedOn}
pub use Rattle.session_owners.specs.Placing.{AreLeft, PlansFit, contexts_of, plan_dropped}
pub use Rattle.session_owners.specs.ResourceState.{AllAt, HoldsNothing, ResourceState, Roomy, owners_of, plan_state, plans_of}
pub use Rattle.session_rules.proofs.ContextsKept.{nothing_left, own, protected_has, top_protected}
pub use Rattle.session_rules.proofs.Ending.{Leads, begun_changed, below_place}
pub use Rattle.session_rules.proofs.EndsStand.{MayEnd, begins, left_idle, left_lone, may_end, owner_when_active, settled}
pub use Rattle.session_rules.proofs.Failing.{aborted_leads}
pub use Rattle.session_rules.proofs.Forests.{has_left, once_left, times_emptied}
pub use Rattle.session_rules.proofs.Guarded.{top_parent}
pub use Rattle.session_rules.proofs.LevelsKept.{HasLeft, is_there, left_still, levels_stay, outer_contexts, owners_aborted, owners_end}
pub use Rattle.session_rules.proofs.Lone.{lone_left}
pub use Rattle.session_rules.proofs.Passing.{HasMoved, above_owner, has_moved, passed_leads}
pub use Rattle.session_rules.proofs.PlansAmong.{levels_apart, own_other, plans_current}
pub use Rattle.session_rules.proofs.PortalEnds.{executor_beside}
pub use Rattle.session_rules.proofs.PortalLists.{but_one, changed_one}
pub use Rattle.session_rules.proofs.PortalWorks.{Beside, nothing_beside}
pub use Rattle.session_rules.proofs.PortalsAmong.{attached_by, place_own, place_spared}
pub use Rattle.session_rules.proofs.PortalsStand.{Named, named_in, split_portals, this_live, this_portal}
pub use Rattle.session_rules.proofs.Releasing.{with_owners}
pub use Rattle.session_rules.proofs.Replacing.{closed_leads, executor_goes, first_of_rest, swept_leads}
pub use Rattle.session_rules.proofs.Settling.{Besides, Fits, HasSettled, Spares, besides_of, release_settles, spares_same, with_besides}
pub use Rattle.session_rules.proofs.Stacked.{depth_small, depth_still}
pub use Rattle.session_rules.proofs.StepsStand.{not_released}
pub use Rattle.session_rules.proofs.Swept.{has_swept}
pub use Rattle.session_rules.specs.Acts.{Ended, and_then, behind, changes, children_gone, context_gone, for_each, in_order, nothing, of_contexts, portal_becomes, portal_gone, say, switched, where_so, where_there}
pub use Rattle.session_rules.specs.Checks.{has_failed}
pub use Rattle.session_rules.specs.Elements.{OfPortal, PortalContext, RowContext, Text}
pub use Rattle.session_rules.specs.Ending.{Ending, IsDone, gone_levels}
pub use Rattle.session_rules.specs.Ends.{aborted, cleaned_up, committed, level_context_gone, level_owner_gone, level_popped, level_released, stack_lowered, stack_popped, subcommitted, switched_up}
pub use Rattle.session_rules.specs.Lookup.{portal_changed, portals_but}
pub use Rattle.session_rules.specs.Making.{context_made, level_parent, new_context_made, new_owner_made, owner_made, portal_made}
pub use Rattle.session_rules.specs.Parts.{at_portal}
pub use Rattle.session_rules.specs.Portals.{executor_ended, is_ready, portal_aborted, portal_closed, portal_ended, portal_failed, portal_owner_ended, portal_passed, portal_withdrawn}
pub use Rattle.session_rules.specs.Releases.{given_back, item_released, owner_gone, owner_moved, owner_released}
pub use Rattle.session_rules.specs.Standing.{AreApart, AreContexts, AreDifferent, AreHooks, AreLevels, AreOther, AreOuter, FitLevels, IsAttached, IsMade, IsOwner, IsPlace, IsPlan, IsPortal, IsWorking, Stands, owner_at, referred}
pub use Rattle.session_rules.specs.State.{LevelState, OpenPortal, SessionState, abort_context, buffer_pin, context_of, deepest_changed, depth, first_of, is_aborted, level_owner, owner_of, portals_context, relcache_reference, snapshot_reference, top_context}
pub use Rattle.session_rules.specs.World.{Around, Scene}
pub use Rattle.session_store.proofs.Answered.{if_some, on_answer, some_both, some_more}
pub use Rattle.session_store.proofs.Depths.{above_first, all_deepest, deepest_new, ends, levels_are, levels_long}
pub use Rattle.session_store.proofs.Kept.{AreThere, PortalThere, are_there, goes_made, has_kept, levels_there, nowhere, plans_there}
pub use Rattle.session_store.proofs.Led.{did_acted, refused_regions, switch_acted}
pub use Rattle.session_store.proofs.Levelled.{HasOwner, abort_there, above_live, context_live, have_owners, keeps_current, leveled, made_same, owner_live, owner_on, owners_there, parent_number, scene_leveled, stands_deep, top_there}
pub use Rattle.session_store.proofs.Lists.{all_at, all_left, all_reverse}
pub use Rattle.session_store.proofs.Owned.{HasPortalOwner, OwnersGo, acted_as, go_left, go_stack, have_portal_owners, keeps_owners, owner_number, owners_acted, owners_after, owners_fit, placed_owners, portals_kept}
pub use Rattle.session_store.proofs.Planned.{both_alone}
pub use Rattle.session_store.proofs.Sums.{held_is, keeps_on}
pub use Rattle.session_store.proofs.Through.{hooks_in, keeps_in, left_through, live_in, own_in, placed_after, stands_in}
pub use Rattle.session_store.specs.Calls.{Acted, BothAlone, IsSilent, Keeps, PortalsAlone, Refused, StandsIn}
pub use Rattle.session_store.specs.Placed.{HasLevels, IsPlaced, IsThere, LevelLies, Lies, OwnerLies, PortalLies}
pub use Rattle.session_store.specs.State.{StoreState, contexts_in, level_state, levels_of, only_empty, portal_state, portals_of, scene_of}
unfoldable pub use Rattle.session_store.specs.State.{session_of}
pub use Rattle.subxact_stack.specs.Levels.{level_at, with_deepest}
pub use Rattle.subxact_stack.specs.declared.levels.Level.{Level}
