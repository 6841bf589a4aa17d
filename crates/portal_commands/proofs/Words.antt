-- The words and lemmas of the crates below, and the definitions of specs/, that these proofs take.
pub use Rattle.addr_space.specs.Space.{Asks, Space, held}
pub use Rattle.any_ctx.specs.declared.any.CtxKind.{CtxKind}
pub use Rattle.context_report.specs.Lines.{no_total}
pub use Rattle.context_rules.specs.Refusals.{alloc_refusal}
pub use Rattle.context_rules.specs.declared.errors.TreeError.{TreeError}
pub use Rattle.context_tree.specs.State.{Moves, TreeState}
pub use Rattle.exec_core.specs.Turn.{is_bad, is_tenth, left, new_scan, page_of, page_steps, rest, row_step, row_steps, taken, turn, unpinned}
pub use Rattle.exec_core.specs.declared.scan.Scan.{Scan}
pub use Rattle.exec_core.specs.declared.scan.Stage.{Stage}
pub use Rattle.exec_core.specs.declared.steps.ScanStep.{ScanStep}
pub use Rattle.forest.specs.Forest.{has, size}
pub use Rattle.owner_core.specs.Owners.{forgotten}
pub use Rattle.owner_items.specs.ItemList.{is_of}
pub use Rattle.owner_kinds.specs.KindShelf.{table_of}
pub use Rattle.owner_kinds.specs.KindTable.{KindTable}
pub use Rattle.pgs_command.proofs.ValueLemmas.{is_text-same}
pub use Rattle.pgs_command.specs.Words.{is_text}
pub use Rattle.pgs_command.specs.declared.commands.PortalCommand.{PortalCommand}
pub use Rattle.pgs_step.specs.declared.errors.Error.{Error}
pub use Rattle.pgs_step.specs.declared.errors.Error.TheVariants.{Injected, LimitReached, NoMemory}
pub use Rattle.pgs_step.specs.declared.events.What.{What}
pub use Rattle.pgs_step.specs.declared.ids.Item.{Item}
pub use Rattle.pgs_step.specs.declared.ids.KindId.{KindId}
pub use Rattle.pgs_step.specs.declared.ids.OwnerId.{OwnerId}
pub use Rattle.pgs_step.specs.declared.lock_modes.Mode.{Mode}
pub use Rattle.pgs_step.specs.declared.lock_modes.Mode.TheVariants.{AccessShareLock}
pub use Rattle.portal_commands.specs.Fetching.{Follows, IsAt, IsFetching, IsPage, cost_of, part_of, scan_named, step_elements}
pub use Rattle.portal_commands.specs.Making.{IsMaking, IsOnItsWay}
pub use Rattle.portal_store.proofs.PortalLemmas.{named_by_place, named_nowhere, place_within}
pub use Rattle.portal_store.specs.Portal.{coming}
pub use Rattle.portal_store.specs.Portals.{has_name, place_named}
pub use Rattle.portal_store.specs.declared.portal.Portal.{Portal}
pub use Rattle.portal_store.specs.declared.portal.PortalError.{PortalError}
pub use Rattle.portal_store.specs.declared.portal.PortalState.{PortalState}
pub use Rattle.portal_store.specs.declared.portal.PortalState.TheVariants.{Ready}
pub use Rattle.reset_callbacks.specs.ShelfState.{ShelfState}
pub use Rattle.session_commands.proofs.Chains.{less_room, room_left, silent_stops, silent_then, stops, then_silent}
pub use Rattle.session_commands.proofs.Commands.{as_row, fails, passes}
pub use Rattle.session_commands.proofs.HeldItems.{missing_item, no_room_for, take, taken_in_room}
pub use Rattle.session_commands.proofs.Making.{IsNew, context_done, context_not_made, does_make_context, few_owners, make_owner, many_owners}
pub use Rattle.session_commands.proofs.Numbering.{keeps_rises, numbers}
pub use Rattle.session_commands.proofs.Performing.{grows_nothing, moves_nothing, performed_both, performed_end, performed_made, performed_more, performed_none, performed_said, performed_step, performed_stop, same_scene_in}
pub use Rattle.session_commands.proofs.Pinning.{enlarge, owner_unbegun}
pub use Rattle.session_commands.proofs.Refusing.{handed}
pub use Rattle.session_commands.proofs.Standing.{empty_around, fitting, fitting_fits, known_behind, stands_behind, where_done}
pub use Rattle.session_commands.proofs.Stepping.{Call, Rises, call_done, call_injected, call_refused, call_wants, count_behind, grown, lent, limit_free, limit_reached, moves_same, said_nothing, step_tree, still_injected, still_keeps, still_moves, still_refused}
pub use Rattle.session_commands.specs.Answers.{Fits, at_calls, refusal_of, wants}
pub use Rattle.session_commands.specs.Deepest.{IsOwnerOf}
pub use Rattle.session_commands.specs.Performed.{Grows, HasRoom, IsBetweenSteps, Now, Performed, Takes, most_work, now, scene_in}
pub use Rattle.session_commands.specs.declared.calls.Calls.{Calls}
pub use Rattle.session_owners.proofs.Balances.{balances_more, balances_none, serves_still}
pub use Rattle.session_owners.specs.Commons.{CommonState}
pub use Rattle.session_owners.specs.Counted.{IsReference}
pub use Rattle.session_owners.specs.ResourceState.{items_of, owners_of}
pub use Rattle.session_rules.proofs.LevelsKept.{is_there}
pub use Rattle.session_rules.proofs.PortalWorks.{Beside, becomes_fetched, beside_turns, check_beside, nothing_beside, owner_named, part_beside, portal_allocates, portal_enlarges, portal_locks, portal_takes, row_allocates, then_beside}
pub use Rattle.session_rules.proofs.PortalsStand.{Named, active_portal, context_portal, made_portal, named_changed, named_in, owner_portal, row_portal, scan_portal}
pub use Rattle.session_rules.proofs.StepsStand.{below_limit}
pub use Rattle.session_rules.proofs.TurnStands.{Leads, fallible_leads, leads_nowhere, leads_on, no_value_of}
pub use Rattle.session_rules.specs.Acts.{Ended, changes, context_cleared_alone, in_order, nothing, portal_becomes, say, where_there}
pub use Rattle.session_rules.specs.Asked.{asks_in, then_asked}
unfoldable pub use Rattle.session_rules.specs.Asked.{asked, asked_all}
pub use Rattle.session_rules.specs.Calls.{Done, fallible, unfailing}
pub use Rattle.session_rules.specs.Checks.{failure, has_failed, tree_error, unless}
pub use Rattle.session_rules.specs.Does.{done_behind, failing_turn, then_done}
unfoldable pub use Rattle.session_rules.specs.Does.{does, does_all}
pub use Rattle.session_rules.specs.Elements.{Check, Element, InPortal, InRow, MemoryRole, OfPortal, OwnerRole, PortalContext, RowContext, Text}
pub use Rattle.session_rules.specs.Lookup.{memory_in, owner_in, portal_changed, portal_named}
pub use Rattle.session_rules.specs.Making.{context_made, limit, new_context_made, new_context_refused, new_owner_made, portal_made}
pub use Rattle.session_rules.specs.Parts.{at_portal, scan_part, scanned}
pub use Rattle.session_rules.specs.Portals.{portal_ended}
pub use Rattle.session_rules.specs.Releases.{NoOne, given_back, item_released, keeper_of}
pub use Rattle.session_rules.specs.Standing.{IsFetched, IsItem, IsWorking, Stands}
pub use Rattle.session_rules.specs.State.{LevelState, OpenPortal, SessionState, buffer_pin, depth, level_owner}
pub use Rattle.session_rules.specs.Taking.{alloc_refused, item_taken, memory_taken}
pub use Rattle.session_rules.specs.Works.{after_turn, elements, fallible_part, fetch_steps, portal_row, portal_steps, takes, turn_steps}
pub use Rattle.session_rules.specs.World.{Around, Moment, Scene}
pub use Rattle.session_store.specs.Calls.{Acted, BothAlone, ContextsAlone, IsSilent, Keeps, PortalsAlone, Refused}
pub use Rattle.session_store.specs.State.{StoreState, contexts_in, left_in, levels_of, portal_state, portals_of}
unfoldable pub use Rattle.session_store.specs.State.{session_of}
