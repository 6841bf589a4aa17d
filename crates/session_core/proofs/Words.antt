-- The words and lemmas of the crates below, and the definitions of specs/, that these proofs take.
pub use Rattle.addr_space.specs.Space.{Asks, Space}
unfoldable pub use Rattle.addr_space.specs.Space.{held}
pub use Rattle.any_ctx.specs.declared.any.CtxKind.{CtxKind}
pub use Rattle.context_rules.specs.Chunks.{written}
pub use Rattle.context_rules.specs.Contexts.{Contexts, found}
pub use Rattle.context_tree.proofs.Composed.{tree_more}
pub use Rattle.context_tree.specs.State.{Agrees, Moves, TreeState}
unfoldable pub use Rattle.context_tree.specs.State.{stands_for}
pub use Rattle.forest.specs.Forest.{size}
pub use Rattle.lock_shared.specs.Holdings.{holds}
pub use Rattle.owner_core.specs.Owners.{OwnerTree}
pub use Rattle.owner_core.specs.Steps.{Step, release_steps}
pub use Rattle.owner_kinds.specs.KindShelf.{table_of}
pub use Rattle.owner_kinds.specs.KindTable.{IsSound}
pub use Rattle.pgs_command.specs.declared.commands.Command.{Command}
pub use Rattle.pgs_command.specs.declared.commands.TransactionCommand.{TransactionCommand}
pub use Rattle.pgs_command.specs.declared.commands.Work.{Work}
pub use Rattle.pgs_step.specs.declared.errors.Error.{Error}
pub use Rattle.pgs_step.specs.declared.errors.Error.TheVariants.{LimitReached}
pub use Rattle.pgs_step.specs.declared.events.What.{What}
pub use Rattle.pgs_step.specs.declared.ids.CtxId.{CtxId}
pub use Rattle.pgs_step.specs.declared.ids.Phase.{Phase}
pub use Rattle.pgs_step.specs.declared.lock_modes.Mode.{Mode}
pub use Rattle.reset_callbacks.specs.ShelfState.{ShelfState}
pub use Rattle.session_commands.proofs.Answered.{does_one}
pub use Rattle.session_commands.proofs.Chains.{less_room, room_left, stops}
pub use Rattle.session_commands.proofs.Commands.{as_row, fails}
pub use Rattle.session_commands.proofs.Making.{IsNew, context_done, context_not_made, does_make_context, few_owners, make_owner, many_owners}
pub use Rattle.session_commands.proofs.Numbering.{Numbers, for_keeps, item_keeps, left_keeps, numbers, so_keeps, there_keeps}
pub use Rattle.session_commands.proofs.Performing.{grows_nothing, moves_nothing, performed_both, performed_end, performed_more, performed_none, performed_stop}
pub use Rattle.session_commands.proofs.Refusing.{handed}
pub use Rattle.session_commands.proofs.Standing.{empty_around, known_behind, stands_behind, where_done, work_levels, work_stands}
pub use Rattle.session_commands.proofs.Stepping.{Call, Rises, call_done, call_injected, call_refused, call_wants, grown, limit_free, limit_reached, said_nothing, still_injected}
pub use Rattle.session_commands.proofs.Takings.{takes_on}
pub use Rattle.session_commands.specs.Answers.{Answers, Fits, at_calls, refusal_of}
pub use Rattle.session_commands.specs.Performed.{Grows, HasRoom, IsBetweenSteps, Now, Performed, Takes, most_calls, most_count, most_steps, most_work, now, scene_in}
pub use Rattle.session_commands.specs.declared.calls.Calls.{Calls}
pub use Rattle.session_commands.specs.declared.shared.Shared.{Shared}
pub use Rattle.session_core.specs.Begun.{HasBegun, IsStarting}
pub use Rattle.session_core.specs.Ended.{Ends}
pub use Rattle.session_core.specs.Lines.{IsAbortedBlock, IsBetweenLines, IsInBlock}
pub use Rattle.session_core.specs.Turns.{Turned, moment_in}
pub use Rattle.session_owners.proofs.Balances.{balances_more, balances_none, serves_nothing, serves_still}
pub use Rattle.session_owners.specs.Commons.{CommonState, Serves}
pub use Rattle.session_rules.proofs.EndsStand.{aborted_stands, away_stands, cleaned_up_stands, committed_stands, recovered_stands, settled, subcommitted_stands}
pub use Rattle.session_rules.proofs.LevelsKept.{levels_stay}
pub use Rattle.session_rules.proofs.StepsStand.{KeepsContexts, below_limit, keeps_written, level_context_stands, level_made_stands, level_owner_stands, level_stands_stands, settled_as, still_planned, still_portals}
pub use Rattle.session_rules.proofs.TurnStands.{Leads, fallible_leads, leads_nowhere, leads_on, turn_stands}
pub use Rattle.session_rules.specs.Acts.{Ended, behind, changes, children_gone, context_gone, for_each, in_order, nothing, portal_gone, say, switched, where_so, where_there}
pub use Rattle.session_rules.specs.Asked.{asks_in}
unfoldable pub use Rattle.session_rules.specs.Asked.{asked, asked_all, asked_by_turn}
pub use Rattle.session_rules.specs.Calls.{Done, fallible, unfailing}
pub use Rattle.session_rules.specs.Checks.{has_failed}
pub use Rattle.session_rules.specs.Commands.{at_savepoint, committed_to, ends_aborted, in_transaction, is_end, refused, rolled_back_to, savepoint, start, then_ok, transaction_of, unaborted}
unfoldable pub use Rattle.session_rules.specs.Commands.{elements_of}
pub use Rattle.session_rules.specs.Does.{done_behind, then_done}
unfoldable pub use Rattle.session_rules.specs.Does.{does, does_all}
pub use Rattle.session_rules.specs.Elements.{Check, Element, LevelContext, OfLevel, Text}
pub use Rattle.session_rules.specs.Ends.{aborted, cleaned_up, committed, empty_context_gone, given_up, level_owner_gone, level_released, level_rolled_back, stack_lowered, subcommitted, switched_up}
unfoldable pub use Rattle.session_rules.specs.Ends.{exited, recovered}
pub use Rattle.session_rules.specs.Making.{level_made, limit, new_context_made, new_context_refused, new_owner_made}
pub use Rattle.session_rules.specs.Parts.{contexts_become, level_stands}
pub use Rattle.session_rules.specs.Portals.{executor_ended, is_ready, portal_aborted, portal_closed, portal_failed, portal_passed, portal_withdrawn}
pub use Rattle.session_rules.specs.Releases.{owner_gone, owner_released, phase_released, step_done}
pub use Rattle.session_rules.specs.Standing.{AreOpen, AreOuter, FitLevels, IsAtRest, IsOpen, IsWorking, Stands, StandsBetweenLines}
pub use Rattle.session_rules.specs.State.{LevelState, OpenPortal, SessionState, abort_context, deepest_changed, depth, first_of, is_aborted, level_above, level_context, level_owner, owner_of}
unfoldable pub use Rattle.session_rules.specs.State.{opening}
pub use Rattle.session_rules.specs.Transcript.{Turn, is_want, line_elements, turn_of}
unfoldable pub use Rattle.session_rules.specs.Transcript.{turn}
pub use Rattle.session_rules.specs.Works.{elements, row_of}
pub use Rattle.session_rules.specs.World.{Around, Moment, Scene}
pub use Rattle.session_store.proofs.Depths.{levels_are, levels_long}
pub use Rattle.session_store.specs.Calls.{Acted, ContextsAlone, IsSilent, Keeps, StandsIn}
pub use Rattle.session_store.specs.State.{StoreState, contexts_in, level_state, levels_of, portals_of, scene_of}
unfoldable pub use Rattle.session_store.specs.State.{session_of}
pub use Rattle.subxact_stack.specs.declared.levels.Level.{Level}
pub use Rattle.subxact_stack.specs.declared.levels.LevelError.{LevelError}
