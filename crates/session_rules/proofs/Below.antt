-- The words and lemmas of the crates below that these proofs take.
pub use Rattle.any_ctx.specs.Ledgers.{Ledger}
pub use Rattle.any_ctx.specs.declared.any.CtxKind.{CtxKind}
unfoldable pub use Rattle.chunk_header.specs.Growth.{up8, granted, grown, doubled}
pub use Rattle.chunk_header.specs.declared.Stats.{Stats}
pub use Rattle.context_report.specs.Lines.{last_of, line_of, no_total}
pub use Rattle.context_report.specs.declared.Total.{Total}
pub use Rattle.context_rules.specs.Chunks.{freed, written, zeros, allocated, resized, registered, shown}
pub use Rattle.context_rules.specs.Contexts.{Context, Contexts, found, new_context, is_protected, is_empty, is_child, created, placed_under, reparented, move_events, reparented_events, Chunk}
pub use Rattle.context_rules.specs.Ends.{emptied, gone, handed_in, cleared, cleared_alone, waiting, Ended, callbacks, gone_events, reset_of, unchanged}
unfoldable pub use Rattle.context_rules.specs.Names.{is_reserved}
pub use Rattle.context_rules.specs.Refusals.{is_within, set_parent_refusal}
pub use Rattle.context_rules.specs.Reports.{report, lines, summed}
pub use Rattle.context_rules.specs.declared.errors.TreeError.{TreeError}
pub use Rattle.context_rules.specs.declared.errors.TreeError.TheVariants.{Protected, Cycle}
pub use Rattle.exec_core.specs.Turn.{new_scan, is_bad, is_tenth, page_of, page_steps, row_step, row_steps, unpinned, turn}
pub use Rattle.exec_core.specs.declared.scan.Scan.{Scan}
pub use Rattle.exec_core.specs.declared.steps.ScanStep.{ScanStep}
pub use Rattle.file_table.specs.Descriptors.{is_among}
pub use Rattle.file_table.specs.Files.{Files, given_events, loser, touch_events}
pub use Rattle.forest.proofs.Mapped.{parent_changed, at_changed, at_changed_other}
pub use Rattle.forest.proofs.Moved.{above_by_parent, above_none, at_moved, below_parent, sum_moved, sum_of, at_children}
pub use Rattle.forest.proofs.Neighbours.{root_absent, parent_root, parent_absent}
pub use Rattle.forest.proofs.Trees.{times_some, has_some, at_some, has_of_removed, Moves, once_put, once_changed, times_moved, has_changed, at_absent, first_child_other, apart_of, has_at, put_absent, children_absent, removed_absent, left_apart, has_children, times_none, has_none, times_removed, changed_absent, parent_stays, removed_has}
pub use Rattle.forest.proofs.Walks.{children_changed, children_in, once_children, parent_in}
pub use Rattle.forest.specs.Forest.{changed, Empty, has, times, Once, at, children, parent_of, is_above, removed, moved, with_children, Forest, Node, AllNodes, is_root, put, subtree, size}
pub use Rattle.forest.specs.Walk.{all_changed, swept, order_at}
pub use Rattle.lock_local.specs.Changes.{acquired}
pub use Rattle.lock_local.specs.Locks.{Lock, AreLocks, IsInOrder, comes_before, has_owner, is_held, is_lock}
pub use Rattle.lock_shared.proofs.BesideLemmas.{beside_unique}
pub use Rattle.lock_shared.proofs.HoldingLemmas.{holding_parts}
pub use Rattle.lock_shared.specs.Holdings.{is_holding, holds}
unfoldable pub use Rattle.lock_shared.specs.ModeTable.{conflicts}
pub use Rattle.lock_shared.specs.Ranked.{IsRanked, beside, ranks_before}
pub use Rattle.lock_shared.specs.declared.shared_locks.Holding.{Holding}
pub use Rattle.owner_core.proofs.ItemLemmas.{uses_phase}
pub use Rattle.owner_core.proofs.Releasing.{held_changed}
pub use Rattle.owner_core.proofs.Sounds.{once_of, sound_forgotten, sound_moved, sound_removed, fresh, sound_created, sound_released, total_moved, total_removed, sound_remembered}
pub use Rattle.owner_core.specs.Owners.{Owner, OwnerTree, forgotten, has_begun, AllAt, HoldsNothing, remembered}
pub use Rattle.owner_core.specs.Released.{released, own_released, left_of}
pub use Rattle.owner_core.specs.Sound.{IsSound, total}
pub use Rattle.owner_core.specs.Steps.{Step, GivesBack, lock_step, own_steps, release_steps, releases_of, steps_below, top_locks, Said, ReleasesLocks, PassesLocks, ReleasesAllLocks}
pub use Rattle.owner_items.proofs.Order.{All-without}
pub use Rattle.owner_items.proofs.Uses.{count-without}
pub use Rattle.owner_items.specs.ItemList.{is_of, without_newest, uses}
pub use Rattle.owner_items.specs.Next.{release_order, is_of_phase, is_phase}
pub use Rattle.owner_kinds.proofs.Places.{table-opened, table-closed}
pub use Rattle.owner_kinds.specs.Kind.{Kind, changed_at, opened}
pub use Rattle.owner_kinds.specs.KindShelf.{table_of}
pub use Rattle.owner_kinds.specs.KindTable.{KindTable, IsSound as IsSoundTable, IsExtension, row, built_in_rows, IsKind}
unfoldable pub use Rattle.owner_kinds.specs.KindTable.{row_of}
pub use Rattle.owner_kinds.specs.Place.{IsPlace}
pub use Rattle.owner_kinds.specs.declared.kind_row.KindRow.{KindRow}
pub use Rattle.pgs_command.proofs.ValueLemmas.{is_text-means, is_text-same}
pub use Rattle.pgs_command.specs.Kinds.{class_kind}
pub use Rattle.pgs_command.specs.Words.{is_text}
pub use Rattle.pgs_command.specs.declared.commands.ChunkCommand.{ChunkCommand}
pub use Rattle.pgs_command.specs.declared.commands.Command.{Command}
pub use Rattle.pgs_command.specs.declared.commands.ContextCommand.{ContextCommand}
pub use Rattle.pgs_command.specs.declared.commands.ItemCommand.{ItemCommand}
pub use Rattle.pgs_command.specs.declared.commands.LockCommand.{LockCommand}
pub use Rattle.pgs_command.specs.declared.commands.PlanCommand.{PlanCommand}
pub use Rattle.pgs_command.specs.declared.commands.PortalCommand.{PortalCommand}
pub use Rattle.pgs_command.specs.declared.commands.SnapshotCommand.{SnapshotCommand}
pub use Rattle.pgs_command.specs.declared.commands.TellCommand.{TellCommand}
pub use Rattle.pgs_command.specs.declared.commands.TransactionCommand.{TransactionCommand}
pub use Rattle.pgs_command.specs.declared.commands.Work.{Work}
pub use Rattle.pgs_command.specs.declared.kinds.ReferenceClass.{ReferenceClass}
pub use Rattle.pgs_command.specs.declared.kinds.ReferenceClass.TheVariants.{Relcache}
pub use Rattle.pgs_step.specs.Mode.{mode_number}
pub use Rattle.pgs_step.specs.declared.errors.Error.{Error}
pub use Rattle.pgs_step.specs.declared.events.What.{What}
pub use Rattle.pgs_step.specs.declared.ids.Item.{Item}
pub use Rattle.pgs_step.specs.declared.ids.KindId.{KindId}
pub use Rattle.pgs_step.specs.declared.ids.Phase.{Phase}
pub use Rattle.pgs_step.specs.declared.ids.Phase.TheVariants.{BeforeLocks, Locks, AfterLocks}
pub use Rattle.pgs_step.specs.declared.lock_modes.Mode.{Mode}
pub use Rattle.pgs_step.specs.declared.lock_modes.Mode.TheVariants.{AccessShareLock}
pub use Rattle.portal_store.specs.Portal.{lowered as level_lowered}
pub use Rattle.portal_store.specs.declared.portal.PortalState.{PortalState}
pub use Rattle.reset_callbacks.specs.Hook.{Hook, ran, AreDistinct, Lacks}
pub use Rattle.reset_callbacks.specs.ShelfState.{ShelfState, held, taken}
pub use Rattle.snap_table.specs.Snapshots.{kept_below, lowered, is_deep, pops}
pub use Rattle.snap_table.specs.declared.active.Active.{Active}
