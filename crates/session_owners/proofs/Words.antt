-- The words and lemmas of the crates below, and the definitions of specs/, that these proofs take.
pub use Rattle.context_rules.specs.Contexts.{Contexts}
pub use Rattle.context_rules.specs.Ends.{gone, handed_in}
pub use Rattle.counts.specs.Counts.{Tallies, count_of, total}
pub use Rattle.file_table.proofs.FileCounts.{different_length}
pub use Rattle.file_table.proofs.FileLists.{without_missing}
pub use Rattle.file_table.proofs.Sound.{no_descriptor}
pub use Rattle.file_table.specs.Descriptors.{is_among, without}
pub use Rattle.file_table.specs.Files.{Files, IsDistinct, OpensOneMore, closed_file, closing_events, opened_file, opening_events, opens, touch_events, touched_file}
pub use Rattle.file_table.specs.declared.files.FileError.{FileError}
pub use Rattle.file_table.specs.declared.files.FileError.TheVariants.{Memory, NoFile, Taken, TooMany}
pub use Rattle.forest.proofs.Mapped.{mapped-at}
pub use Rattle.forest.proofs.Trees.{Moves, apart_of, at_absent, at_some, removed_absent}
pub use Rattle.forest.specs.Forest.{AllNodes, Empty, Node, Once, at, children, has, moved, parent_of, put, removed, size}
pub use Rattle.forest.specs.Walk.{swept}
pub use Rattle.lock_local.specs.Changes.{acquired, given_back}
pub use Rattle.lock_local.specs.Locks.{Agrees, Lock, OthersStay, SessionLocks}
pub use Rattle.lock_shared.proofs.BesideLemmas.{beside_stays, conflict_is, conflict_stands}
pub use Rattle.lock_shared.specs.Holdings.{IsConflict, holds}
pub use Rattle.lock_shared.specs.Ranked.{beside, least_conflict}
pub use Rattle.lock_shared.specs.declared.shared_locks.Holding.{Holding}
pub use Rattle.owner_core.proofs.ItemLemmas.{uses-cons, uses_own, uses_phase}
pub use Rattle.owner_core.proofs.Releasing.{held_changed}
pub use Rattle.owner_core.proofs.Sounds.{once_of, sound_created, sound_forgotten, sound_moved, sound_released, sound_remembered, sound_removed, total_removed, total_swept}
pub use Rattle.owner_core.proofs.Swept.{all_below, all_swept}
pub use Rattle.owner_core.specs.Owners.{AllAt, HoldsNothing, Owner, OwnerTable, OwnerTree, Roomy, created, forgotten, held, items_of, remembered, subtree_of}
pub use Rattle.owner_core.specs.Released.{left_of, own_released, released}
pub use Rattle.owner_core.specs.Steps.{GivesBack, Step, gone_events, made_event, release_steps, top_locks}
pub use Rattle.owner_core.specs.declared.errors.OwnerError.{OwnerError}
pub use Rattle.owner_core.specs.declared.errors.OwnerError.TheVariants.{NotOwned, Releasing}
pub use Rattle.owner_items.proofs.Order.{All-without}
pub use Rattle.owner_items.proofs.Uses.{count-without}
pub use Rattle.owner_items.specs.ItemList.{is_of, uses, without_newest}
pub use Rattle.owner_items.specs.Next.{is_of_phase}
pub use Rattle.owner_kinds.specs.Different.{AreDifferent}
pub use Rattle.owner_kinds.specs.Kind.{Kind, changed_at, closed, opened}
pub use Rattle.owner_kinds.specs.KindShelf.{one_at, table_of}
pub use Rattle.owner_kinds.specs.KindTable.{IsExtension, IsSound, KindTable}
pub use Rattle.pgs_command.proofs.ValueLemmas.{is_text-means, is_text-same}
pub use Rattle.pgs_command.specs.Words.{is_text}
pub use Rattle.pgs_step.specs.declared.counters.SessionCounts.{SessionCounts}
pub use Rattle.pgs_step.specs.declared.events.What.{What}
pub use Rattle.pgs_step.specs.declared.ids.CtxId.{CtxId}
pub use Rattle.pgs_step.specs.declared.ids.Item.{Item}
pub use Rattle.pgs_step.specs.declared.ids.KindId.{KindId}
pub use Rattle.pgs_step.specs.declared.ids.OwnerId.{OwnerId}
pub use Rattle.pgs_step.specs.declared.ids.Phase.{Phase}
pub use Rattle.pgs_step.specs.declared.ids.Phase.TheVariants.{AfterLocks, BeforeLocks, Locks}
pub use Rattle.pgs_step.specs.declared.lock_modes.Mode.{Mode}
pub use Rattle.plan_store.specs.Plans.{Plans, RefersAlike, RefersOneMore, is_usable, references, references_to}
pub use Rattle.plan_store.specs.declared.plan.Plan.{Plan}
pub use Rattle.plan_store.specs.declared.plan.PlanError.{PlanError}
pub use Rattle.ref_table.specs.References.{pair_cmp, references_of}
pub use Rattle.reset_callbacks.specs.ShelfState.{ShelfState}
pub use Rattle.session_owners.specs.Commons.{Balances, CommonState, LocksBalance, PinsServe, Serves, pinned_beside, pinned_once, seen_by}
pub use Rattle.session_owners.specs.Counted.{HoldsCounted, IsCounted, IsHeld, all_released, files_held, holds_file}
pub use Rattle.session_owners.specs.Fitting.{Acted, ActedOn, Hosting, HostsFit, OwnersFit, hosting_of, with_hosting, with_owners}
pub use Rattle.session_owners.specs.LockLaws.{LocksBalance-nothing}
pub use Rattle.session_owners.specs.Placing.{AreLeft, PlansDo, PlansFit, contexts_of, plan_added, plan_dropped, with_plans}
pub use Rattle.session_owners.specs.PlanStates.{plan_state}
pub use Rattle.session_owners.specs.ResourceState.{ResourceState, files_of, locks_of, owners_of, plans_of, spare_of}
pub use Rattle.session_owners.specs.TableLaws.{PinsBalance-nothing, lending_is}
pub use Rattle.session_owners.specs.Tables.{AreOfClasses, ArePinsShared, Held, Lending, PinsBalance, TablesDo, TablesFit, is_class, lending_of, once_in, times_held, times_lent, with_lending}
pub use Rattle.session_rules.proofs.Guarded.{all_changed, all_moved, all_put, all_removed}
pub use Rattle.session_rules.proofs.HeldItems.{held_moved}
pub use Rattle.session_rules.proofs.ItemsStand.{extension_keeps}
pub use Rattle.session_rules.proofs.Pinned.{at_buffer}
pub use Rattle.session_rules.proofs.PlansKept.{IsOther, but_is, changed_is}
pub use Rattle.session_rules.proofs.Releasing.{holds_nothing, phase_items, released_swept, swept_by}
pub use Rattle.session_rules.proofs.Standings.{items_known}
pub use Rattle.session_rules.proofs.Swept.{children_swept, parent_swept, swept_all}
pub use Rattle.session_rules.specs.Acts.{Ended, and_then, behind, changes, for_each, in_order, nothing, say, where_there}
pub use Rattle.session_rules.specs.Counts.{all_items, count, counts, distinct, keys_of}
pub use Rattle.session_rules.specs.Ends.{stack_lowered, stack_popped}
pub use Rattle.session_rules.specs.Lookup.{kind_from, kind_named, plan_at, plan_changed, plans_but}
pub use Rattle.session_rules.specs.Making.{owner_made}
pub use Rattle.session_rules.specs.Parts.{lock_given_back, pinning, snapshot_popped}
pub use Rattle.session_rules.specs.Releases.{Keeper, NoOne, TheDescriptors, TheKind, ThePlans, item_released, keeper_of, left_to, owner_gone, owner_moved, owner_released, phase_released, plan_becomes, plan_left, plan_settled, plan_stays, step_done, with_locks}
pub use Rattle.session_rules.specs.Standing.{AreApart, Differ, HasItems, IsItem}
pub use Rattle.session_rules.specs.State.{SessionState, StandingPlan, buffer_pin, file_kind, first_of, last_of, plan_reference}
pub use Rattle.session_rules.specs.Taking.{descriptor_given, item_taken, lock_taken, pushed_at, remembers, taken_by}
pub use Rattle.session_rules.specs.World.{Around, Scene, for_buffers}
pub use Rattle.snap_table.specs.Snapshots.{Snapshots, kept_below, lowered, pops, registrations, snapshots_of}
pub use Rattle.snap_table.specs.declared.active.Active.{Active}
pub use Rattle.snap_table.specs.declared.active.SnapError.{SnapError}
