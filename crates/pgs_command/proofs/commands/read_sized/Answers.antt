use Rattle.std.proofs.Common.{refl}
use Rattle.pgs_command.specs.Table.{transaction_rows, item_rows, context_rows, chunk_rows, lock_rows, snapshot_rows, plan_rows, portal_rows, tell_rows}
use Rattle.pgs_command.proofs.TableLemmas.{past, within, nowhere, of_whole}
use Rattle.pgs_command.proofs.commands.read_sized.Goals as goal

pub returns-then-read_transaction : goal.returns-then-read_transaction
returns-then-read_transaction g c = of_whole _ _ _ _ c.requires (within transaction_rows _ _ _ _ c.if-read_transaction.ensures.found (c.if-read_transaction.ensures.written refl))

pub returns-then-read_item : goal.returns-then-read_item
returns-then-read_item g c = of_whole _ _ _ _ c.requires (past transaction_rows _ _ _ _ c.if-read_transaction.ensures.found (within item_rows _ _ _ _ c.if-read_item.ensures.found (c.if-read_item.ensures.written refl)))

pub returns-then-read_context : goal.returns-then-read_context
returns-then-read_context g c = of_whole _ _ _ _ c.requires (past transaction_rows _ _ _ _ c.if-read_transaction.ensures.found (past item_rows _ _ _ _ c.if-read_item.ensures.found (within context_rows _ _ _ _ c.if-read_context.ensures.found (c.if-read_context.ensures.written refl))))

pub returns-then-read_chunk : goal.returns-then-read_chunk
returns-then-read_chunk g c = of_whole _ _ _ _ c.requires (past transaction_rows _ _ _ _ c.if-read_transaction.ensures.found (past item_rows _ _ _ _ c.if-read_item.ensures.found (past context_rows _ _ _ _ c.if-read_context.ensures.found (within chunk_rows _ _ _ _ c.if-read_chunk.ensures.found (c.if-read_chunk.ensures.written refl)))))

pub returns-then-read_lock : goal.returns-then-read_lock
returns-then-read_lock g c = of_whole _ _ _ _ c.requires (past transaction_rows _ _ _ _ c.if-read_transaction.ensures.found (past item_rows _ _ _ _ c.if-read_item.ensures.found (past context_rows _ _ _ _ c.if-read_context.ensures.found (past chunk_rows _ _ _ _ c.if-read_chunk.ensures.found (within lock_rows _ _ _ _ c.if-read_lock.ensures.found (c.if-read_lock.ensures.written refl))))))

pub returns-then-read_snapshot : goal.returns-then-read_snapshot
returns-then-read_snapshot g c = of_whole _ _ _ _ c.requires (past transaction_rows _ _ _ _ c.if-read_transaction.ensures.found (past item_rows _ _ _ _ c.if-read_item.ensures.found (past context_rows _ _ _ _ c.if-read_context.ensures.found (past chunk_rows _ _ _ _ c.if-read_chunk.ensures.found (past lock_rows _ _ _ _ c.if-read_lock.ensures.found (within snapshot_rows _ _ _ _ c.if-read_snapshot.ensures.found (c.if-read_snapshot.ensures.written refl)))))))

pub returns-then-read_plan : goal.returns-then-read_plan
returns-then-read_plan g c = of_whole _ _ _ _ c.requires (past transaction_rows _ _ _ _ c.if-read_transaction.ensures.found (past item_rows _ _ _ _ c.if-read_item.ensures.found (past context_rows _ _ _ _ c.if-read_context.ensures.found (past chunk_rows _ _ _ _ c.if-read_chunk.ensures.found (past lock_rows _ _ _ _ c.if-read_lock.ensures.found (past snapshot_rows _ _ _ _ c.if-read_snapshot.ensures.found (within plan_rows _ _ _ _ c.if-read_plan.ensures.found (c.if-read_plan.ensures.written refl))))))))

pub returns-then-read_portal : goal.returns-then-read_portal
returns-then-read_portal g c = of_whole _ _ _ _ c.requires (past transaction_rows _ _ _ _ c.if-read_transaction.ensures.found (past item_rows _ _ _ _ c.if-read_item.ensures.found (past context_rows _ _ _ _ c.if-read_context.ensures.found (past chunk_rows _ _ _ _ c.if-read_chunk.ensures.found (past lock_rows _ _ _ _ c.if-read_lock.ensures.found (past snapshot_rows _ _ _ _ c.if-read_snapshot.ensures.found (past plan_rows _ _ _ _ c.if-read_plan.ensures.found (within portal_rows _ _ _ _ c.if-read_portal.ensures.found (c.if-read_portal.ensures.written refl)))))))))

pub returns-then-read_tell : goal.returns-then-read_tell
returns-then-read_tell g c = of_whole _ _ _ _ c.requires (past transaction_rows _ _ _ _ c.if-read_transaction.ensures.found (past item_rows _ _ _ _ c.if-read_item.ensures.found (past context_rows _ _ _ _ c.if-read_context.ensures.found (past chunk_rows _ _ _ _ c.if-read_chunk.ensures.found (past lock_rows _ _ _ _ c.if-read_lock.ensures.found (past snapshot_rows _ _ _ _ c.if-read_snapshot.ensures.found (past plan_rows _ _ _ _ c.if-read_plan.ensures.found (past portal_rows _ _ _ _ c.if-read_portal.ensures.found (c.if-read_tell.ensures.written refl)))))))))

pub returns : goal.returns
returns g c = of_whole _ _ _ _ c.requires (past transaction_rows _ _ _ _ c.if-read_transaction.ensures.found (past item_rows _ _ _ _ c.if-read_item.ensures.found (past context_rows _ _ _ _ c.if-read_context.ensures.found (past chunk_rows _ _ _ _ c.if-read_chunk.ensures.found (past lock_rows _ _ _ _ c.if-read_lock.ensures.found (past snapshot_rows _ _ _ _ c.if-read_snapshot.ensures.found (past plan_rows _ _ _ _ c.if-read_plan.ensures.found (past portal_rows _ _ _ _ c.if-read_portal.ensures.found (nowhere tell_rows _ _ c.if-read_tell.ensures.found)))))))))
