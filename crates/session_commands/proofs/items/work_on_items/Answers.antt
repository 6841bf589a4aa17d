use Rattle.session_commands.proofs.Words.{item_row}
use Rattle.session_commands.proofs.Lemmas.{as_row}
use Rattle.session_commands.proofs.items.work_on_items.Goals as goal

pub returns-in-Pin : goal.returns-in-Pin
returns-in-Pin g c = record { performed = as_row item_row _ _ c.in-Pin.is c.pin.ensures.performed }

pub returns-in-Unpin : goal.returns-in-Unpin
returns-in-Unpin g c = record { performed = as_row item_row _ _ c.in-Unpin.is c.unpin.ensures.performed }

pub returns-in-Open : goal.returns-in-Open
returns-in-Open g c = record { performed = as_row item_row _ _ c.in-Open.is c.open_file.ensures.performed }

pub returns-in-Touch : goal.returns-in-Touch
returns-in-Touch g c = record { performed = as_row item_row _ _ c.in-Touch.is c.touch.ensures.performed }

pub returns-in-Close : goal.returns-in-Close
returns-in-Close g c = record { performed = as_row item_row _ _ c.in-Close.is c.close_file.ensures.performed }

pub returns-in-Reference : goal.returns-in-Reference
returns-in-Reference g c = record { performed = as_row item_row _ _ c.in-Reference.is c.reference.ensures.performed }

pub returns-in-Unreference : goal.returns-in-Unreference
returns-in-Unreference g c = record { performed = as_row item_row _ _ c.in-Unreference.is c.unreference.ensures.performed }

pub returns-in-Acquire : goal.returns-in-Acquire
returns-in-Acquire g c = record { performed = as_row item_row _ _ c.in-Acquire.is c.acquire.ensures.performed }

pub returns-in-Drop : goal.returns-in-Drop
returns-in-Drop g c = record { performed = as_row item_row _ _ c.in-Drop.is c.give_up.ensures.performed }

pub returns-in-Snapshot : goal.returns-in-Snapshot
returns-in-Snapshot g c = record { performed = as_row item_row _ _ c.in-Snapshot.is c.register_snapshot.ensures.performed }

pub returns-in-Unsnapshot : goal.returns-in-Unsnapshot
returns-in-Unsnapshot g c = record { performed = as_row item_row _ _ c.in-Unsnapshot.is c.unregister_snapshot.ensures.performed }
