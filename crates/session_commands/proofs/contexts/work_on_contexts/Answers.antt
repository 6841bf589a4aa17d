use Rattle.session_commands.proofs.Words.{context_row}
use Rattle.session_commands.proofs.Lemmas.{as_row}
use Rattle.session_commands.proofs.contexts.work_on_contexts.Goals as goal

pub returns-in-Create : goal.returns-in-Create
returns-in-Create g c = record { performed = as_row context_row _ _ c.in-Create.is c.make_context.ensures.performed }

pub returns-in-Switch : goal.returns-in-Switch
returns-in-Switch g c = record { performed = as_row context_row _ _ c.in-Switch.is c.switch.ensures.performed }

pub returns-in-OnReset : goal.returns-in-OnReset
returns-in-OnReset g c = record { performed = as_row context_row _ _ c.in-OnReset.is c.register.ensures.performed }

pub returns-in-Reset : goal.returns-in-Reset
returns-in-Reset g c = record { performed = as_row context_row _ _ c.in-Reset.is c.reset.ensures.performed }

pub returns-in-ResetOnly : goal.returns-in-ResetOnly
returns-in-ResetOnly g c = record { performed = as_row context_row _ _ c.in-ResetOnly.is c.reset_only.ensures.performed }

pub returns-in-Delete : goal.returns-in-Delete
returns-in-Delete g c = record { performed = as_row context_row _ _ c.in-Delete.is c.delete.ensures.performed }

pub returns-in-DeleteChildren : goal.returns-in-DeleteChildren
returns-in-DeleteChildren g c = record { performed = as_row context_row _ _ c.in-DeleteChildren.is c.delete_children.ensures.performed }

pub returns-in-Reparent : goal.returns-in-Reparent
returns-in-Reparent g c = record { performed = as_row context_row _ _ c.in-Reparent.is c.reparent.ensures.performed }
