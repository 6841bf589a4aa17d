use Rattle.session_commands.proofs.Words.{plan_row}
use Rattle.session_commands.proofs.Lemmas.{as_row}
use Rattle.session_commands.proofs.plans.work_on_plans.Goals as goal

pub returns-in-Create : goal.returns-in-Create
returns-in-Create g c = record { performed = as_row plan_row _ _ c.in-Create.is c.make_plan.ensures.performed }

pub returns-in-Reference : goal.returns-in-Reference
returns-in-Reference g c = record { performed = as_row plan_row _ _ c.in-Reference.is c.reference_plan.ensures.performed }

pub returns-in-Unreference : goal.returns-in-Unreference
returns-in-Unreference g c = record { performed = as_row plan_row _ _ c.in-Unreference.is c.unreference_plan.ensures.performed }

pub returns-in-Drop : goal.returns-in-Drop
returns-in-Drop g c = record { performed = as_row plan_row _ _ c.in-Drop.is c.discard_plan.ensures.performed }
