-- A reference to a plan is an item that plans keep count of.
use Rattle.session_commands.proofs.plans.unreference_plan.Goals as goal

pub returns : goal.returns
returns g c = record { performed = c.give_back.ensures.performed }
