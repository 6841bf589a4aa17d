use Rattle.session_commands.proofs.Words.{tell_row}
use Rattle.session_commands.proofs.Lemmas.{as_row}
use Rattle.session_commands.proofs.telling.tell.Goals as goal

pub returns-in-Report : goal.returns-in-Report
returns-in-Report g c = record { performed = as_row tell_row _ _ c.in-Report.is c.tell_contexts.ensures.performed }

pub returns-in-Stat : goal.returns-in-Stat
returns-in-Stat g c = record { performed = as_row tell_row _ _ c.in-Stat.is c.tell_counts.ensures.performed }

pub returns-in-Buffer : goal.returns-in-Buffer
returns-in-Buffer g c = record { performed = as_row tell_row _ _ c.in-Buffer.is c.tell_buffer.ensures.performed }
