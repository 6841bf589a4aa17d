use Rattle.session_commands.proofs.Words.{chunk_row}
use Rattle.session_commands.proofs.Lemmas.{as_row}
use Rattle.session_commands.proofs.chunks.work_on_chunks.Goals as goal

pub returns-in-Alloc : goal.returns-in-Alloc
returns-in-Alloc g c = record { performed = as_row chunk_row _ _ c.in-Alloc.is c.alloc.ensures.performed }

pub returns-in-AllocZeroed : goal.returns-in-AllocZeroed
returns-in-AllocZeroed g c = record { performed = as_row chunk_row _ _ c.in-AllocZeroed.is c.alloc_zeroed.ensures.performed }

pub returns-in-Realloc : goal.returns-in-Realloc
returns-in-Realloc g c = record { performed = as_row chunk_row _ _ c.in-Realloc.is c.realloc.ensures.performed }

pub returns-in-Free : goal.returns-in-Free
returns-in-Free g c = record { performed = as_row chunk_row _ _ c.in-Free.is c.free.ensures.performed }

pub returns-in-Put : goal.returns-in-Put
returns-in-Put g c = record { performed = as_row chunk_row _ _ c.in-Put.is c.put.ensures.performed }

pub returns-in-Show : goal.returns-in-Show
returns-in-Show g c = record { performed = as_row chunk_row _ _ c.in-Show.is c.show.ensures.performed }
