use Rattle.alloc_set.proofs.Base.{ap, state_of, ◌∙◌}
use Rattle.alloc_set.proofs.AllocSet.free.Goals as goal

pub returns-clause-keeps : goal.returns-clause-keeps
returns-clause-keeps c = rw (← (ap state_of c.deref_mut.ensures.value ∙ c.self.view_is)) c.free.ensures.keeps
