use Rattle.std.proofs.Common.{ap, ◌∙◌}
use Rattle.temp_store.specs.Temp.{held}
use Rattle.temp_store.proofs.store.TempStore.held.Goals as goal

pub returns-clause-held : goal.returns-clause-held
unfolding held
returns-clause-held c = c.self.invariant.total ∙ ap held c.self.view_is
