use Rattle.std.proofs.Common.{rules}
use Rattle.reset_callbacks.proofs.ShelfSteps.{length-fresh}
use Rattle.reset_callbacks.proofs.hook_shelf.Shelf.fresh.Goals as goal

pub returns-clause-count : goal.returns-clause-count
returns-clause-count g c =
    rw (← c.self.view_is, length-fresh c.self.inside.fresh.items g.H.ResetHook.hook_meaning) (search rules)
