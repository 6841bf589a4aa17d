use Rattle.std.proofs.Common.{rules}
use Rattle.reset_callbacks.proofs.PendingSteps.{newest_pop, none_pop, unchanged_pop}
use Rattle.reset_callbacks.proofs.pending_hooks.Pending.pop.Goals as goal

pub returns-clause-none : goal.returns-clause-none
returns-clause-none g c =
    rw (← c.self.view_is)
    (none_pop c.self.inside.hooks.items _ _ g.H.ResetHook.hook_meaning c.pop.ensures.items (λ more. c.pop.ensures.variant.1 (search rules)))

pub returns-clause-newest : goal.returns-clause-newest
returns-clause-newest g c =
    rw (← c.self.view_is) (newest_pop c.self.inside.hooks.items _ _ g.H.ResetHook.hook_meaning c.pop.ensures.items)

pub returns-clause-unchanged : goal.returns-clause-unchanged
returns-clause-unchanged g c =
    rw (← c.self.view_is) (unchanged_pop c.self.inside.hooks.items _ _ g.H.ResetHook.hook_meaning c.pop.ensures.items)
