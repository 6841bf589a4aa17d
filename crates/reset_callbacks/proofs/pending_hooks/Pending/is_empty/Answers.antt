use Rattle.std.proofs.Common.{rules}
use Rattle.reset_callbacks.proofs.PendingSteps.{empty_both}
use Rattle.reset_callbacks.proofs.pending_hooks.Pending.is_empty.Goals as goal

pub returns : goal.returns
returns g c =
    rw (← c.self.view_is) (empty_both c.self.inside.hooks.items g.H.ResetHook.hook_meaning c.is_empty.result (search rules))
