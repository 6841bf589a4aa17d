use Rattle.std.proofs.Common.{ap, ◌∙◌, ◌∷◌}
use Rattle.reset_callbacks.proofs.PendingSteps.{newest_push}
use Rattle.reset_callbacks.proofs.pending_hooks.Pending.push.Goals as goal
use Rattle.reset_callbacks.proofs.pending_hooks.Pending.push.Goals.{in-Ok, in-Err}

pub returns-clause-ok : goal.returns-clause-ok
returns-clause-ok g c =
    elim c.match-push.branch [
      | in-Ok w ↦
          rw w.result-is
          (newest_push c.self.inside.hooks.items _ c.args.hook g.H.ResetHook.hook_meaning w.in-Ok.ensures.items
          ∙ ap (λ hooks. g.H.ResetHook.hook_meaning c.args.hook ∷ hooks) c.self.view_is)
      | in-Err w ↦ rw w.result-is tt
    ]
