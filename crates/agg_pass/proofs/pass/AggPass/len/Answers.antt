use Rattle.std.proofs.Common.{ℕ, List, length, ap, ◌∙◌}
use Rattle.agg_rules.specs.Passes.{kept_groups}
use Rattle.agg_pass.specs.PassState.{PassState}
use Rattle.agg_pass.proofs.Going.{groups_of-pass}
use Rattle.agg_pass.proofs.pass.AggPass.len.Goals as goal

pub returns : goal.returns
returns c =
    c.len.ensures ∙ ap (λ (gs : List ℕ). length gs) (groups_of-pass _ c.self.invariant) ∙ ap (λ (p : PassState). length (kept_groups p.budget p.rows)) c.self.view_is
