use Rattle.std.proofs.Common.{nat_eq, ap, ◌∙◌}
use Rattle.std.specs.List.{list_any}
use Rattle.agg_rules.specs.Passes.{kept_groups}
use Rattle.agg_pass.specs.PassState.{PassState}
use Rattle.agg_pass.proofs.Going.{groups_of-pass}
use Rattle.agg_pass.proofs.pass.AggPass.has.Goals as goal

pub returns : goal.returns
returns c =
    c.has.ensures ∙ ap (list_any (nat_eq c.args.group)) (groups_of-pass _ c.self.invariant) ∙ ap (λ (p : PassState). list_any (nat_eq c.args.group) (kept_groups p.budget p.rows)) c.self.view_is
