use Rattle.std.proofs.Common.{sym, subst}
use Rattle.addr_space.specs.Footprint.{Keeps}
use Rattle.held_groups.specs.Held.{footprint, HasTotals}
use Rattle.agg_pass.specs.PassState.{PassState}
use Rattle.agg_pass.proofs.pass.AggPass.kept.Goals as goal

pub returns : goal.returns
returns c = λ s t keeps has.
    subst (λ (p : PassState). HasTotals p.groups t) c.self.view_is
    (c.kept.ensures s t (subst (λ (p : PassState). Keeps (footprint p.groups) (footprint p.groups) s t) (sym c.self.view_is) keeps) (subst (λ (p : PassState). HasTotals p.groups s) (sym c.self.view_is) has))
