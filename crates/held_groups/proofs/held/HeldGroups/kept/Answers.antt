use Rattle.std.proofs.Common.{sym, subst}
use Rattle.addr_space.specs.Footprint.{Keeps}
use Rattle.held_groups.specs.Held.{Held, footprint, HasTotals}
use Rattle.held_groups.proofs.Joining.{HasTotals-kept}
use Rattle.held_groups.proofs.held.HeldGroups.kept.Goals as goal

pub returns : goal.returns
returns c = λ s t keeps has.
    subst (λ (h : Held). HasTotals h t) c.self.view_is
    (HasTotals-kept _ s t c.self.invariant (subst (λ (h : Held). Keeps (footprint h) (footprint h) s t) (sym c.self.view_is) keeps) (subst (λ (h : Held). HasTotals h s) (sym c.self.view_is) has))
