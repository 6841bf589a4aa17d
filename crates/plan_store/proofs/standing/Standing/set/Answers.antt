use Rattle.std.proofs.Common.{◌≡◌, nat_eq, None, Option, sym, ap, subst, ◌∙◌}
use Rattle.std.specs.Map.{lookup}
use Rattle.std.specs.Option.{IsSome, is_some, option_copied_mut}
use Rattle.std.proofs.lemmas.Bool.{true≢false}
use Rattle.plan_store.specs.declared.plan.Plan.{Plan}
use Rattle.plan_store.specs.Kept.{KeptPlans}
use Rattle.plan_store.proofs.KeptLemmas.{kept_set}
use Rattle.plan_store.proofs.standing.Standing.set.Goals.{in-Some, in_default}
use Rattle.plan_store.proofs.standing.Standing.set.Goals as goal

pub invariant_of-self : goal.invariant_of-self
invariant_of-self c =
    let stands : IsSome (lookup (nat_eq c.args.number) c.self.inside.order.plans) = subst (λ (k : KeptPlans). IsSome (lookup (nat_eq c.args.number) k.plans)) (sym c.self.view_is) c.requires in
    let found : IsSome (lookup (nat_eq c.args.number) c.self.inside.plans.entries) = subst (λ (o : Option Plan). IsSome o) (sym (c.self.invariant.same c.args.number)) stands in
    elim c.match-get_mut.branch [
      | in-Some w ↦ rw (w.self-inside-is, c.changed-order.ensures) (kept_set c.self.inside.plans.entries (c.get_mut.follows.lender c.args.plan).entries c.self.inside.order.plans c.args.number c.args.plan c.self.invariant stands ((c.get_mut.follows.holds c.args.plan).3 found).0)
      | in_default w ↦ let none : lookup (nat_eq c.args.number) c.self.inside.plans.entries ≡ None = sym c.get_mut.ensures.value ∙ ap option_copied_mut w.in_default.is in absurd (true≢false (sym found ∙ ap is_some none))
    ]
