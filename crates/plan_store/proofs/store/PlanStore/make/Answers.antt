use Rattle.std.proofs.Common.{refl, List, ◌≡◌, ℕ, false, Some, ap, ◌∙◌}
use Rattle.plan_store.specs.declared.plan.Plan.{Plan}
use Rattle.plan_store.specs.Plans.{Plans, IsHeld, references_to}
use Rattle.plan_store.proofs.PlanLemmas.{are-made, reserved_none, reserved_room}
use Rattle.plan_store.proofs.PlanCounts.{made_alike, told}
use Rattle.plan_store.proofs.store.PlanStore.make.Goals as goal

pub push-requires-clause-room : goal.push-requires-clause-room
push-requires-clause-room c = reserved_room c.self.inside.reserved c.args.plan c.self.inside.plans.room (ap (λ v. v.reserved) c.self.view_is ∙ c.requires) c.self.invariant.1

pub push-requires-clause-fresh : goal.push-requires-clause-fresh
push-requires-clause-fresh c = reserved_none (record { standing = c.self.inside.plans.plans; reserved = c.self.inside.reserved }) c.args.plan (ap (λ v. v.reserved) c.self.view_is ∙ c.requires) c.self.invariant.0

pub invariant_of-self : goal.invariant_of-self
invariant_of-self c =
    let made : Plan = record { context = c.args.context; discarded = false; references = 0 } in
    let held : IsHeld made = λ h. absurd (cc) in
    let reserved : c.self.inside.reserved ≡ Some c.args.plan = ap (λ v. v.reserved) c.self.view_is ∙ c.requires in
    (rw c.push.ensures (are-made (record { standing = c.self.inside.plans.plans; reserved = c.self.inside.reserved }) c.args.plan made held reserved c.self.invariant.0), tt)

pub returns-clause-counts : goal.returns-clause-counts
returns-clause-counts c = λ q.
    let made : Plan = record { context = c.args.context; discarded = false; references = 0 } in
    ap (λ (es : List (ℕ × Plan)). told q es) c.push.ensures ∙ made_alike c.args.plan q c.self.inside.plans.plans made refl ∙ ap (λ (v : Plans). references_to v q) c.self.view_is
