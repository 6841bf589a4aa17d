use Rattle.session_owners.proofs.Base.{◌≡◌, ◌+◌, map, nat_eq, refl, subst, sym, ◌∙◌, ap, lookup, set_value}
use Rattle.session_owners.proofs.Words.{Plans, is_usable, plan_changed, plan_state, AreLeft, Held}
use Rattle.session_owners.proofs.Lemmas.{in_some, is_kept, left_set, parted, states_set}
use Rattle.session_owners.proofs.tables.Tables.reference_plan.Goals as goal

pub returns-clause-changed : goal.returns-clause-changed
returns-clause-changed c =
    let same : c.self.inside.plans ≡ c.args.self.now.plans = ap (λ (h : Held). h.plans) c.self.view_is in
    let k = is_kept (lookup (nat_eq c.args.plan) c.self.inside.plans.standing) (ap (λ (p : Plans). is_usable p c.args.plan) same ∙ c.requires.usable) in
    let is : c.add_ref.new.self.standing ≡ set_value (nat_eq c.args.plan) c.self.inside.plans.standing (record k.0 { references = k.0.references + 1 }) =
    in_some (lookup (nat_eq c.args.plan) c.self.inside.plans.standing) k.0 (λ kept. c.add_ref.new.self.standing ≡ set_value (nat_eq c.args.plan) c.self.inside.plans.standing (record kept { references = kept.references + 1 })) k.1 c.in_default.ensures.added in
    subst (λ (p : Plans). map plan_state c.add_ref.new.self.standing ≡ plan_changed c.args.plan (λ q. record q { references = q.references + 1 }) (map plan_state p.standing)) same
    (ap (map plan_state) is
    ∙ sym (states_set c.args.plan k.0 c.self.inside.plans.standing (parted c.args.plan c.self.inside.plans.standing k.0 c.laws.ensures.sound.different k.1) (λ q. record q { references = q.references + 1 }) (record k.0 { references = k.0.references + 1 }) refl))

pub returns-clause-left : goal.returns-clause-left
returns-clause-left c =
    let same : c.self.inside.plans ≡ c.args.self.now.plans = ap (λ (h : Held). h.plans) c.self.view_is in
    let k = is_kept (lookup (nat_eq c.args.plan) c.self.inside.plans.standing) (ap (λ (p : Plans). is_usable p c.args.plan) same ∙ c.requires.usable) in
    subst (λ (p : Plans). AreLeft p.standing c.add_ref.new.self.standing) same
    (left_set c.args.plan c.self.inside.plans.standing c.add_ref.new.self.standing k.0 (record k.0 { references = k.0.references + 1 }) k.1 refl
    (in_some (lookup (nat_eq c.args.plan) c.self.inside.plans.standing) k.0 (λ kept. c.add_ref.new.self.standing ≡ set_value (nat_eq c.args.plan) c.self.inside.plans.standing (record kept { references = kept.references + 1 })) k.1 c.in_default.ensures.added))
