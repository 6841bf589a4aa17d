use Rattle.session_owners.proofs.Base.{nat_tests, arith, ◌≡◌, ◌∙◌, None, Some, ap, nat_eq, refl, subst, sym, true, ◌==◌, if◌then◌else◌, IfSome, lookup, remove_entry, set_value}
use Rattle.session_owners.proofs.Words.{CtxId, hosting_of}
use Rattle.session_owners.proofs.Lemmas.{fit_gone, fit_set, in_some, is_kept, discard_goes, discard_stays, left_gone, left_set, of_plan, on_none, on_some, picks}
use Rattle.session_owners.proofs.plans.discard.Goals as goal

pub drop_context-requires : goal.drop_context-requires
drop_context-requires g c =
    let k = is_kept (lookup (nat_eq c.args.plan) c.args.plans.now.standing) c.requires.usable in
    let picked = sym c.in-Ok-Some.field-0-is ∙ in_some (lookup (nat_eq c.args.plan) c.args.plans.now.standing) k.0 (λ kept. c.in-Ok-Some.field-0 ≡ (if kept.references == 0 then Some kept.context else None)) k.1 c.in-Ok-Some.ensures.context in
    let p = picks (k.0.references == 0) c.in-Ok-Some.context k.0.context picked in
    record { may = subst (g.P.PlanContexts.MayGo c.args.place.now) (sym p.1) (of_plan (g.P.PlanContexts.MayGo c.args.place.now) c.args.plan c.args.plans.now.standing k.0 k.1 c.requires.fit.each) }

pub returns-in-Ok-Some-clause-done : goal.returns-in-Ok-Some-clause-done
returns-in-Ok-Some-clause-done g c =
    let k = is_kept (lookup (nat_eq c.args.plan) c.args.plans.now.standing) c.requires.usable in
    let picked = sym c.in-Ok-Some.field-0-is ∙ in_some (lookup (nat_eq c.args.plan) c.args.plans.now.standing) k.0 (λ kept. c.in-Ok-Some.field-0 ≡ (if kept.references == 0 then Some kept.context else None)) k.1 c.in-Ok-Some.ensures.context in (
      _,
      discard_goes c.args.plan k.0 c.args.plans.now.standing c.discard.new.self.standing c.in-Ok-Some.context (hosting_of (g.P.PlanContexts.contexts c.args.place.now) (g.P.PlanContexts.shelf c.args.place.now)) (hosting_of (g.P.PlanContexts.contexts c.drop_context.new.self) (g.P.PlanContexts.shelf c.drop_context.new.self))
          c.laws.ensures.sound.different k.1 picked (on_some c.in-Ok-Some.field-0 c.in-Ok-Some.context (c.discard.new.self.standing ≡ remove_entry (nat_eq c.args.plan) c.args.plans.now.standing) c.in-Ok-Some.field-0-is c.in-Ok-Some.ensures.gone) c.drop_context.ensures.contexts c.drop_context.ensures.shelf,
      c.drop_context.ensures.emits,
    )

pub returns-in-Ok-Some-clause-fit : goal.returns-in-Ok-Some-clause-fit
returns-in-Ok-Some-clause-fit g c =
    let k = is_kept (lookup (nat_eq c.args.plan) c.args.plans.now.standing) c.requires.usable in
    let picked = sym c.in-Ok-Some.field-0-is ∙ in_some (lookup (nat_eq c.args.plan) c.args.plans.now.standing) k.0 (λ kept. c.in-Ok-Some.field-0 ≡ (if kept.references == 0 then Some kept.context else None)) k.1 c.in-Ok-Some.ensures.context in
    let p = picks (k.0.references == 0) c.in-Ok-Some.context k.0.context picked in
    fit_gone (g.P.PlanContexts.MayGo c.args.place.now) (g.P.PlanContexts.MayGo c.drop_context.new.self) c.in-Ok-Some.context c.drop_context.ensures.others c.args.plan c.args.plans.now.standing c.discard.new.self.standing k.0 k.1
    (ap (λ (i : CtxId). i.number) (sym p.1)) (on_some c.in-Ok-Some.field-0 c.in-Ok-Some.context (c.discard.new.self.standing ≡ remove_entry (nat_eq c.args.plan) c.args.plans.now.standing) c.in-Ok-Some.field-0-is c.in-Ok-Some.ensures.gone) c.requires.fit

pub returns-in-Ok-Some-clause-left : goal.returns-in-Ok-Some-clause-left
returns-in-Ok-Some-clause-left g c = grind (arith, nat_tests, left_gone c.args.plan c.args.plans.now.standing c.discard.new.self.standing (on_some c.in-Ok-Some.field-0 c.in-Ok-Some.context (c.discard.new.self.standing ≡ remove_entry (nat_eq c.args.plan) c.args.plans.now.standing) c.in-Ok-Some.field-0-is c.in-Ok-Some.ensures.gone), c.in-Ok-Some.ensures.gone)

pub returns-in-Ok-None-clause-done : goal.returns-in-Ok-None-clause-done
returns-in-Ok-None-clause-done g c = grind (arith, nat_tests, is_kept (lookup (nat_eq c.args.plan) c.args.plans.now.standing) c.requires.usable, in_some (lookup (nat_eq c.args.plan) c.args.plans.now.standing) (is_kept (lookup (nat_eq c.args.plan) c.args.plans.now.standing) c.requires.usable).0, on_none c.in-Ok-None.field-0, discard_stays, c.requires.usable, c.in-Ok-None.field-0-is, c.in-Ok-None.ensures.context, c.laws.ensures.sound.different, c.in-Ok-None.ensures.stays)

pub returns-in-Ok-None-clause-fit : goal.returns-in-Ok-None-clause-fit
returns-in-Ok-None-clause-fit g c =
    let k = is_kept (lookup (nat_eq c.args.plan) c.args.plans.now.standing) c.requires.usable in
    fit_set (g.P.PlanContexts.MayGo c.args.place.now) c.args.plan c.args.plans.now.standing c.discard.new.self.standing k.0 (record k.0 { discarded = true }) k.1 refl
    (in_some (lookup (nat_eq c.args.plan) c.args.plans.now.standing) k.0 (λ kept. c.discard.new.self.standing ≡ set_value (nat_eq c.args.plan) c.args.plans.now.standing (record kept { discarded = true })) k.1
    (on_none c.in-Ok-None.field-0 (IfSome (lookup (nat_eq c.args.plan) c.args.plans.now.standing) (λ kept. c.discard.new.self.standing ≡ set_value (nat_eq c.args.plan) c.args.plans.now.standing (record kept { discarded = true }))) c.in-Ok-None.field-0-is c.in-Ok-None.ensures.stays)) c.requires.fit

pub returns-in-Ok-None-clause-left : goal.returns-in-Ok-None-clause-left
returns-in-Ok-None-clause-left g c =
    let k = is_kept (lookup (nat_eq c.args.plan) c.args.plans.now.standing) c.requires.usable in
    left_set c.args.plan c.args.plans.now.standing c.discard.new.self.standing k.0 (record k.0 { discarded = true }) k.1 refl
    (in_some (lookup (nat_eq c.args.plan) c.args.plans.now.standing) k.0 (λ kept. c.discard.new.self.standing ≡ set_value (nat_eq c.args.plan) c.args.plans.now.standing (record kept { discarded = true })) k.1
    (on_none c.in-Ok-None.field-0 (IfSome (lookup (nat_eq c.args.plan) c.args.plans.now.standing) (λ kept. c.discard.new.self.standing ≡ set_value (nat_eq c.args.plan) c.args.plans.now.standing (record kept { discarded = true }))) c.in-Ok-None.field-0-is c.in-Ok-None.ensures.stays))
