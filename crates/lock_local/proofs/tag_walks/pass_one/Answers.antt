use Rattle.lock_local.proofs.Base.{ap, arith, List, Lock, pass_of, passed_lock, set, subst, sym, What, ◌∙◌}
use Rattle.lock_local.proofs.Lemmas.{at_none, no_lock, none_standing, told_none, told_place}
use Rattle.lock_local.proofs.StepLemmas.{at_place}
use Rattle.lock_local.proofs.tag_walks.pass_one.Goals as goal

pub index_mut-lock-requires : goal.index_mut-lock-requires
index_mut-lock-requires g c = omega (arith, (c.in-Ok.ensures no_lock).within, c.args.locks.now.ok.0)

pub returns-in-Ok-clause-locks : goal.returns-in-Ok-clause-locks
returns-in-Ok-clause-locks g c =
    let x = c.index_mut-lock.result.now in
    ap (λ (z : Lock). set c.args.locks.now.items c.in-Ok.at z) (c.pass_on.ensures.lock ∙ ap (passed_lock c.args.from c.args.to) c.index_mut-lock.ensures.value)
    ∙ at_place c.args.object c.args.mode (passed_lock c.args.from c.args.to) c.args.locks.now.items c.in-Ok.at x c.requires (c.in-Ok.ensures x)

pub returns-in-Ok-clause-events : goal.returns-in-Ok-clause-events
returns-in-Ok-clause-events g c =
    let x = c.index_mut-lock.result.now in
    subst (λ (es : List What). g.E.Emit.emits c.args.out.now es c.pass_on.new.out)
    (ap (pass_of c.args.from c.args.to) c.index_mut-lock.ensures.value ∙ told_place c.args.object c.args.mode (pass_of c.args.from c.args.to) c.args.locks.now.items c.in-Ok.at x c.requires (c.in-Ok.ensures x))
    c.pass_on.ensures.events

pub returns-in_default-clause-locks : goal.returns-in_default-clause-locks
returns-in_default-clause-locks g c =
    let none = none_standing c.args.locks.now.items c.in_default.field-0 no_lock c.args.object c.args.mode c.requires (c.in_default.ensures no_lock) in
    sym (at_none c.args.object c.args.mode (passed_lock c.args.from c.args.to) c.args.locks.now.items none)

pub returns-in_default-clause-events : goal.returns-in_default-clause-events
returns-in_default-clause-events g c =
    let none = none_standing c.args.locks.now.items c.in_default.field-0 no_lock c.args.object c.args.mode c.requires (c.in_default.ensures no_lock) in
    subst (λ (es : List What). g.E.Emit.emits c.args.out.now es c.args.out.now) (sym (told_none c.args.object c.args.mode (pass_of c.args.from c.args.to) c.args.locks.now.items none)) (g.met.E.Emit.emits_none c.args.out.now)
