use Rattle.lock_local.proofs.Base.{ap, arith, filter, has_owner, List, release_of, subst, sym, What, without, ◌∙◌}
use Rattle.lock_local.proofs.Lemmas.{all_kept, at_none, no_lock, none_standing, told_none, told_place}
use Rattle.lock_local.proofs.StepLemmas.{at_place}
use Rattle.lock_local.proofs.tag_walks.give_up_one.Goals as goal

pub give_up_at-requires-clause-within : goal.give_up_at-requires-clause-within
give_up_at-requires-clause-within g c = omega (arith, (c.in-Ok.ensures no_lock).within, c.args.locks.now.ok.0)

pub returns-in-Ok-clause-locks : goal.returns-in-Ok-clause-locks
returns-in-Ok-clause-locks g c =
    c.give_up_at.ensures.locks no_lock
    ∙ ap (filter has_owner) (at_place c.args.object c.args.mode (without c.args.owner) c.args.locks.now.items c.in-Ok.at no_lock c.requires.locks.in_order (c.in-Ok.ensures no_lock))

pub returns-in-Ok-clause-events : goal.returns-in-Ok-clause-events
returns-in-Ok-clause-events g c =
    subst (λ (es : List What). g.E.Emit.emits c.args.out.now es c.give_up_at.new.out)
    (told_place c.args.object c.args.mode (release_of c.args.owner) c.args.locks.now.items c.in-Ok.at no_lock c.requires.locks.in_order (c.in-Ok.ensures no_lock))
    (c.give_up_at.ensures.events no_lock)

pub returns-in_default-clause-locks : goal.returns-in_default-clause-locks
returns-in_default-clause-locks g c =
    let none = none_standing c.args.locks.now.items c.in_default.field-0 no_lock c.args.object c.args.mode c.requires.locks.in_order (c.in_default.ensures no_lock) in
    sym (ap (filter has_owner) (at_none c.args.object c.args.mode (without c.args.owner) c.args.locks.now.items none) ∙ all_kept c.args.locks.now.items c.requires.locks.owned)

pub returns-in_default-clause-events : goal.returns-in_default-clause-events
returns-in_default-clause-events g c =
    let none = none_standing c.args.locks.now.items c.in_default.field-0 no_lock c.args.object c.args.mode c.requires.locks.in_order (c.in_default.ensures no_lock) in
    subst (λ (es : List What). g.E.Emit.emits c.args.out.now es c.args.out.now) (sym (told_none c.args.object c.args.mode (release_of c.args.owner) c.args.locks.now.items none)) (g.met.E.Emit.emits_none c.args.out.now)
