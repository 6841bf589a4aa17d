use Rattle.lock_local.proofs.Base.{ap, filter, has_owner, is_held, IsInOrder, length, length-map, List, Lock, map, releases, subst, sym, without, ◌∙◌, ◌≡◌}
use Rattle.lock_local.proofs.Lemmas.{is_held-filter}
use Rattle.lock_local.proofs.walks.give_up_all.Goals as goal

pub give_up_each-requires-clause-in_order : goal.give_up_each-requires-clause-in_order
give_up_each-requires-clause-in_order g c = subst IsInOrder (sym c.make_contiguous.ensures.value) c.requires.in_order

pub give_up_each-requires-clause-agrees : goal.give_up_each-requires-clause-agrees
give_up_each-requires-clause-agrees g c = λ o m. c.requires.agrees o m ∙ ap (λ (zs : List Lock). is_held zs o m) (sym c.make_contiguous.ensures.value)

pub returns-clause-locks : goal.returns-clause-locks
returns-clause-locks g c =
    let f = without c.args.owner in
    let written : c.give_up_each.new.locks ≡ map f c.args.locks.now.items = c.give_up_each.ensures.locks ∙ ap (map f) c.make_contiguous.ensures.value in
    let back = c.make_contiguous.ensures.writes_back c.give_up_each.new.locks (ap length written ∙ length-map c.args.locks.now.items f ∙ sym c.args.locks.now.ok.0) in
    c.keep_held.ensures ∙ ap (filter has_owner) (back ∙ written)

pub returns-clause-events : goal.returns-clause-events
returns-clause-events g c = subst (λ (zs : List Lock). g.E.Emit.emits c.args.out.now (releases c.args.owner zs) c.give_up_each.new.out) c.make_contiguous.ensures.value c.give_up_each.ensures.events

pub returns-clause-agrees : goal.returns-clause-agrees
returns-clause-agrees g c = λ o m.
    let f = without c.args.owner in
    let written : c.give_up_each.new.locks ≡ map f c.args.locks.now.items = c.give_up_each.ensures.locks ∙ ap (map f) c.make_contiguous.ensures.value in
    let back = c.make_contiguous.ensures.writes_back c.give_up_each.new.locks (ap length written ∙ length-map c.args.locks.now.items f ∙ sym c.args.locks.now.ok.0) in
    c.give_up_each.ensures.agrees o m
    ∙ sym (ap (λ (zs : List Lock). is_held zs o m) (c.keep_held.ensures ∙ ap (filter has_owner) back) ∙ is_held-filter c.give_up_each.new.locks o m)
