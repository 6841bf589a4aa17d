use Rattle.lock_local.proofs.Base.{ap, arith, get_or, List, OwnerCount, sym, ◌∙◌}
use Rattle.lock_local.proofs.Lemmas.{found, lowered_gone, lowered_over, no_count, none_held, not_found}
use Rattle.lock_local.proofs.local_lock.lower.Goals as goal

pub returns-then-deref-at-eq1 : goal.returns-then-deref-at-eq1
returns-then-deref-at-eq1 c =
    c.remove.ensures.items
    ∙ lowered_gone _ _ _ no_count (found _ _ _ _ _ _ c.place_of.ensures c.as_slice.ensures c.in-Some.is)
    (ap (λ (l : List OwnerCount). (get_or l c.in-Some.at no_count).count) (sym c.deref.ensures) ∙ c.if-deref-at-eq1.true)

pub returns-else-deref-at-eq1 : goal.returns-else-deref-at-eq1
returns-else-deref-at-eq1 c =
    lowered_over _ c.args.owners.now _ _ (found _ _ _ _ _ _ c.place_of.ensures c.as_slice.ensures c.in-Some.is) c.deref_mut.ensures.value
    (λ one. c.if-deref-at-eq1.false (ap (λ (l : List OwnerCount). (get_or l c.in-Some.at no_count).count) c.deref.ensures ∙ one))

pub returns-in_default : goal.returns-in_default
returns-in_default c =
    let none = none_held _ _ no_count (not_found _ _ _ _ _ c.place_of.ensures c.as_slice.ensures c.in_default.is) in
    absurd (omega (arith, none, c.requires.held))
