use Rattle.lock_shared.proofs.Base.{ap, sym, ◌∙◌, ◌==◌, Some, is_some, set_value_same}
use Rattle.lock_shared.proofs.Lemmas.{kept_added, kept_at, kept_with, OnErr-map, held_at}
use Rattle.lock_shared.proofs.shared_locks.put.Goals as goal

pub returns-in-Some-clause-kept : goal.returns-in-Some-clause-kept
returns-in-Some-clause-kept c =
    let h = c.args.holding in
    let es = c.args.objects.now.entries in
    let w = c.add.new.holders in
    kept_with es _ h.object (Some w) c.requires (c.get_mut.follows.holds w).4
    (kept_added c.add.result h c.in-Some.holders.now w c.add.ensures.ok c.add.ensures.err (kept_at es h.object c.in-Some.holders.now c.requires c.in-Some.ensures.value))
    ((c.get_mut.follows.holds w).3 (sym (ap is_some c.in-Some.ensures.value))).0

pub returns-in-Some-clause-again : goal.returns-in-Some-clause-again
returns-in-Some-clause-again c = λ held.
    let h = c.args.holding in
    let es = c.args.objects.now.entries in
    let w = c.add.new.holders in
    (c.get_mut.follows.holds w).0
    ∙ set_value_same (λ n. h.object == n) es w (sym c.in-Some.ensures.value ∙ ap Some (sym (c.add.ensures.again (held_at es h c.in-Some.holders.now c.in-Some.ensures.value held))))

pub returns-in-Some-clause-err : goal.returns-in-Some-clause-err
returns-in-Some-clause-err c =
    let es = c.args.objects.now.entries in
    let w = c.add.new.holders in
    OnErr-map c.add.result (λ same. (c.get_mut.follows.holds w).0 ∙ set_value_same (λ n. c.args.holding.object == n) es w (sym c.in-Some.ensures.value ∙ ap Some (sym same))) c.add.ensures.err
