use Rattle.lock_local.proofs.Base.{ap, length, length-map, List, Lock, map, passed_lock, passes, subst, sym, ◌∙◌, ◌≡◌}
use Rattle.lock_local.proofs.walks.pass_all.Goals as goal

pub returns-clause-locks : goal.returns-clause-locks
returns-clause-locks g c =
    let f = passed_lock c.args.from c.args.to in
    let written : c.pass_each.new.locks ≡ map f c.args.locks.now.items = c.pass_each.ensures.locks ∙ ap (map f) c.make_contiguous.ensures.value in
    c.make_contiguous.ensures.writes_back c.pass_each.new.locks (ap length written ∙ length-map c.args.locks.now.items f ∙ sym c.args.locks.now.ok.0) ∙ written

pub returns-clause-events : goal.returns-clause-events
returns-clause-events g c = subst (λ (zs : List Lock). g.E.Emit.emits c.args.out.now (passes c.args.from c.args.to zs) c.pass_each.new.out) c.make_contiguous.ensures.value c.pass_each.ensures.events
