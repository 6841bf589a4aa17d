use Rattle.lock_local.proofs.Base.{ap, map_over_more, pass_of, passed_lock, set, sym, ◌∙◌}
use Rattle.lock_local.proofs.Lemmas.{flat_map_at}
use Rattle.lock_local.proofs.walks.pass_each.Goals as goal

pub loop-lock-preserved : goal.loop-lock-preserved
loop-lock-preserved g c =
    let x = c.lock-item.result in
    let items = c.args.locks.now in
    let i = c.loop-lock.lock-index in
    let f = passed_lock c.args.from c.args.to in
    record {
      locks = ap (λ y. set c.loop-lock.locks i y) (c.pass_on.ensures.lock ∙ ap f (sym c.lock-item.is)) ∙ map_over_more f items c.loop-lock.locks i x c.loop-lock-test.true c.loop-lock.invariant.locks c.lock-item.is;
      events = g.met.E.Emit.emits_more _ _ _ _ _ _ c.loop-lock.invariant.events c.pass_on.ensures.events (flat_map_at (pass_of c.args.from c.args.to) f items c.loop-lock.locks c.loop-lock.lock-index x c.loop-lock.invariant.locks c.loop-lock-test.true);
    }
