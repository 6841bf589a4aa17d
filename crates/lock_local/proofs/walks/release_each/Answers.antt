use Rattle.lock_local.proofs.Base.{[], ap, Lock, map, map_more, release_whole, sym, take, ◌++◌, ◌∙◌, ◌∷◌}
use Rattle.lock_local.proofs.Lemmas.{rest_agrees}
use Rattle.lock_local.proofs.walks.release_each.Goals as goal

pub loop-lock-preserved : goal.loop-lock-preserved
loop-lock-preserved g c =
    let x = c.lock-item.result in
    let locks = c.args.locks.now in
    let i = c.loop-lock.lock-index in
    let f = release_whole c.args.top in
    record {
      events = g.met.E.Emit.emits_more _ _ _ _ _ _ c.loop-lock.invariant.events c.release_lock.ensures.events (ap (λ (z : Lock). map f (take i locks) ++ f z ∷ []) c.lock-item.is ∙ sym (map_more f locks i x c.loop-lock-test.true));
      agrees = rest_agrees locks i x x c.args.session c.loop-lock.shared c.release_lock.new.shared c.requires.in_order c.loop-lock-test.true c.lock-item.is c.release_lock.ensures.shared c.loop-lock.invariant.agrees;
      others = λ o m s other. c.release_lock.ensures.shared.others_sessions o m s other ∙ c.loop-lock.invariant.others o m s other;
    }
