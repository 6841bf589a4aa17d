use Rattle.lock_local.proofs.Base.{ap, arith, get_or, length, Lock, map_over_more, refl, release_of, set, sym, without, ◌<◌, ◌∙◌}
use Rattle.lock_local.proofs.Lemmas.{flat_map_at, freed_agrees, freed_others, had_owner, IsInOrder-set, others_more}
use Rattle.lock_local.proofs.walks.give_up_each.Goals as goal

pub loop-lock-preserved : goal.loop-lock-preserved
loop-lock-preserved g c =
    let x = c.lock-item.result in
    let items = c.args.locks.now in
    let now = c.loop-lock.locks in
    let i = c.loop-lock.lock-index in
    let within : i < length now = omega arith in
    let y = c.give_up.new.lock in
    let here = get_or now i x in
    let written = c.give_up.ensures.lock in
    record {
      in_order = IsInOrder-set now i x y c.loop-lock.invariant.in_order within (ap (λ (z : Lock). z.object) written) (ap (λ (z : Lock). z.mode) written);
      locks = ap (λ (z : Lock). set now i z) (written ∙ ap (without c.args.owner) (sym c.lock-item.is)) ∙ map_over_more (without c.args.owner) items now i x c.loop-lock-test.true c.loop-lock.invariant.locks c.lock-item.is;
      events = g.met.E.Emit.emits_more _ _ _ _ _ _ c.loop-lock.invariant.events c.give_up.ensures.events (flat_map_at (release_of c.args.owner) (without c.args.owner) items now i x c.loop-lock.invariant.locks c.loop-lock-test.true);
      agrees = freed_agrees now i x here y c.args.session c.loop-lock.shared c.give_up.new.shared c.loop-lock.invariant.in_order within refl (ap (λ (z : Lock). z.object) written) (ap (λ (z : Lock). z.mode) written) (had_owner c.args.owner here y written) c.give_up.ensures.shared c.loop-lock.invariant.agrees;
      others = others_more _ _ _ _ c.loop-lock.invariant.others (freed_others _ _ _ _ _ _ c.give_up.ensures.shared);
    }
