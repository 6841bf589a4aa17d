use Rattle.lock_local.proofs.Base.{ap, arith, is_held, List, Lock, set, sym, ◌∙◌}
use Rattle.lock_local.proofs.Lemmas.{freed_agrees, had_owner, is_held-filter}
use Rattle.lock_local.proofs.tag_walks.give_up_at.Goals as goal

pub returns-clause-agrees : goal.returns-clause-agrees
returns-clause-agrees g c = λ o m.
    let x = c.index_mut-lock.result.now in
    let y = c.give_up.new.lock in
    let written = c.give_up.ensures.lock in
    freed_agrees c.args.locks.now.items c.args.at x x y c.args.session c.args.shared.now c.give_up.new.shared c.requires.locks.in_order (omega (arith, c.requires.within, c.args.locks.now.ok.0)) c.index_mut-lock.ensures.value (ap (λ (z : Lock). z.object) written) (ap (λ (z : Lock). z.mode) written) (had_owner c.args.owner x y written) c.give_up.ensures.shared c.requires.agrees o m
    ∙ sym (ap (λ (zs : List Lock). is_held zs o m) c.keep_if_held.ensures ∙ is_held-filter (set c.args.locks.now.items c.args.at y) o m)
