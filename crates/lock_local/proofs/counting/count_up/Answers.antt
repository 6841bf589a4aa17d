use Rattle.lock_local.proofs.Base.{ap, arith, counted_up, insert, new_lock, WouldStandAt, ◌∙◌, ◌≡◌}
use Rattle.lock_local.proofs.Lemmas.{acquired_new, acquired_over, counted_up_agrees, new_agrees, no_lock}
use Rattle.lock_local.proofs.counting.count_up.Goals as goal

-- what a new lock at its place makes
new : (c : goal.After-put_in) → c.put_in.new.locks.items ≡ insert c.args.locks.now.items c.in-Err.at (new_lock c.args.object c.args.mode c.args.owner)
new c =
    let a = c.put_in.ensures in
    let b = c.in_ok-reserve-in-Err.ensures.items in
    let d = c.new-lock.ensures in
    cc (a, b, d)

missing : (c : goal.After-put_in) → WouldStandAt c.args.object c.args.mode c.args.locks.now.items c.in-Err.at no_lock
missing c = (c.in-Err.ensures no_lock)

pub index_mut-lock-requires : goal.index_mut-lock-requires
index_mut-lock-requires c = omega (arith, (c.in-Ok.ensures no_lock).within, c.args.locks.now.ok.0)

pub returns-in_ok-count_up-in-Ok-clause-ok : goal.returns-in_ok-count_up-in-Ok-clause-ok
returns-in_ok-count_up-in-Ok-clause-ok c =
    acquired_over c.args.owner c.args.object c.args.mode c.args.locks.now.items c.in-Ok.at c.index_mut-lock.result.now c.count_up.new.self
    (c.in-Ok.ensures c.index_mut-lock.result.now) c.index_mut-lock.ensures.value c.in_ok-count_up-in-Ok.ensures.ok

pub returns-in_ok-count_up-in-Ok-clause-agrees : goal.returns-in_ok-count_up-in-Ok-clause-agrees
returns-in_ok-count_up-in-Ok-clause-agrees c =
    counted_up_agrees c.args.owner c.args.object c.args.mode c.args.locks.now.items c.in-Ok.at c.index_mut-lock.result.now c.count_up.new.self c.args.session c.args.shared.now c.requires.locks
    (c.in-Ok.ensures c.index_mut-lock.result.now) (c.in_ok-count_up-in-Ok.ensures.ok ∙ ap (counted_up c.args.owner) c.index_mut-lock.ensures.value) c.requires.agrees

pub put_in-requires-clause-within : goal.put_in-requires-clause-within
put_in-requires-clause-within c = omega (arith, (c.in-Err.ensures no_lock).within, c.args.locks.now.ok.0, c.in_ok-reserve-in-Err.ensures.len)

pub returns-in_ok-grant-in-Err-clause-ok : goal.returns-in_ok-grant-in-Err-clause-ok
returns-in_ok-grant-in-Err-clause-ok c = new c ∙ acquired_new c.args.owner c.args.object c.args.mode c.args.locks.now.items c.in-Err.at no_lock (missing c)

pub returns-in_ok-grant-in-Err-clause-agrees : goal.returns-in_ok-grant-in-Err-clause-agrees
returns-in_ok-grant-in-Err-clause-agrees c =
    new_agrees c.args.owner c.args.object c.args.mode c.args.locks.now.items c.put_in.new.locks.items c.in-Err.at c.args.session c.args.shared.now c.grant.new.self (new c) c.in_ok-grant-in-Err.ensures.ok c.requires.agrees
