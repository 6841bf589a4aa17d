use Rattle.lock_local.proofs.Base.{ap, arith, HoldsBoth, is_held, List, Lock, SessionLocks, total, WholeStays, ◌∙◌, ◌≡◌}
use Rattle.lock_local.proofs.Lemmas.{by_view, counts_both, fit_passed, is_held-passed, totals_passed, wholes_passed}
use Rattle.lock_local.proofs.lock_table.LockTable.pass_held.Goals as goal

pub invariant_of-self : goal.invariant_of-self
invariant_of-self g c = record {
  fits = fit_passed c.args.from.number c.args.to.number _ _ c.self.invariant.fits c.pass_recalled.ensures.locks;
  by_owner = c.hand_on.ensures.by_owner;
  remembers = c.hand_on.ensures.remembers c.self.inside.locks.items c.pass_recalled.new.locks.items c.self.invariant.remembers (counts_both c.args.from.number c.args.to.number _ _ c.pass_recalled.ensures.locks);
  taken = omega (arith, c.self.invariant.taken, totals_passed c.args.from.number c.args.to.number _ _ c.pass_recalled.ensures.locks);
}

pub returns-clause-held : goal.returns-clause-held
returns-clause-held g c = λ o m.
    ap (λ (zs : List Lock). is_held zs o m) c.pass_recalled.ensures.locks
    ∙ is_held-passed c.args.from.number c.args.to.number c.self.inside.locks.items o m
    ∙ ap (λ (t : SessionLocks). is_held t.locks o m) c.self.view_is

pub returns-clause-locks : goal.returns-clause-locks
returns-clause-locks g c = (fit_passed c.args.from.number c.args.to.number _ _ c.self.invariant.fits c.pass_recalled.ensures.locks).0

pub returns-clause-counts : goal.returns-clause-counts
returns-clause-counts g c = by_view (λ (zs : List Lock). HoldsBoth zs c.pass_recalled.new.locks.items c.args.from.number c.args.to.number) _ _ _ c.self.view_is (counts_both c.args.from.number c.args.to.number _ _ c.pass_recalled.ensures.locks)

pub returns-clause-wholes : goal.returns-clause-wholes
returns-clause-wholes g c = by_view (λ (zs : List Lock). WholeStays zs c.pass_recalled.new.locks.items) _ _ _ c.self.view_is (wholes_passed c.args.from.number c.args.to.number _ _ c.pass_recalled.ensures.locks)

pub returns-clause-total : goal.returns-clause-total
returns-clause-total g c = by_view (λ (zs : List Lock). total c.pass_recalled.new.locks.items ≡ total zs) _ _ _ c.self.view_is (totals_passed c.args.from.number c.args.to.number _ _ c.pass_recalled.ensures.locks)
