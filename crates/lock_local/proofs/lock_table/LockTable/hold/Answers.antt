use Rattle.lock_local.proofs.Base.{ap, arith, HoldsOneMore, List, Lock, Recall, Remembers, subst, sym, total, WholeOneMore, ◌+◌, ◌∙◌, ◌≡◌}
use Rattle.lock_local.proofs.Lemmas.{agrees_by, by_view, counts_more, fit_acquired, total-acquired, wholes_more}
use Rattle.lock_local.proofs.lock_table.LockTable.hold.Goals as goal

pub count_up-requires-clause-agrees : goal.count_up-requires-clause-agrees
count_up-requires-clause-agrees c = agrees_by _ _ _ c.self.view_is c.requires

pub returns-in_err-reserve-clause-agrees : goal.returns-in_err-reserve-clause-agrees
returns-in_err-reserve-clause-agrees c = agrees_by _ _ _ c.self.view_is c.requires

pub invariant_of-self-2 : goal.invariant_of-self-2
invariant_of-self-2 c = record {
  fits = fit_acquired c.args.owner c.args.object c.args.mode _ _ c.self.invariant.fits (omega arith) c.in_ok-count_up.ensures.ok;
  by_owner = c.note.ensures.by_owner;
  remembers = c.note.ensures.remembers c.self.inside.locks.items c.count_up.new.locks.items
      (subst (λ (rs : List Recall). Remembers rs c.self.inside.locks.items) (sym c.in_ok-reserve.ensures.items) c.self.invariant.remembers)
      (counts_more c.args.owner c.args.object c.args.mode _ _ c.in_ok-count_up.ensures.ok);
  taken = omega (arith, c.self.invariant.taken, ap total c.in_ok-count_up.ensures.ok, total-acquired c.args.owner c.args.object c.args.mode c.self.inside.locks.items);
}

pub returns-clause-counts : goal.returns-clause-counts
returns-clause-counts c = by_view (λ (zs : List Lock). HoldsOneMore zs c.count_up.new.locks.items c.args.object c.args.mode c.args.owner) _ _ _ c.self.view_is (counts_more c.args.owner c.args.object c.args.mode _ _ c.in_ok-count_up.ensures.ok)

pub returns-clause-wholes : goal.returns-clause-wholes
returns-clause-wholes c = by_view (λ (zs : List Lock). WholeOneMore zs c.count_up.new.locks.items c.args.object c.args.mode) _ _ _ c.self.view_is (wholes_more c.args.owner c.args.object c.args.mode _ _ c.in_ok-count_up.ensures.ok)

pub returns-clause-total : goal.returns-clause-total
returns-clause-total c = by_view (λ (zs : List Lock). total c.count_up.new.locks.items ≡ total zs + 1) _ _ _ c.self.view_is (ap total c.in_ok-count_up.ensures.ok ∙ total-acquired c.args.owner c.args.object c.args.mode c.self.inside.locks.items)

pub returns-clause-locks : goal.returns-clause-locks
returns-clause-locks c = (fit_acquired c.args.owner c.args.object c.args.mode _ _ c.self.invariant.fits (omega arith) c.in_ok-count_up.ensures.ok).0
