use Rattle.lock_local.proofs.Base.{arith, HoldsNothing, List, Lock, map, owner_total, refl, total, WholeLess, without, ◌+◌, ◌≡◌}
use Rattle.lock_local.proofs.Lemmas.{agrees_by, by_view, counts_released, fit_released, totals_released, wholes_released}
use Rattle.lock_local.proofs.lock_table.LockTable.release_recalled.Goals as goal

pub give_up_recalled-requires-clause-agrees : goal.give_up_recalled-requires-clause-agrees
give_up_recalled-requires-clause-agrees g c = agrees_by _ _ _ c.self.view_is c.requires

pub invariant_of-self : goal.invariant_of-self
invariant_of-self g c = record {
  fits = fit_released c.args.owner.number c.self.inside.locks.items (map (without c.args.owner.number) c.self.inside.locks.items) _ c.self.invariant.fits refl c.give_up_recalled.ensures.locks;
  by_owner = c.forget_owner.ensures.by_owner;
  remembers = c.forget_owner.ensures.remembers c.self.inside.locks.items c.give_up_recalled.new.locks.items c.self.invariant.remembers (counts_released c.args.owner.number c.self.inside.locks.items c.give_up_recalled.new.locks.items c.give_up_recalled.ensures.locks);
  taken = omega (arith, c.self.invariant.taken, totals_released c.args.owner.number c.self.inside.locks.items c.give_up_recalled.new.locks.items c.give_up_recalled.ensures.locks);
}

pub returns-clause-counts : goal.returns-clause-counts
returns-clause-counts g c = by_view (λ (zs : List Lock). HoldsNothing zs c.give_up_recalled.new.locks.items c.args.owner.number) _ _ _ c.self.view_is (counts_released c.args.owner.number c.self.inside.locks.items c.give_up_recalled.new.locks.items c.give_up_recalled.ensures.locks)

pub returns-clause-wholes : goal.returns-clause-wholes
returns-clause-wholes g c = by_view (λ (zs : List Lock). WholeLess zs c.give_up_recalled.new.locks.items c.args.owner.number) _ _ _ c.self.view_is (wholes_released c.args.owner.number c.self.inside.locks.items c.give_up_recalled.new.locks.items c.give_up_recalled.ensures.locks)

pub returns-clause-total : goal.returns-clause-total
returns-clause-total g c = by_view (λ (zs : List Lock). total c.give_up_recalled.new.locks.items + owner_total c.args.owner.number zs ≡ total zs) _ _ _ c.self.view_is (totals_released c.args.owner.number c.self.inside.locks.items c.give_up_recalled.new.locks.items c.give_up_recalled.ensures.locks)

pub returns-clause-locks : goal.returns-clause-locks
returns-clause-locks g c = (fit_released c.args.owner.number c.self.inside.locks.items (map (without c.args.owner.number) c.self.inside.locks.items) _ c.self.invariant.fits refl c.give_up_recalled.ensures.locks).0
