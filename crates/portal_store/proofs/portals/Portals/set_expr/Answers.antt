use Rattle.portal_store.proofs.Base.{Some, refl, arith}
use Rattle.portal_store.proofs.Words.{Portal, knows}
use Rattle.portal_store.proofs.Lemmas.{changed_at, IsKept_set}
use Rattle.portal_store.proofs.portals.Portals.set_expr.Goals as goal

pub invariant_of-self : goal.invariant_of-self
invariant_of-self c = IsKept_set (knows c.self.inside.places) c.self.inside.reach.levels.items c.self.inside.portals.items c.place-place.result c.index_mut.result.now (record c.index_mut.result.now { expr = Some c.args.expr }) c.index_mut.ensures.value refl (omega arith) (omega arith) c.self.invariant

pub returns-clause-portals : goal.returns-clause-portals
returns-clause-portals c = changed_at c.args.name.now c.self.inside.portals.items c.args.self.now c.place-place.result c.index_mut.result.now c.self.view_is c.place-place.ensures c.index_mut.ensures.value (λ (p : Portal). record p { expr = Some c.args.expr })
