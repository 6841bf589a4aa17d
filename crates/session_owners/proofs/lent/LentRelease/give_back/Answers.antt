use Rattle.session_owners.proofs.Base.{[], refl}
use Rattle.session_owners.proofs.Words.{LocksBalance-nothing, PinsBalance-nothing}
use Rattle.session_owners.proofs.Lemmas.{does_leave}
use Rattle.session_owners.proofs.lent.LentRelease.give_back.Goals as goal

pub returns-then-item-ge-FIRST_EXTENSION-clause-done :
    goal.returns-then-item-ge-FIRST_EXTENSION-clause-done
returns-then-item-ge-FIRST_EXTENSION-clause-done g c = (
  [],
  (refl, refl, refl, refl, refl, refl, LocksBalance-nothing c.args.self.now.locks.now c.args.self.now.shared.now, PinsBalance-nothing c.args.self.now.tables.now.pins c.args.self.now.pins.now, g.met.P.PlanContexts.went_nothing c.args.self.now.place.now, does_leave c.args.self.now.tables.now c.args.self.now.kinds.now c.close.new.self c.args.self.now.locks.now.locks (g.P.PlanContexts.contexts c.args.self.now.place.now) (g.P.PlanContexts.shelf c.args.self.now.place.now) c.args.item c.if-item-ge-FIRST_EXTENSION.true c.close.ensures.after),
  g.met.E.Emit.emits_none c.args.out.now,
)

pub returns-else-item-ge-FIRST_EXTENSION-clause-done :
    goal.returns-else-item-ge-FIRST_EXTENSION-clause-done
returns-else-item-ge-FIRST_EXTENSION-clause-done g c =
    let done = c.give_back.ensures.done c.args.self.now.kinds.now c.args.self.now.locks.now.locks in
    (done.0, (refl, refl, refl, refl, refl, refl, LocksBalance-nothing c.args.self.now.locks.now c.args.self.now.shared.now, c.give_back.ensures.balance, c.give_back.ensures.went, done.1), done.2)
