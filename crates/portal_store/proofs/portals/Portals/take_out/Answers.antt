use Rattle.portal_store.proofs.Base.{◌≡◌, ◌<◌, Some, sym, subst, ◌∙◌, IsSome}
use Rattle.portal_store.proofs.Words.{knows, place_named}
use Rattle.portal_store.proofs.Lemmas.{named_nowhere, place_within, without_nowhere, IsKept_taken, taken_out}
use Rattle.portal_store.proofs.portals.Portals.take_out.Goals as goal

some : (c : goal.After-remove_at) → IsSome c.remove_at.result
some c =
    let at = subst (λ ps. place_named c.args.name.now ps ≡ Some c.in_ok-place.place) (sym c.self.view_is) (sym c.place_of.ensures ∙ c.in_ok-place.was) in
    c.remove_at.ensures.some (subst (λ n. c.in_ok-place.place < n) (sym c.self.inside.portals.ok.0) (place_within c.args.name.now c.self.inside.portals.items c.in_ok-place.place at))

pub returns-in_err-place-clause-taken : goal.returns-in_err-place-clause-taken
returns-in_err-place-clause-taken c = c.from_residual.ensures ∙ sym (named_nowhere c.args.name.now c.args.self.now (sym c.place_of.ensures ∙ c.in_err-place.was))

pub returns-in_err-place-clause-others : goal.returns-in_err-place-clause-others
returns-in_err-place-clause-others c = sym (without_nowhere c.args.name.now c.args.self.now (named_nowhere c.args.name.now c.args.self.now (sym c.place_of.ensures ∙ c.in_err-place.was)))

pub invariant_of-self : goal.invariant_of-self
invariant_of-self c =
    IsKept_taken c.args.name.now (knows c.self.inside.places) (knows c.leave.new.self) c.self.inside.portals.items c.args.self.now c.remove_at.new.portals.items c.self.inside.reach.levels.items c.leave-2.new.self.levels.items c.in_ok-place.place c.remove_at.result c.self.view_is (sym c.place_of.ensures ∙ c.in_ok-place.was) c.remove_at.ensures.portal c.remove_at.ensures.others (some c)
    c.leave.ensures c.leave-2.ensures c.self.invariant

pub returns-clause-taken : goal.returns-clause-taken
returns-clause-taken c = (taken_out c.args.name.now c.self.inside.portals.items c.args.self.now c.remove_at.new.portals.items c.in_ok-place.place c.remove_at.result c.self.view_is (sym c.place_of.ensures ∙ c.in_ok-place.was) c.remove_at.ensures.portal c.remove_at.ensures.others (some c)).0

pub returns-clause-others : goal.returns-clause-others
returns-clause-others c = (taken_out c.args.name.now c.self.inside.portals.items c.args.self.now c.remove_at.new.portals.items c.in_ok-place.place c.remove_at.result c.self.view_is (sym c.place_of.ensures ∙ c.in_ok-place.was) c.remove_at.ensures.portal c.remove_at.ensures.others (some c)).1
