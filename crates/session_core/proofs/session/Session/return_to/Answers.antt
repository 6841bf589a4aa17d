use Rattle.session_core.proofs.Base.{◌≡◌, ◌≤◌, ◌++◌, false, None, Some, length, ap, ◌∙◌, refl, subst}
use Rattle.session_core.proofs.Words.{rolled_back_to, savepoint, start, then_ok, StoreState, levels_of, performed_stop, handed}
use Rattle.session_core.proofs.Lemmas.{as_elements, performed_ok, performed_refused, at_found, at_missing}
use Rattle.session_core.proofs.session.Session.return_to.Goals as goal

pub begin_again-requires-clause-within : goal.begin_again-requires-clause-within
begin_again-requires-clause-within g c = subst (λ (v : StoreState). c.in-Some.level ≤ length v.levels) c.self.view_is c.in-Some.ensures.within

pub returns-in_default-clause-performed : goal.returns-in_default-clause-performed
returns-in_default-clause-performed g c =
    let none : None ≡ savepoint c.args.name.now (levels_of c.args.self.now.levels) = c.in_default.ensures.found ∙ ap (λ (v : StoreState). savepoint c.args.name.now (levels_of v.levels)) c.self.view_is in
    as_elements 3 _ _ _ _ _ _
    (ap then_ok
    (at_missing c.args.name.now c.args.self.now.levels (λ n. rolled_back_to n (levels_of c.args.self.now.levels) ++ start (Some c.args.name.now) false) c.requires.level none))
    (performed_refused 3 _ _ _ _ c.requires.between.keeps (g.met.E.Emit.emits_none c.args.out.now) refl)

pub returns-in_err-begin_again-clause-performed : goal.returns-in_err-begin_again-clause-performed
returns-in_err-begin_again-clause-performed g c =
    let found : Some c.in-Some.level ≡ savepoint c.args.name.now (levels_of c.args.self.now.levels) = c.in-Some.ensures.found ∙ ap (λ (v : StoreState). savepoint c.args.name.now (levels_of v.levels)) c.self.view_is in
    handed _ _ c.from_residual.ensures.1
    (as_elements 3 _ _ _ _ _ _
    (ap then_ok
    (at_found c.args.name.now (levels_of c.args.self.now.levels) (λ n. rolled_back_to n (levels_of c.args.self.now.levels) ++ start (Some c.args.name.now) false) c.in-Some.level found))
    (performed_stop 3 _ _ _ _ _ _ c.in_err-begin_again.ensures.performed))

pub returns-clause-performed : goal.returns-clause-performed
returns-clause-performed g c =
    let found : Some c.in-Some.level ≡ savepoint c.args.name.now (levels_of c.args.self.now.levels) = c.in-Some.ensures.found ∙ ap (λ (v : StoreState). savepoint c.args.name.now (levels_of v.levels)) c.self.view_is in
    as_elements 3 _ _ _ _ _ _
    (ap then_ok
    (at_found c.args.name.now (levels_of c.args.self.now.levels) (λ n. rolled_back_to n (levels_of c.args.self.now.levels) ++ start (Some c.args.name.now) false) c.in-Some.level found))
    (performed_ok 3 _ _ _ _ _ _ c.in_ok-begin_again.ensures.performed c.emit.ensures.emitted
    (λ us vs first second. g.met.E.Emit.emits_more _ _ _ _ _ _ first second refl))
