use Rattle.session_core.proofs.Base.{◌≡◌, None, Some, ap, ◌∙◌, refl}
use Rattle.session_core.proofs.Words.{committed_to, savepoint, then_ok, StoreState, levels_of}
use Rattle.session_core.proofs.Lemmas.{as_elements, performed_ok, performed_refused, at_found, at_missing}
use Rattle.session_core.proofs.session.Session.release.Goals as goal

pub returns-in_default-clause-performed : goal.returns-in_default-clause-performed
returns-in_default-clause-performed g c =
    let none : None ≡ savepoint c.args.name.now (levels_of c.args.self.now.levels) = c.in_default.ensures.found ∙ ap (λ (v : StoreState). savepoint c.args.name.now (levels_of v.levels)) c.self.view_is in
    as_elements 0 _ _ _ _ _ _ (ap then_ok (at_missing c.args.name.now c.args.self.now.levels (λ n. committed_to n (levels_of c.args.self.now.levels)) c.requires.level none))
    (performed_refused 0 _ _ _ _ c.requires.between.keeps (g.met.E.Emit.emits_none c.args.out.now) refl)

pub returns-clause-performed : goal.returns-clause-performed
returns-clause-performed g c =
    let found : Some c.in-Some.level ≡ savepoint c.args.name.now (levels_of c.args.self.now.levels) = c.in-Some.ensures.found ∙ ap (λ (v : StoreState). savepoint c.args.name.now (levels_of v.levels)) c.self.view_is in
    as_elements 0 _ _ _ _ _ _ (ap then_ok (at_found c.args.name.now (levels_of c.args.self.now.levels) (λ n. committed_to n (levels_of c.args.self.now.levels)) c.in-Some.level found))
    (performed_ok 0 _ _ _ _ _ _ c.commit_to.ensures.performed c.emit.ensures.emitted (λ us vs first second. g.met.E.Emit.emits_more _ _ _ _ _ _ first second refl))
