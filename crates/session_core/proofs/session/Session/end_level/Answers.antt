use Rattle.session_core.proofs.Base.{◌≡◌, true, false, sym, ap, ◌∙◌}
use Rattle.session_core.proofs.Words.{is_aborted, StoreState, levels_of}
use Rattle.session_core.proofs.Lemmas.{as_elements, deepest_rolled}
use Rattle.session_core.proofs.session.Session.end_level.Goals as goal

pub returns-then-is_aborted-clause-performed : goal.returns-then-is_aborted-clause-performed
returns-then-is_aborted-clause-performed g c =
    let aborted : is_aborted (levels_of c.args.self.now.levels) ≡ true = sym (ap (λ (v : StoreState). is_aborted (levels_of v.levels)) c.self.view_is) ∙ sym c.is_aborted.ensures ∙ c.if-is_aborted.true in
    as_elements 0 _ _ _ _ _ _ (deepest_rolled c.args.self.now.levels true c.requires.level aborted) c.clean_up.ensures.performed

pub returns-clause-performed : goal.returns-clause-performed
returns-clause-performed g c =
    let active : is_aborted (levels_of c.args.self.now.levels) ≡ false = sym (ap (λ (v : StoreState). is_aborted (levels_of v.levels)) c.self.view_is) ∙ sym c.is_aborted.ensures ∙ c.if-is_aborted.false in
    as_elements 0 _ _ _ _ _ _ (deepest_rolled c.args.self.now.levels false c.requires.level active) c.roll_back.ensures.performed

pub clean_up-requires-clause-aborted : goal.clean_up-requires-clause-aborted
clean_up-requires-clause-aborted g c = sym (ap (λ (v : StoreState). is_aborted (levels_of v.levels)) c.self.view_is) ∙ sym c.is_aborted.ensures ∙ c.if-is_aborted.true
