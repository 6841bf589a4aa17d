use Rattle.session_core.proofs.Base.{◌≡◌, ◌<◌, true, length, refl, subst, sym}
use Rattle.session_core.proofs.Words.{is_aborted, StoreState, levels_of, Now, now}
use Rattle.session_core.proofs.Lemmas.{between_of, clean_between, clean_rest, cleanup_performed, seen, stands_of}
use Rattle.session_core.proofs.session.Session.clean_up.Goals as goal

pub clean_up-requires-clause-stands : goal.clean_up-requires-clause-stands
clean_up-requires-clause-stands g c = (c.args.shared.now.commons.now, stands_of c.self.inside.store c.args.self.now c.self.view_is c.args.shared.now.space.now c.args.shared.now.shelf.now c.args.shared.now.commons.now c.requires.between.stands)

pub returns-clause-performed : goal.returns-clause-performed
returns-clause-performed g c =
    seen c.self.inside.store c.args.self.now c.self.view_is 0 _ c.args.shared.now _ _ _
    (cleanup_performed _ _ _ c.clean_up.ensures.keeps c.clean_up.ensures.moves refl c.clean_up.ensures.asked (c.clean_up.ensures.acted c.args.shared.now.commons.now))

pub returns-clause-between : goal.returns-clause-between
returns-clause-between g c =
    clean_between (now c.self.inside.store c.args.shared.now) _ _ (between_of c.self.inside.store c.args.self.now c.self.view_is (λ store. now store c.args.shared.now) c.requires.between)
    c.clean_up.ensures.keeps (subst (λ (v : StoreState). is_aborted (levels_of v.levels) ≡ true) (sym c.self.view_is) c.requires.aborted) (subst (λ (v : StoreState). 0 < length v.levels) (sym c.self.view_is) c.requires.level) (c.clean_up.ensures.acted c.args.shared.now.commons.now)

pub returns-clause-rest : goal.returns-clause-rest
returns-clause-rest g c =
    let left : Now = record { store = c.clean_up.new.store; space = c.clean_up.new.space; shelf = c.clean_up.new.shelf; commons = c.args.shared.now.commons.now; calls = c.args.shared.now.calls.now } in
    clean_rest (now c.self.inside.store c.args.shared.now) left _ (between_of c.self.inside.store c.args.self.now c.self.view_is (λ store. now store c.args.shared.now) c.requires.between)
    c.clean_up.ensures.keeps (subst (λ (v : StoreState). is_aborted (levels_of v.levels) ≡ true) (sym c.self.view_is) c.requires.aborted) (subst (λ (v : StoreState). 0 < length v.levels) (sym c.self.view_is) c.requires.level) (c.clean_up.ensures.acted c.args.shared.now.commons.now)
