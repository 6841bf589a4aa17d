use Rattle.session_core.proofs.Base.{arith, ◌≡◌, IfSome, false, refl, subst}
use Rattle.session_core.proofs.Words.{first_of, IsOpen, StoreState, levels_of, IsBetweenSteps, now}
use Rattle.session_core.proofs.Lemmas.{abort_between, between_of, abort_performed, seen, serves_of, stands_of}
use Rattle.session_core.proofs.session.Session.abort.Goals as goal

pub abort-requires-clause-stands : goal.abort-requires-clause-stands
abort-requires-clause-stands g c = grind (arith, stands_of c.self.inside.store c.args.self.now c.self.view_is c.args.shared.now.space.now c.args.shared.now.shelf.now c.args.shared.now.commons.now c.requires.between.stands, c.self.view_is, c.requires.between.stands)

pub returns-clause-performed : goal.returns-clause-performed
returns-clause-performed g c =
    seen c.self.inside.store c.args.self.now c.self.view_is 0 _ c.args.shared.now _ _ _
    (abort_performed _ _ _ c.abort.ensures.keeps c.abort.ensures.moves refl c.abort.ensures.asked c.abort.ensures.acted)

pub returns-clause-between : goal.returns-clause-between
returns-clause-between g c =
    subst (λ (v : StoreState). IfSome (first_of (levels_of v.levels)) (λ level. level.aborted ≡ false → IsOpen level → IsBetweenSteps (record { store = c.abort.new.store; space = c.abort.new.space; shelf = c.abort.new.shelf; commons = c.abort.new.commons; calls = c.args.shared.now.calls.now }))) c.self.view_is
    (abort_between (now c.self.inside.store c.args.shared.now) _ _ (between_of c.self.inside.store c.args.self.now c.self.view_is (λ store. now store c.args.shared.now) c.requires.between)
    c.abort.ensures.keeps c.abort.ensures.acted)

pub abort-requires-clause-serves : goal.abort-requires-clause-serves
abort-requires-clause-serves g c = serves_of c.self.inside.store c.args.self.now c.self.view_is c.args.shared.now.commons.now c.requires.between.serves
