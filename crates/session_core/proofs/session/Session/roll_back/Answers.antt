use Rattle.session_core.proofs.Base.{◌<◌, length, refl, subst, sym}
use Rattle.session_core.proofs.Words.{StoreState, Now, now}
use Rattle.session_core.proofs.Lemmas.{between_of, roll_between, roll_rest, roll_performed, seen, serves_of, stands_of}
use Rattle.session_core.proofs.session.Session.roll_back.Goals as goal

pub roll_back-requires-clause-stands : goal.roll_back-requires-clause-stands
roll_back-requires-clause-stands g c = stands_of c.self.inside.store c.args.self.now c.self.view_is c.args.shared.now.space.now c.args.shared.now.shelf.now c.args.shared.now.commons.now c.requires.between.stands

pub returns-clause-performed : goal.returns-clause-performed
returns-clause-performed g c =
    seen c.self.inside.store c.args.self.now c.self.view_is 0 _ c.args.shared.now _ _ _
    (roll_performed _ _ _ c.roll_back.ensures.keeps c.roll_back.ensures.moves refl c.roll_back.ensures.asked c.roll_back.ensures.acted)

pub returns-clause-between : goal.returns-clause-between
returns-clause-between g c =
    roll_between (now c.self.inside.store c.args.shared.now) _ _ (between_of c.self.inside.store c.args.self.now c.self.view_is (λ store. now store c.args.shared.now) c.requires.between)
    c.roll_back.ensures.keeps (subst (λ (v : StoreState). 0 < length v.levels) (sym c.self.view_is) c.requires.level) c.roll_back.ensures.acted

pub roll_back-requires-clause-serves : goal.roll_back-requires-clause-serves
roll_back-requires-clause-serves g c = serves_of c.self.inside.store c.args.self.now c.self.view_is c.args.shared.now.commons.now c.requires.between.serves

pub returns-clause-rest : goal.returns-clause-rest
returns-clause-rest g c =
    let left : Now = record { store = c.roll_back.new.store; space = c.roll_back.new.space; shelf = c.roll_back.new.shelf; commons = c.roll_back.new.commons; calls = c.args.shared.now.calls.now } in
    roll_rest (now c.self.inside.store c.args.shared.now) left _ (between_of c.self.inside.store c.args.self.now c.self.view_is (λ store. now store c.args.shared.now) c.requires.between)
    c.roll_back.ensures.keeps (subst (λ (v : StoreState). 0 < length v.levels) (sym c.self.view_is) c.requires.level) c.roll_back.ensures.acted
