use Rattle.session_core.proofs.Base.{◌≡◌, length, refl, subst, sym}
use Rattle.session_core.proofs.Words.{StoreState, now}
use Rattle.session_core.proofs.Lemmas.{between_of, commit_between, commit_performed, seen, serves_of, stands_of}
use Rattle.session_core.proofs.session.Session.commit_top.Goals as goal

pub commit_top-requires-clause-stands : goal.commit_top-requires-clause-stands
commit_top-requires-clause-stands g c = stands_of c.self.inside.store c.args.self.now c.self.view_is c.args.shared.now.space.now c.args.shared.now.shelf.now c.args.shared.now.commons.now c.requires.between.stands

pub returns-clause-performed : goal.returns-clause-performed
returns-clause-performed g c =
    seen c.self.inside.store c.args.self.now c.self.view_is 0 _ c.args.shared.now _ _ _
    (commit_performed _ _ _ c.commit_top.ensures.keeps c.commit_top.ensures.moves refl c.commit_top.ensures.asked c.commit_top.ensures.acted)

pub returns-clause-between : goal.returns-clause-between
returns-clause-between g c =
    commit_between (now c.self.inside.store c.args.shared.now) _ _ (between_of c.self.inside.store c.args.self.now c.self.view_is (λ store. now store c.args.shared.now) c.requires.between)
    c.commit_top.ensures.keeps (subst (λ (v : StoreState). length v.levels ≡ 1) (sym c.self.view_is) c.requires.level) c.commit_top.ensures.acted

pub commit_top-requires-clause-serves : goal.commit_top-requires-clause-serves
commit_top-requires-clause-serves g c = serves_of c.self.inside.store c.args.self.now c.self.view_is c.args.shared.now.commons.now c.requires.between.serves
