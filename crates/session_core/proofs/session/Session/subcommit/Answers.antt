use Rattle.session_core.proofs.Base.{◌<◌, length, refl, subst, sym}
use Rattle.session_core.proofs.Words.{StoreState, now}
use Rattle.session_core.proofs.Lemmas.{between_of, subcommit_between, subcommit_performed, seen, serves_of, stands_of}
use Rattle.session_core.proofs.session.Session.subcommit.Goals as goal

pub subcommit-requires-clause-stands : goal.subcommit-requires-clause-stands
subcommit-requires-clause-stands g c = stands_of c.self.inside.store c.args.self.now c.self.view_is c.args.shared.now.space.now c.args.shared.now.shelf.now c.args.shared.now.commons.now c.requires.between.stands

pub returns-clause-performed : goal.returns-clause-performed
returns-clause-performed g c =
    seen c.self.inside.store c.args.self.now c.self.view_is 0 _ c.args.shared.now _ _ _
    (subcommit_performed _ _ _ c.subcommit.ensures.keeps c.subcommit.ensures.moves refl c.subcommit.ensures.asked c.subcommit.ensures.acted)

pub returns-clause-between : goal.returns-clause-between
returns-clause-between g c =
    subcommit_between (now c.self.inside.store c.args.shared.now) _ _ (between_of c.self.inside.store c.args.self.now c.self.view_is (λ store. now store c.args.shared.now) c.requires.between)
    c.subcommit.ensures.keeps (subst (λ (v : StoreState). 1 < length v.levels) (sym c.self.view_is) c.requires.level) c.subcommit.ensures.acted

pub subcommit-requires-clause-serves : goal.subcommit-requires-clause-serves
subcommit-requires-clause-serves g c = serves_of c.self.inside.store c.args.self.now c.self.view_is c.args.shared.now.commons.now c.requires.between.serves
