use Rattle.session_owners.proofs.Base.{nat_tests, ap, refl, arith}
use Rattle.session_owners.proofs.Words.{owners_of}
use Rattle.session_owners.proofs.Lemmas.{acted_touched, state_of, balances_same, locks_stay, descriptors_kept, touch_wants, both_ok}
use Rattle.owner_core.specs.Owners as owners
use Rattle.session_owners.proofs.resources.Resources.touch.Goals as goal

pub returns-clause-causes : goal.returns-clause-causes
returns-clause-causes g c = grind (arith, touch_wants c.self.inside.tables.files (owners.owners_of c.self.inside.owners) c.args.file c.touch.result, c.self.view_is, c.requires.open, c.self.invariant.counted, c.touch.ensures.no_file, c.touch.ensures.no_other)

pub returns-clause-balances : goal.returns-clause-balances
returns-clause-balances g c =
    λ commons. balances_same _ _ commons (ap owners_of c.self.view_is)
    (locks_stay (state_of c.self.inside.owners c.self.inside.tables.files c.self.inside.locks c.self.inside.tables.snapshots.stack c.self.inside.tables.plans) _ _ commons.locks c.self.view_is refl)

pub returns-clause-acted : goal.returns-clause-acted
returns-clause-acted g c = grind (arith, nat_tests, c.self.inside.owners, c.self.inside.tables.files, c.self.inside.locks, c.self.inside.tables.snapshots.stack, c.self.inside.tables.plans, g.E.Emit.emits, both_ok, c.touch.ensures.touched, c.touch.ensures.events, acted_touched, descriptors_kept c.self.inside.tables.files c.args.file)
