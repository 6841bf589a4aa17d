use Rattle.session_owners.proofs.Base.{arith}
use Rattle.session_owners.proofs.Lemmas.{open_held}
use Rattle.owner_core.specs.Owners as owners
use Rattle.session_owners.proofs.resources.Resources.is_open.Goals as goal

pub returns : goal.returns
returns c = grind (arith, open_held c.self.inside.tables.files (owners.owners_of c.self.inside.owners) c.args.file, c.is_open.ensures, c.self.invariant.counted, c.self.view_is)
