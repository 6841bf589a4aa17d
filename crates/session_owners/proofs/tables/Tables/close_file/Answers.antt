use Rattle.session_owners.proofs.Base.{arith}
use Rattle.session_owners.proofs.Lemmas.{closes}
use Rattle.session_owners.proofs.tables.Tables.close_file.Goals as goal

pub unreachable-requires : goal.unreachable-requires
unreachable-requires g c = grind (arith, closes c.self.inside.files c.args.file c.close_file.result c.in-Err.field-0 c.in-Err.is c.close_file.ensures.no_other c.close_file.ensures.no_file, c.in-Err.is, c.close_file.ensures.no_other, c.close_file.ensures.no_file, c.self.view_is, c.requires.open)
