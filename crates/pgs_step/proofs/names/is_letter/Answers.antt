use Rattle.std.proofs.Common.{arith}
use Rattle.pgs_step.proofs.NameLemmas.{name_byte_told}
use Rattle.pgs_step.proofs.names.is_letter.Goals as goal

pub returns : goal.returns
returns c = name_byte_told c.args.b (omega (arith, c.ranges.b.fits))
