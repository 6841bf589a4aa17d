use Rattle.std.proofs.Common.{arith}
use Rattle.std.proofs.lemmas.Bool.Decides.{nat_tests}
use Rattle.pgs_command.specs.Values.{bytes_of}
use Rattle.pgs_command.proofs.hex_bytes.read_bytes.Goals as goal

pub returns-then-word-lt2 : goal.returns-then-word-lt2
unfolding bytes_of
returns-then-word-lt2 c = grind (arith, nat_tests)

pub returns : goal.returns
unfolding bytes_of
returns c = grind (arith, nat_tests)
