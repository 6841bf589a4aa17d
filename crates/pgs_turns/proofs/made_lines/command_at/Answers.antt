use Rattle.pgs_turns.proofs.Base.{◌%◌, Some, ap, arith}
use Rattle.pgs_turns.proofs.LineLemmas.{ref_read}
use Rattle.pgs_turns.proofs.made_lines.command_at.Goals as goal

pub returns-in-7-clause-read : goal.returns-in-7-clause-read
returns-in-7-clause-read c = rw c.in-7.is (ap Some (ref_read (c.args.round % 100) (omega arith)))
