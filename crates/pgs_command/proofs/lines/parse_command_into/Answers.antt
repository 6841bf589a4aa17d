use Rattle.pgs_command.proofs.LineLemmas.{read_line-long, read_line-short}
use Rattle.pgs_command.proofs.lines.parse_command_into.Goals as goal

pub returns-then-long-clause-read : goal.returns-then-long-clause-read
returns-then-long-clause-read c line k = read_line-long line c.args.kept.now c.args.long k c.if-long.true

pub returns-else-long-clause-read : goal.returns-else-long-clause-read
returns-else-long-clause-read c line k = read_line-short line c.args.kept.now c.args.long _ k c.if-long.false c.read_short.ensures.value
