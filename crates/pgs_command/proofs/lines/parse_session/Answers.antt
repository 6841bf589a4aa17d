use Rattle.std.proofs.Common.{◌∙◌}
use Rattle.pgs_command.proofs.LineLemmas.{session_of-kept}
use Rattle.pgs_command.proofs.lines.parse_session.Goals as goal

pub returns-clause-read : goal.returns-clause-read
returns-clause-read c line long k = c.session_of.ensures.value ∙ session_of-kept line c.args.kept.now long k
