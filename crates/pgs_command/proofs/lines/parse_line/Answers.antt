use Rattle.std.proofs.Common.{Some, None, ap, ◌∙◌}
use Rattle.pgs_command.specs.Lines.{said}
use Rattle.pgs_command.proofs.LineLemmas.{session_of-kept}
use Rattle.pgs_command.proofs.lines.parse_line.Goals as goal

pub returns-in-Some-clause-read : goal.returns-in-Some-clause-read
returns-in-Some-clause-read c line k = ap (λ s. said s (Some c.in-Some.command)) (c.session_of-session.ensures.value ∙ session_of-kept line c.args.kept.now c.args.long k) ∙ c.in-Some.ensures.read line k

pub returns-in-None-clause-read : goal.returns-in-None-clause-read
returns-in-None-clause-read c line k = ap (λ s. said s None) (c.session_of-session.ensures.value ∙ session_of-kept line c.args.kept.now c.args.long k) ∙ c.in-None.ensures.read line k
