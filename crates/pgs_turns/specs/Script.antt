-- What the lines of a script ask for.
use Rattle.std.specs.Prelude.{Some, None, Result, Ok, Err}
use Rattle.pgs_command.specs.declared.lines.Line.{Line}
use Rattle.pgs_command.specs.declared.lines.BadLine.{BadLine}
use Rattle.pgs_turns.specs.declared.lines.Said.{Said}

-- the session that a line is for, and the command, or none where the line is bad
abbrev pub said_in : Result Line BadLine → Said
said_in (Ok line) = record { session = line.session; command = Some line.command }
said_in (Err bad) = record { session = bad.session; command = None }
