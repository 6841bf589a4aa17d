-- What the lines of the script that is made ask for.
use Rattle.std.specs.Prelude.{ℕ, slice_get, Option, Result, Ok}
use Rattle.std.specs.Option.{option_map}
use Rattle.pgs_command.specs.Lines.{read_line}
use Rattle.pgs_command.specs.declared.lines.Line.{Line}
use Rattle.pgs_command.specs.declared.lines.BadLine.{BadLine}
use Rattle.pgs_command.specs.declared.commands.Command.{Command}
use Rattle.session_rules.specs.Modes.{made_lines}
use Rattle.pgs_turns.specs.Script.{said_in}
use Rattle.pgs_turns.specs.declared.lines.Said.{Said}

-- what a line says that is this command of session 1
abbrev pub says : Command → Result Line BadLine
says command = Ok (record { session = 1; command = command })

-- what the line at a place of a round says
abbrev pub read_at : ℕ → ℕ → Option (Result Line BadLine)
read_at round place = option_map read_line (slice_get (made_lines round) place)

-- what it asks for
abbrev pub asked_at : ℕ → ℕ → Option Said
asked_at round place = option_map said_in (read_at round place)
