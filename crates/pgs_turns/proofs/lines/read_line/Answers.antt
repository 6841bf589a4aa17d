use Rattle.pgs_turns.proofs.Base.{◌≡◌, ℕ, Option, Some, None, refl, ap, ◌∙◌}
use Rattle.pgs_turns.proofs.Words.{Command, said, said_in}
use Rattle.pgs_turns.proofs.lines.read_line.Goals as goal

-- what was said is what is said of it
told : (session : ℕ) (command : Option Command) → record { session = session; command = command } ≡ said_in (said session command)
told session None = refl
told session (Some command) = refl

pub returns-clause-read : goal.returns-clause-read
returns-clause-read c line k =
    ap (λ (session : ℕ). record { session = session; command = c.parse_command_into.new.command }) (c.parse_session-said.ensures.read line c.args.long k)
    ∙ told _ c.parse_command_into.new.command
    ∙ ap said_in (c.parse_command_into.ensures.read line k)
