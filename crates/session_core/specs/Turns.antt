-- What a line makes of a session: its command, and the recovery from its error.
use Rattle.std.specs.Prelude.{◌≡◌, ℕ, ◌<◌, ◌≤◌, Bool, true, List, Option}
use Rattle.pgs_command.specs.declared.commands.Command.{Command}
use Rattle.pgs_step.specs.declared.events.What.{What}
use Rattle.context_tree.specs.State.{Moves}
use Rattle.session_rules.specs.World.{Around, Moment}
use Rattle.session_rules.specs.Transcript.{turn}
use Rattle.session_rules.specs.Asked.{asked_by_turn}
use Rattle.session_owners.specs.Commons.{Balances}
use Rattle.session_commands.specs.Answers.{Fits, at_calls}
use Rattle.session_commands.specs.Performed.{Now, Grows, Takes, most_steps, scene_in}

-- the session there as the rules see it before a line
abbrev pub moment_in : Now → Around → Moment
moment_in n around = at_calls (scene_in n) n.calls.count n.calls.fail around

-- The line's turn led from the one moment to the other in any surroundings, and for each refused call that its answer speaks of: it said
-- what was said, and met a want of memory or not. The space keeps what isn't the session's, the session's account took what the line asks,
-- the commons are in balance, the same call is to fail, and no counter rose by more than a line may raise it.
pub record Turned (line : Option Command) (a b : Now) (Said : List What → Type 0) (wanted : Bool) : Type 0 where
  pub moment : (around : Around) (w : Option ℕ) → Fits wanted b.calls.count w → (turn w line (moment_in a around)).moment ≡ moment_in b around
  pub says : (around : Around) (w : Option ℕ) → Fits wanted b.calls.count w → Said (turn w line (moment_in a around)).events
  pub wanted_is : (around : Around) (w : Option ℕ) → Fits wanted b.calls.count w → (turn w line (moment_in a around)).wanted ≡ wanted
  pub moves : Moves a.store.tree b.store.tree a.space b.space
  pub taken : (around : Around) (w : Option ℕ) → Fits wanted b.calls.count w → Takes wanted a.store.tree.account (asked_by_turn w line (moment_in a around)) a.space b.space
  pub balances : Balances a.store.owners b.store.owners a.commons b.commons
  pub grows : Grows most_steps a b
  pub fail : b.calls.fail ≡ a.calls.fail
  pub calls : a.calls.count ≤ b.calls.count
  pub counted : wanted ≡ true → a.calls.count < b.calls.count
