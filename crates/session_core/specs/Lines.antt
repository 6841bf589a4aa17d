-- A session between two lines, and the levels that a line meets.
use Rattle.std.specs.Prelude.{◌≡◌, ◌<◌, ◌≤◌, length, true, List}
use Rattle.subxact_stack.specs.declared.levels.Level.{Level}
use Rattle.session_rules.specs.Limits.{most_levels}
use Rattle.session_rules.specs.State.{is_aborted}
use Rattle.session_owners.specs.Commons.{Serves}
use Rattle.session_store.specs.State.{levels_of}
use Rattle.session_rules.specs.World.{Around}
use Rattle.session_rules.specs.Standing.{AreOuter, StandsBetweenLines}
use Rattle.session_store.specs.Calls.{Keeps}
use Rattle.session_commands.specs.Performed.{Now, scene_in}

-- A session between two lines: besides what holds between two steps, no level is being started, none was begun for one command
-- alone, and each portal is at rest.
pub record IsBetweenLines (n : Now) : Type 0 where
  pub keeps : Keeps n.store n.space
  pub serves : Serves n.store.owners n.commons
  pub stands : (around : Around) → StandsBetweenLines (scene_in n around)

-- a transaction in whose levels steps can be taken
pub record IsInBlock (levels : List Level) : Type 0 where
  pub some : 0 < length levels
  pub at_most : length levels ≤ most_levels
  pub outer : AreOuter (levels_of levels)

-- a transaction whose deepest level is aborted
pub record IsAbortedBlock (levels : List Level) : Type 0 where
  pub some : 0 < length levels
  pub aborted : is_aborted (levels_of levels) ≡ true
