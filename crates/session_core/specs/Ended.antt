-- What the recovery from an error and the end of a session do: an act of the rules.
use Rattle.std.specs.Prelude.{◌≡◌, List}
use Rattle.pgs_step.specs.declared.events.What.{What}
use Rattle.addr_space.specs.Space.{Asks}
use Rattle.context_tree.specs.State.{Moves}
use Rattle.session_rules.specs.World.{Scene}
use Rattle.session_rules.specs.Acts.{Ended}
use Rattle.session_owners.specs.Commons.{Balances}
use Rattle.session_store.specs.Calls.{Acted, Keeps}
use Rattle.session_commands.specs.Performed.{Now, Grows}

-- An act was done that is no element of a command. The space keeps what isn't the session's, the session's account holds the blocks of its
-- contexts and no more, it took nothing, the commons are in balance, no call was counted, and no counter rose.
pub record Ends (act : Scene → Ended) (a b : Now) (Said : List What → Type 0) : Type 0 where
  pub acted : Acted act a.store b.store a.space b.space a.shelf b.shelf a.commons b.commons Said
  pub keeps : Keeps b.store b.space
  pub moves : Moves a.store.tree b.store.tree a.space b.space
  pub asked : Asks a.store.tree.account 0 a.space b.space
  pub balances : Balances a.store.owners b.store.owners a.commons b.commons
  pub calls : b.calls ≡ a.calls
  pub grows : Grows 0 a b
