-- A portal on its way.
use Rattle.std.specs.Prelude.{◌≡◌, Bool, Some, is_some}
use Rattle.session_rules.specs.Elements.{Text}
use Rattle.session_rules.specs.Lookup.{portal_named}
use Rattle.session_rules.specs.State.{OpenPortal, SessionState, depth}
use Rattle.session_rules.specs.Standing.{IsWorking}
use Rattle.session_store.specs.State.{levels_of, session_of}
use Rattle.session_commands.specs.Performed.{IsBetweenSteps, Now}

-- a session has a portal of this name, which belongs to the deepest level; it has its context, its owner and the context of one row, or
-- hasn't them yet
pub record IsOnItsWay (name : Text) (has_context has_owner has_row : Bool) (session : SessionState) : Type 0 where
  pub portal : OpenPortal
  pub named : portal_named name session.portals ≡ Some portal
  pub context : is_some portal.context ≡ has_context
  pub owner : is_some portal.owner ≡ has_owner
  pub row : is_some portal.expr ≡ has_row
  pub created : portal.created ≡ depth session

-- the same of a session between two steps of a level in which steps are taken
pub record IsMaking (name : Text) (has_context has_owner has_row : Bool) (n : Now) : Type 0 where
  pub between : IsBetweenSteps n
  pub working : IsWorking (levels_of n.store.levels)
  pub way : IsOnItsWay name has_context has_owner has_row (session_of n.store n.space)
