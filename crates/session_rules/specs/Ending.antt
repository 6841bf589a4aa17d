-- What holds of a session on the way through its portals, where its deepest level ends.
use Rattle.std.specs.Prelude.{◌≡◌, ◌⊎◌, ℕ, true, false, Some, List, ◌∷◌, ◌++◌, All}
use Rattle.forest.specs.Forest.{has, AllNodes}
use Rattle.context_rules.specs.Contexts.{Contexts}
use Rattle.owner_kinds.specs.KindTable.{KindTable}
use Rattle.owner_kinds.specs.KindTable as kind_table
use Rattle.owner_kinds.specs.KindShelf.{table_of}
use Rattle.owner_core.specs.Owners.{OwnerTree, has_begun}
use Rattle.owner_core.specs.Sound.{IsSound}
use Rattle.session_rules.specs.State.{LevelState, OpenPortal}
use Rattle.session_rules.specs.World.{Scene}
use Rattle.session_rules.specs.Standing.{AreContexts, AreDifferent, AreHooks, AreLevels, AreOuter, ArePlans, HasItems, IsOfPortal, IsOwner, IsPortal, IsWithin, referred}

-- the deepest level's owner, or one below it
pub record IsLoose (level : LevelState) (n : ℕ) (owners : OwnerTree) : Type 0 where
  pub owner : ℕ
  pub is : level.owner ≡ Some owner
  pub within : IsWithin owner n owners

-- The owners of a session whose deepest level ends: what isn't a level's or a portal's is the deepest level's to release.
pub record AreEnding (kinds : KindTable) (owners : OwnerTree) (next_owner next_serial : ℕ) (level : LevelState) (levels : List LevelState) (portals : List OpenPortal) : Type 0 where
  pub sound : IsSound owners next_owner next_serial
  pub each : (n : ℕ) → has n owners ≡ true → IsOwner n (level ∷ levels) ⊎ (IsOfPortal n portals ⊎ IsLoose level n owners)
  pub begun : (n : ℕ) → has_begun n owners ≡ true → IsLoose level n owners
  pub fresh : level.aborted ≡ false → (n : ℕ) → has_begun n owners ≡ true → ⊥
  pub items : AllNodes (HasItems kinds) owners

-- the deepest level's owner isn't the portal's
abbrev pub IsAway : LevelState → OpenPortal → Type 0
IsAway level p = (n : ℕ) → p.owner ≡ Some n → level.owner ≡ Some n → ⊥

-- a portal that is done
pub record IsDone (level : LevelState) (done : List LevelState) (t : Contexts) (x : OwnerTree) (current : ℕ) (p : OpenPortal) : Type 0 where
  pub portal : IsPortal p done t x current
  pub away : IsAway level p

-- Portals of the front are done, and are those of the levels `done`.
pub record Ending (level : LevelState) (levels done : List LevelState) (front back : List OpenPortal) (s : Scene) : Type 0 where
  pub contexts : AreContexts s.session.contexts s.session.next_context
  pub hooks : AreHooks s.session.contexts s.around.shelf
  pub all : AreLevels (level ∷ levels) s.session.contexts s.session.owners
  pub outer : AreOuter levels
  pub kinds : kind_table.IsSound (table_of s.around.kinds)
  pub owners : AreEnding (table_of s.around.kinds) s.session.owners s.session.next_owner s.session.next_serial level levels (front ++ back)
  pub plans : ArePlans s.session.plans s.session.contexts s.session.current (referred s.session.owners)
  pub ended : All (IsDone level done s.session.contexts s.session.owners s.session.current) front
  pub rest : All (λ p. IsPortal p (level ∷ levels) s.session.contexts s.session.owners s.session.current) back
  pub different : AreDifferent (front ++ back)
  pub are : s.session.portals ≡ front ++ back

-- the levels where the deepest one has aborted
abbrev pub gone_levels : LevelState → List LevelState → List LevelState
gone_levels level levels = record level { aborted = true } ∷ levels
