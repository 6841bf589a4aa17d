-- A level that was begun, and one that is being started.
use Rattle.std.specs.Prelude.{◌≡◌, ℕ, Bool, true, false, List, [], ◌∷◌, Option}
use Rattle.session_rules.specs.State.{LevelState}
use Rattle.session_rules.specs.Standing.{IsActive}

-- Inside the outer levels there is one more, with this name. Steps can be taken in it.
pub record HasBegun (name : Option (List ℕ)) (implicit : Bool) (outer levels : List LevelState) : Type 0 where
  pub level : LevelState
  pub are : levels ≡ level ∷ outer
  pub active : IsActive level
  pub is_named : level.name ≡ name
  pub is_implicit : level.implicit ≡ implicit

-- the deepest level is being started, and isn't aborted
abbrev pub IsStarting : List LevelState → Type 0
IsStarting [] = ⊥
IsStarting (level ∷ levels) = (level.starting ≡ true) × (level.aborted ≡ false)
