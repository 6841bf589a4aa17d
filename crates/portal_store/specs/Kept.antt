-- How portals are kept.
use Rattle.std.specs.Prelude.{◌≡◌, ℕ, ◌<◌, ◌≤◌, ◌==◌, Bool, if◌then◌else◌, List, All, Option, Some, IsSome, length, slice_index_or}
use Rattle.std.specs.HashMap.{get}
use lib.Pointwise.{pointwise}
use Rattle.portal_store.specs.declared.places.Places.{Places}
use Rattle.portal_store.specs.declared.portal.Portal.{Portal}
use Rattle.portal_store.specs.Portals.{IsPortals, names}

-- whether two names are one, as maps compare them
abbrev pub same : List ℕ → List ℕ → Bool
same = pointwise ◌==◌

-- what is found of the portal of a name: its serial number, or any number where names aren't entered, since each may have one
abbrev pub knows : Places → List ℕ → Option ℕ
knows places name = if places.in_use then get same places.serials name else Some 0

-- each of these portals may be found by its name
abbrev pub KnowsAll : Places → List Portal → Type 0
KnowsAll places portals = All (λ name. IsSome (knows places name)) (names portals)

-- a portal that was made at no deeper level than this one, and is active in none
pub record IsAtMost (level : ℕ) (portal : Portal) : Type 0 where
  pub created : portal.created ≤ level
  pub active : portal.active ≤ level

-- from one place on, no number is higher than one in front of it
abbrev pub FallFrom : ℕ → List ℕ → Type 0
FallFrom from levels = (i j e : ℕ) → from ≤ i → i ≤ j → j < length levels → slice_index_or levels j e ≤ slice_index_or levels i e

-- a level for each portal, which neither that portal nor an older one reaches beyond
pub record IsReach (portals : List Portal) (levels : List ℕ) : Type 0 where
  pub long : length levels ≡ length portals
  pub within : (i j : ℕ) (d : Portal) (e : ℕ) → i ≤ j → j < length portals → IsAtMost (slice_index_or levels i e) (slice_index_or portals j d)
  pub falls : FallFrom 0 levels

-- the portal of this place, and so each newer one, reaches this level
pub record IsRaised (place to : ℕ) (old new : List ℕ) : Type 0 where
  pub long : length new ≡ length old
  pub up : (k e : ℕ) → k ≤ place → to ≤ slice_index_or new k e
  pub over : (k e : ℕ) → k < length old → slice_index_or old k e ≤ slice_index_or new k e
  pub falls : FallFrom 0 new

-- what holds of the portals of a session, of what is found by a name, and of how deep they reach
pub record IsKept (portals : List Portal) (found : List ℕ → Option ℕ) (levels : List ℕ) : Type 0 where
  pub are : IsPortals portals
  pub known : All (λ name. IsSome (found name)) (names portals)
  pub reach : IsReach portals levels
