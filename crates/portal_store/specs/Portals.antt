-- Portals as a list, newest first.
use Rattle.std.specs.Prelude.{◌≢◌, ℕ, ◌≤◌, ◌==◌, Bool, if◌then◌else◌, List, [], ◌∷◌, length, map, find, position, AllPairs, Option, None}
use lib.Pointwise.{pointwise}
use Rattle.exec_core.specs.declared.scan.Scan.{Scan}
use Rattle.portal_store.specs.declared.portal.Portal.{Portal}
use Rattle.portal_store.specs.declared.portal.PortalState.TheVariants.{New}

-- a portal that was just made at a level
abbrev pub new_portal : List ℕ → Scan → ℕ → Portal
new_portal name scan level = record { name = name; context = None; expr = None; owner = None; scan = scan; created = level; active = level; state = New }

-- whether a portal has this name
abbrev pub has_name : List ℕ → Portal → Bool
has_name name portal = pointwise ◌==◌ portal.name name

-- the portal of this name
abbrev pub portal_named : List ℕ → List Portal → Option Portal
portal_named name portals = find (has_name name) portals

-- its place among them
abbrev pub place_named : List ℕ → List Portal → Option ℕ
place_named name portals = position (has_name name) portals

-- the portals with the one of this name changed
abbrev pub changed : List ℕ → (Portal → Portal) → List Portal → List Portal
changed name change [] = []
changed name change (portal ∷ portals) = if has_name name portal then change portal ∷ portals else portal ∷ changed name change portals

-- the portals but the one of this name
abbrev pub without : List ℕ → List Portal → List Portal
without name [] = []
without name (portal ∷ portals) = if has_name name portal then portals else portal ∷ without name portals

-- the names of the portals
abbrev pub names : List Portal → List (List ℕ)
names portals = map (λ portal. portal.name) portals

-- no two portals have one name
abbrev pub HasDistinctNames : List Portal → Type 0
HasDistinctNames portals = AllPairs (λ (a b : List ℕ). a ≢ b) (names portals)

-- what holds of the portals of every session
pub record IsPortals (portals : List Portal) : Type 0 where
  pub at_most : length portals ≤ 1024
  pub distinct : HasDistinctNames portals
