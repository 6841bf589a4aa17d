-- A portal that is fetched from, and the steps of its turns.
use Rattle.std.specs.Prelude.{◌≡◌, ◌<◌, ℕ, List, ◌∷◌, Option, Some}
use Rattle.std.specs.Option.{option_map}
use Rattle.addr_space.specs.Space.{Asks}
use Rattle.context_tree.specs.State.{Moves}
use Rattle.exec_core.specs.declared.scan.Scan.{Scan}
use Rattle.exec_core.specs.declared.steps.ScanStep.{ScanStep}
use Rattle.exec_core.specs.declared.steps.ScanStep.TheVariants as step
use Rattle.pgs_step.specs.declared.events.What.{What}
use Rattle.pgs_step.specs.declared.events.What.TheVariants as what
use Rattle.portal_store.specs.Portals.{place_named}
use Rattle.session_rules.specs.Limits.{shared_buffers}
use Rattle.session_rules.specs.Elements as e
use Rattle.session_rules.specs.Acts.{Ended, context_cleared_alone, nothing, say, where_there}
use Rattle.session_rules.specs.Elements.{Element, InRow, OfPortal, Text}
use Rattle.session_rules.specs.Lookup.{memory_in, portal_named}
use Rattle.session_rules.specs.Parts.{at_owner}
use Rattle.session_rules.specs.Releases.{item_released}
use Rattle.session_rules.specs.State.{buffer_pin}
use Rattle.session_rules.specs.Works.{fallible_part}
use Rattle.session_rules.specs.World.{Around, Scene}
use Rattle.session_rules.specs.Standing.{IsFetched, IsWorking}
use Rattle.session_store.specs.Calls.{Acted, Keeps}
use Rattle.session_store.specs.State.{StoreState, levels_of, portals_of}
use Rattle.session_commands.specs.Performed.{IsBetweenSteps, Now, scene_in}

-- the scan of the portal of a name
abbrev pub scan_named : Text → StoreState → Option Scan
scan_named name store = option_map (λ p. p.scan) (portal_named name (portals_of store.portals))

-- a session between two steps of a level in which steps are taken, and the portal of a name, which has this scan, is active there
pub record IsFetching (name : Text) (scan : Scan) (n : Now) : Type 0 where
  pub between : IsBetweenSteps n
  pub working : IsWorking (levels_of n.store.levels)
  pub fetched : (around : Around) → IsFetched name (scene_in n around)
  pub is : scan_named name n.store ≡ Some scan

-- the portal of a name is at this place among the store's
abbrev pub IsAt : Text → ℕ → StoreState → Type 0
IsAt name place store = place_named name store.portals ≡ Some place

-- how many fallible calls a step makes
abbrev pub cost_of : ScanStep → ℕ
cost_of (step.Pin page) = 2
cost_of step.Alloc = 1
cost_of other = 0

-- there is a buffer for the page that a step pins
abbrev pub IsPage : ScanStep → Type 0
IsPage (step.Pin page) = page < shared_buffers
IsPage other = Unit {0}

-- the elements of a step of a scan
abbrev pub step_elements : Text → ScanStep → List Element
step_elements name s = e.Scans name s ∷ fallible_part name s

-- what a step does by itself
abbrev pub part_of : Text → ScanStep → Scene → Ended
part_of name step.Reset scene = where_there (memory_in (InRow name) scene.session) context_cleared_alone scene
part_of name (step.Unpin page) scene = at_owner (OfPortal name) (λ owner. item_released owner buffer_pin page) scene
part_of name (step.Row row value) scene = say (what.Row name row value) scene
part_of name other scene = nothing scene

-- an act that can't fail led from one session to another: the space has what the contexts have, and no call was made
pub record Follows (act : Scene → Ended) (a b : Now) (Said : List What → Type 0) : Type 0 where
  pub acted : Acted act a.store b.store a.space b.space a.shelf b.shelf a.commons b.commons Said
  pub keeps : Keeps b.store b.space
  pub moves : Moves a.store.tree b.store.tree a.space b.space
  pub asks : Asks a.store.tree.account 0 a.space b.space
  pub calls : b.calls ≡ a.calls
