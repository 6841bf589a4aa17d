-- What holds of a session in its surroundings between any two of its steps, and what holds besides between two lines.
use Rattle.std.specs.Prelude.{◌≡◌, ◌≢◌, ◌<◌, ◌≤◌, ◌⊎◌, ◌||◌, ◌+◌, ◌==◌, if◌then◌else◌, ℕ, true, false, is_some, Option, None, List, [], ◌∷◌, ◌++◌, length, All, Some}
use Rattle.std.specs.Option.{option_map_or}
use Rattle.pgs_step.specs.declared.ids.Item.{Item}
use Rattle.pgs_step.specs.declared.ids.TheConstants.KindId.{BUFFER_PIN}
use Rattle.forest.specs.Forest.{Empty, Node, Once, has, children, parent_of, is_above, AllNodes}
use Rattle.reset_callbacks.specs.Hook.{AreDistinct}
use Rattle.reset_callbacks.specs.ShelfState as shelf
use Rattle.reset_callbacks.specs.ShelfState.{ShelfState}
use Rattle.context_rules.specs.Contexts.{Context, Contexts, is_protected, is_empty}
use Rattle.context_rules.specs.Ends.{waiting}
use Rattle.snap_table.specs.declared.active.Active.{Active}
use Rattle.owner_kinds.specs.KindTable.{KindTable, IsKind}
use Rattle.owner_kinds.specs.KindTable as kind_table
use Rattle.owner_kinds.specs.KindShelf.{table_of}
use Rattle.owner_core.specs.Owners.{Owner, OwnerTree, AllAt, HoldsNothing, has_begun, held, items_of}
use Rattle.owner_core.specs.Sound.{IsSound}
use Rattle.session_rules.specs.Limits.{shared_buffers}
use Rattle.session_rules.specs.State.{LevelState, OpenPortal, StandingPlan, abort_context, cache_context, first_of, is_aborted, owner_of, plan_reference, portals_context, top_context}
use Rattle.portal_store.specs.declared.portal.PortalState.TheVariants.{New, Failed}
use Rattle.session_rules.specs.World.{Scene}
use Rattle.session_rules.specs.Elements.{Text}
use Rattle.session_rules.specs.Lookup.{plan_at, portal_named}
use Rattle.session_rules.specs.Portals.{is_ready}
use Rattle.session_rules.specs.Making.{level_parent}
use Rattle.session_rules.specs.Guarded.{AreGuarded, IsRooted}

-- a context that is as it was made or reset has no chunk, and no hook waits on it
abbrev pub IsFresh : Context → Type 0
IsFresh c = c.used ≡ false → (c.chunks ≡ []) × (c.hooks ≡ [])

-- a context of the session itself, below the topmost one
pub record IsOfSession (n : ℕ) (contexts : Contexts) : Type 0 where
  pub protected : is_protected n contexts ≡ true
  pub parent : parent_of n contexts ≡ Some top_context

-- The contexts: the topmost one is the only root, below an unprotected one none is protected, each number stands once and
-- is below the next one, and contexts 2 to 5 are there.
pub record AreContexts (contexts : Contexts) (next : ℕ) : Type 0 where
  pub rooted : IsRooted (λ c. c.protected) top_context contexts
  pub guarded : AreGuarded (λ c. c.protected) contexts
  pub once : Once contexts
  pub below : (n : ℕ) → has n contexts ≡ true → n < next
  pub room : abort_context < next
  pub own : (n : ℕ) → 1 < n → n ≤ abort_context → IsOfSession n contexts
  pub fresh : AllNodes IsFresh contexts

-- As many hooks are out of the shelf as wait, and no two of those that wait and those that the shelf holds have one word.
pub record AreHooks (contexts : Contexts) (hooks : ShelfState) : Type 0 where
  pub out : length (waiting contexts) ≤ hooks.out
  pub words : AreDistinct (waiting contexts ++ shelf.held hooks)

-- the context of a level: it is protected, and newer than its parent, which is that of the level above or the topmost one
pub record IsContextOf (n : ℕ) (above : List LevelState) (contexts : Contexts) : Type 0 where
  pub protected : is_protected n contexts ≡ true
  pub parent : parent_of n contexts ≡ Some (level_parent (first_of above))
  pub newer : level_parent (first_of above) < n
  pub own : abort_context < n

-- the owner of a level: its parent is that of the level above, and it is newer; that of level 1 is a root
pub record IsOwnerOf (n : ℕ) (above : List LevelState) (owners : OwnerTree) : Type 0 where
  pub there : has n owners ≡ true
  pub parent : parent_of n owners ≡ owner_of (first_of above)
  pub newer : (p : ℕ) → owner_of (first_of above) ≡ Some p → p < n

-- a level's context and owner, where they are made, and whether it may be for one command alone
pub record IsLevel (level : LevelState) (above : List LevelState) (contexts : Contexts) (owners : OwnerTree) : Type 0 where
  pub context : (n : ℕ) → level.context ≡ Some n → IsContextOf n above contexts
  pub owner : (n : ℕ) → level.owner ≡ Some n → IsOwnerOf n above owners
  pub implicit : level.implicit ≡ true → above ≡ []

abbrev pub AreLevels : List LevelState → Contexts → OwnerTree → Type 0
AreLevels [] contexts owners = Unit {0}
AreLevels (level ∷ levels) contexts owners = IsLevel level levels contexts owners × AreLevels levels contexts owners

-- a level with its context and its owner
pub record IsMade (level : LevelState) : Type 0 where
  pub context : is_some level.context ≡ true
  pub owner : is_some level.owner ≡ true

-- a level in which steps can be taken
pub record IsActive (level : LevelState) : Type 0 where
  pub made : IsMade level
  pub started : level.starting ≡ false
  pub unaborted : level.aborted ≡ false

-- the steps of a command are taken in an active level
abbrev pub IsWorking : List LevelState → Type 0
IsWorking [] = ⊥
IsWorking (level ∷ levels) = IsActive level

-- a level that is not being started and was not begun for one command alone
pub record IsOpen (level : LevelState) : Type 0 where
  pub started : level.starting ≡ false
  pub block : level.implicit ≡ false

-- the levels above another one
abbrev pub AreOuter : List LevelState → Type 0
AreOuter [] = Unit {0}
AreOuter (level ∷ levels) = IsActive level × IsOpen level × AreOuter levels

-- The deepest level: only while it is being started may its context or its owner be missing, and both are empty then. Where it
-- is aborted its owner and all below that hold nothing, and the current context is the one for that.
pub record IsDeepest (level : LevelState) (contexts : Contexts) (owners : OwnerTree) (current : ℕ) : Type 0 where
  pub made : level.starting ≡ false → IsMade level
  pub empty : (n : ℕ) → level.starting ≡ true → level.context ≡ Some n → is_empty n contexts ≡ true
  pub alone : (n : ℕ) → level.starting ≡ true → level.owner ≡ Some n → children n owners ≡ Empty
  pub idle : (n : ℕ) → level.starting ≡ true → level.owner ≡ Some n → items_of n owners ≡ []
  pub released : (n : ℕ) → level.aborted ≡ true → level.owner ≡ Some n → AllAt HoldsNothing n owners
  pub at_abort : level.aborted ≡ true → current ≡ abort_context
  pub open_level : level.aborted ≡ true → IsOpen level

-- Each level above the deepest is active. Without a level the current context is the topmost one.
abbrev pub FitLevels : List LevelState → Contexts → OwnerTree → ℕ → Type 0
FitLevels [] contexts owners current = current ≡ top_context
FitLevels (level ∷ levels) contexts owners current = IsDeepest level contexts owners current × AreOuter levels

-- an item is of a known kind, and there is a buffer of a pin's number
pub record IsItem (kinds : KindTable) (item : Item) : Type 0 where
  pub kind : IsKind kinds item.kind
  pub buffer : item.kind.0 ≡ BUFFER_PIN.0 → item.key < shared_buffers

abbrev pub HasItems : KindTable → Owner → Type 0
HasItems kinds owner = All (IsItem kinds) owner.items

-- the owner of one of the levels
abbrev pub IsOwner : ℕ → List LevelState → Type 0
IsOwner n [] = ⊥
IsOwner n (level ∷ levels) = (level.owner ≡ Some n) ⊎ IsOwner n levels

-- an owner, or one below it
abbrev pub IsWithin : ℕ → ℕ → OwnerTree → Type 0
IsWithin p n owners = (n ≡ p) ⊎ (is_above p n owners ≡ true)

-- the owner of the deepest level, which is aborted, or one below it
pub record IsReleased (level : LevelState) (n : ℕ) (owners : OwnerTree) : Type 0 where
  pub aborted : level.aborted ≡ true
  pub owner : ℕ
  pub is : level.owner ≡ Some owner
  pub within : IsWithin owner n owners

abbrev pub WasReleased : ℕ → List LevelState → OwnerTree → Type 0
WasReleased n [] owners = ⊥
WasReleased n (level ∷ levels) owners = IsReleased level n owners

-- The levels of active snapshots never fall, from the first one on, and are from one level to another.
abbrev pub AreStacked : ℕ → ℕ → List Active → Type 0
AreStacked least most [] = Unit {0}
AreStacked least most (entry ∷ entries) = (least ≤ entry.level) × (entry.level ≤ most) × AreStacked entry.level most entries

-- the number of the deepest level that snapshots may be active in: one that is being started or is aborted has none
abbrev pub active_depth : List LevelState → ℕ
active_depth [] = 0
active_depth (level ∷ levels) = if level.starting || level.aborted then length levels else length levels + 1

-- Below the context of a portal is the context of one row, where it is made, and nothing else.
abbrev pub IsRow : Option ℕ → Contexts → Type 0
IsRow None contexts = contexts ≡ Empty
IsRow (Some e) contexts = (row : Context) × (contexts ≡ Node e row Empty Empty) × (row.protected ≡ true)

-- the context of a portal: it is one of the session's own, below the one for portals; neither it nor that of one row is the current one
pub record IsPlace (n : ℕ) (expr : Option ℕ) (contexts : Contexts) (current : ℕ) : Type 0 where
  pub protected : is_protected n contexts ≡ true
  pub parent : parent_of n contexts ≡ Some portals_context
  pub own : abort_context < n
  pub row : IsRow expr (children n contexts)
  pub other : current ≢ n
  pub apart : expr ≢ Some current

-- the owner of the level of this number
abbrev pub owner_at : ℕ → List LevelState → Option ℕ
owner_at n [] = None
owner_at n (level ∷ levels) = if length levels + 1 == n then level.owner else owner_at n levels

-- the owner of a portal of the level of this number: its parent is that level's, it isn't a level's, and nothing is below it
pub record IsAttached (n number : ℕ) (levels : List LevelState) (owners : OwnerTree) : Type 0 where
  pub there : has n owners ≡ true
  pub parent : parent_of n owners ≡ owner_at number levels
  pub lone : children n owners ≡ Empty
  pub other : IsOwner n levels → ⊥

-- a portal at rest: it is ready or has no owner
abbrev pub IsAtRest : OpenPortal → Type 0
IsAtRest p = is_ready p.state ≡ false → p.owner ≡ None

-- a portal on which a line is at work: it is active in the deepest level, which has this number, and where it is new it belongs to that
abbrev pub IsAtWork : OpenPortal → ℕ → Type 0
IsAtWork p deepest = (p.active ≡ deepest) × (p.state ≡ New → p.created ≡ deepest)

-- a portal of a level in which it may be fetched from: it belongs to a level, and no deeper one than where it is active
pub record IsLive (p : OpenPortal) (levels : List LevelState) : Type 0 where
  pub some : 1 ≤ p.created
  pub within : p.created ≤ p.active
  pub active : p.active ≤ active_depth levels
  pub line : IsAtRest p ⊎ IsAtWork p (length levels)

-- a portal of the deepest level, which is aborted
pub record IsDead (p : OpenPortal) (levels : List LevelState) : Type 0 where
  pub aborted : is_aborted levels ≡ true
  pub created : p.created ≡ length levels
  pub within : p.created ≤ p.active
  pub active : p.active ≤ length levels
  pub failed : p.state ≡ Failed
  pub owner : p.owner ≡ None
  pub expr : p.expr ≡ None

pub record IsPortal (p : OpenPortal) (levels : List LevelState) (contexts : Contexts) (owners : OwnerTree) (current : ℕ) : Type 0 where
  pub place : (n : ℕ) → p.context ≡ Some n → IsPlace n p.expr contexts current
  pub made : p.context ≡ None → p.expr ≡ None
  pub owner : (n : ℕ) → p.owner ≡ Some n → IsAttached n p.created levels owners
  pub stage : IsLive p levels ⊎ IsDead p levels

-- two portals have different names, contexts and owners
pub record AreOther (a b : OpenPortal) : Type 0 where
  pub name : b.name ≢ a.name
  pub context : (n : ℕ) → b.context ≡ Some n → a.context ≡ Some n → ⊥
  pub owner : (n : ℕ) → b.owner ≡ Some n → a.owner ≡ Some n → ⊥

abbrev pub AreDifferent : List OpenPortal → Type 0
AreDifferent [] = Unit {0}
AreDifferent (p ∷ ps) = All (AreOther p) ps × AreDifferent ps

pub record ArePortals (ps : List OpenPortal) (levels : List LevelState) (contexts : Contexts) (owners : OwnerTree) (current : ℕ) : Type 0 where
  pub each : All (λ p. IsPortal p levels contexts owners current) ps
  pub different : AreDifferent ps

-- the owner of one of the portals
abbrev pub IsOfPortal : ℕ → List OpenPortal → Type 0
IsOfPortal n [] = ⊥
IsOfPortal n (p ∷ ps) = (p.owner ≡ Some n) ⊎ IsOfPortal n ps

-- The owners: each number and each serial stands once and is below the next one, each owner is a level's or a portal's or was left to
-- an aborted level, and only there has a release begun.
pub record AreOwners (kinds : KindTable) (owners : OwnerTree) (next_owner next_serial : ℕ) (levels : List LevelState) (portals : List OpenPortal) : Type 0 where
  pub sound : IsSound owners next_owner next_serial
  pub each : (n : ℕ) → has n owners ≡ true → IsOwner n levels ⊎ (IsOfPortal n portals ⊎ WasReleased n levels owners)
  pub begun : (n : ℕ) → has_begun n owners ≡ true → WasReleased n levels owners
  pub items : AllNodes (HasItems kinds) owners

-- A plan: its context is one of the session's own and below the one for caches, nothing is below it, and it isn't the current one.
-- A plan that is discarded is still referred to.
pub record IsPlan (plan : StandingPlan) (contexts : Contexts) (current : ℕ) : Type 0 where
  pub protected : is_protected plan.context contexts ≡ true
  pub parent : parent_of plan.context contexts ≡ Some cache_context
  pub own : abort_context < plan.context
  pub lone : children plan.context contexts ≡ Empty
  pub other : current ≢ plan.context
  pub kept : plan.discarded ≡ true → 1 ≤ plan.references

-- two plans have different numbers and different contexts
pub record Differ (a b : StandingPlan) : Type 0 where
  pub number : b.number ≢ a.number
  pub context : b.context ≢ a.context

abbrev pub AreApart : List StandingPlan → Type 0
AreApart [] = Unit {0}
AreApart (plan ∷ plans) = All (Differ plan) plans × AreApart plans

-- how many references are counted of the plan of this number; none, where it doesn't stand
abbrev pub references_of : ℕ → List StandingPlan → ℕ
references_of n plans = option_map_or (λ plan. plan.references) (plan_at n plans) 0

-- The plans, of which each number is referred to so often: so a number that is referred to is that of a plan that stands.
pub record ArePlans (plans : List StandingPlan) (contexts : Contexts) (current : ℕ) (times : ℕ → ℕ) : Type 0 where
  pub each : All (λ plan. IsPlan plan contexts current) plans
  pub apart : AreApart plans
  pub counted : (n : ℕ) → references_of n plans ≡ times n

-- how often owners hold a reference to the plan of this number
abbrev pub referred : OwnerTree → ℕ → ℕ
referred owners n = held plan_reference n owners

-- A session in its surroundings between two of its steps.
pub record Stands (scene : Scene) : Type 0 where
  pub contexts : AreContexts scene.session.contexts scene.session.next_context
  pub current : has scene.session.current scene.session.contexts ≡ true
  pub hooks : AreHooks scene.session.contexts scene.around.shelf
  pub levels : AreLevels scene.session.levels scene.session.contexts scene.session.owners
  pub fit : FitLevels scene.session.levels scene.session.contexts scene.session.owners scene.session.current
  pub kinds : kind_table.IsSound (table_of scene.around.kinds)
  pub owners : AreOwners (table_of scene.around.kinds) scene.session.owners scene.session.next_owner scene.session.next_serial scene.session.levels scene.session.portals
  pub portals : ArePortals scene.session.portals scene.session.levels scene.session.contexts scene.session.owners scene.session.current
  pub plans : ArePlans scene.session.plans scene.session.contexts scene.session.current (referred scene.session.owners)
  pub snapshots : AreStacked 1 (active_depth scene.session.levels) scene.session.snapshots

-- the portal of a name, if any, is active in the deepest level
abbrev pub IsFetched : Text → Scene → Type 0
IsFetched name s = (p : OpenPortal) → portal_named name s.session.portals ≡ Some p → p.active ≡ length s.session.levels

-- A session in its surroundings between two lines: besides, no level is being started, none was begun for one command alone, and
-- each portal is at rest.
abbrev pub AreOpen : List LevelState → Type 0
AreOpen [] = Unit {0}
AreOpen (level ∷ levels) = IsOpen level × AreOpen levels

pub record StandsBetweenLines (scene : Scene) : Type 0 where
  pub stands : Stands scene
  pub open_levels : AreOpen scene.session.levels
  pub at_rest : All IsAtRest scene.session.portals

-- a session that has ended: nothing is left, and no hook waits
pub record HasExited (scene : Scene) : Type 0 where
  pub levels : scene.session.levels ≡ []
  pub contexts : scene.session.contexts ≡ Empty
  pub owners : scene.session.owners ≡ Empty
  pub snapshots : scene.session.snapshots ≡ []
  pub hooks : AreHooks Empty scene.around.shelf
