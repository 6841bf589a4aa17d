-- What a session holds, and what it counts.
use Rattle.std.specs.Prelude.{ℕ, Bool, false, List, [], ◌∷◌, length, drop, reverse, Option, Some, None}
use Rattle.std.specs.Option.{option_and_then, option_map_or}
use Rattle.pgs_step.specs.declared.ids.KindId.{KindId}
use Rattle.pgs_step.specs.declared.ids.TheConstants.KindId.{BUFFER_PIN, RELCACHE_REFERENCE, PLAN_REFERENCE, SNAPSHOT_REFERENCE, FILE}
use Rattle.forest.specs.Forest.{Empty}
use Rattle.context_rules.specs.Contexts.{Contexts}
use Rattle.context_rules.specs.Opening as contexts
use Rattle.owner_core.specs.Owners.{OwnerTree}
use Rattle.lock_local.specs.Locks.{Lock}
use Rattle.snap_table.specs.declared.active.Active.{Active}
use Rattle.exec_core.specs.declared.scan.Scan.{Scan}
use Rattle.portal_store.specs.declared.portal.PortalState.{PortalState}

-- A level of the transaction: the name of its savepoint, its context and its owner once they are made, whether it
-- was begun for one command alone, whether it is aborted, and whether it is still being started.
pub record LevelState : Type 0 where
  pub name : Option (List ℕ)
  pub context : Option ℕ
  pub owner : Option ℕ
  pub implicit : Bool
  pub aborted : Bool
  pub starting : Bool

-- A portal: its name, its context, the context of one row below that, and its owner, each once it is made, where its
-- scan stands, the level that it belongs to, the deepest that fetched from it, and how far it is.
pub record OpenPortal : Type 0 where
  pub name : List ℕ
  pub context : Option ℕ
  pub expr : Option ℕ
  pub owner : Option ℕ
  pub scan : Scan
  pub created : ℕ
  pub active : ℕ
  pub state : PortalState

-- a plan: its number, its context, whether it is discarded, and how many references to it are held
pub record StandingPlan : Type 0 where
  pub number : ℕ
  pub context : ℕ
  pub discarded : Bool
  pub references : ℕ

-- A session: its contexts and its owners with their items, the current context, the numbers that the next context,
-- owner and item get, its locks with the owners that hold them, the levels, the deepest first, the portals, the newest
-- first, the stack of active snapshots, the newest last, its plans, and its files that have a descriptor, the most
-- recently used first.
pub record SessionState : Type 0 where
  pub contexts : Contexts
  pub current : ℕ
  pub next_context : ℕ
  pub owners : OwnerTree
  pub next_owner : ℕ
  pub next_serial : ℕ
  pub locks : List Lock
  pub levels : List LevelState
  pub portals : List OpenPortal
  pub snapshots : List Active
  pub plans : List StandingPlan
  pub recent : List ℕ

-- a session as it opens
unfoldable pub opening : SessionState
opening = record {
  contexts = contexts.opening;
  current = 1;
  next_context = 6;
  owners = Empty;
  next_owner = 1;
  next_serial = 1;
  locks = [];
  levels = [];
  portals = [];
  snapshots = [];
  plans = [];
  recent = [];
}

-- the numbers of some of these contexts
abbrev pub top_context : ℕ
top_context = 1

abbrev pub cache_context : ℕ
cache_context = 3

abbrev pub portals_context : ℕ
portals_context = 4

abbrev pub abort_context : ℕ
abort_context = 5

-- the kinds of items that rules name
abbrev pub buffer_pin : KindId
buffer_pin = BUFFER_PIN

abbrev pub relcache_reference : KindId
relcache_reference = RELCACHE_REFERENCE

abbrev pub plan_reference : KindId
plan_reference = PLAN_REFERENCE

abbrev pub snapshot_reference : KindId
snapshot_reference = SNAPSHOT_REFERENCE

abbrev pub file_kind : KindId
file_kind = FILE

-- the first of a list
abbrev pub first_of : {A : Type 0} → List A → Option A
first_of [] = None
first_of (x ∷ xs) = Some x

-- the last of a list
abbrev pub last_of : {A : Type 0} → List A → Option A
last_of xs = first_of (reverse xs)

-- the number of the deepest level; 0 where there is none
abbrev pub depth : SessionState → ℕ
depth session = length session.levels

-- the level above the deepest
abbrev pub level_above : SessionState → Option LevelState
level_above session = first_of (drop 1 session.levels)

abbrev pub context_of : Option LevelState → Option ℕ
context_of level = option_and_then (λ level. level.context) level

abbrev pub owner_of : Option LevelState → Option ℕ
owner_of level = option_and_then (λ level. level.owner) level

-- the context and the owner of the deepest level
abbrev pub level_context : SessionState → Option ℕ
level_context session = context_of (first_of session.levels)

abbrev pub level_owner : SessionState → Option ℕ
level_owner session = owner_of (first_of session.levels)

-- whether the deepest level is aborted
abbrev pub is_aborted : List LevelState → Bool
is_aborted levels = option_map_or (λ level. level.aborted) (first_of levels) false

-- the deepest level changes
abbrev pub deepest_changed : (LevelState → LevelState) → List LevelState → List LevelState
deepest_changed change [] = []
deepest_changed change (level ∷ levels) = change level ∷ levels
