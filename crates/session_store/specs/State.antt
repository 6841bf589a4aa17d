-- What a session's store is seen as, and the session that it stands for.
use Rattle.std.specs.Prelude.{ℕ, ◌-◌, if◌then◌else◌, List, Option, Some, None, map, reverse}
use Rattle.std.specs.Option.{option_map}
use Rattle.addr_space.specs.Space.{Space}
use Rattle.reset_callbacks.specs.ShelfState.{ShelfState}
use Rattle.pgs_step.specs.declared.ids.CtxId.{CtxId}
use Rattle.context_rules.specs.Contexts.{Contexts, is_empty}
use Rattle.context_tree.specs.State.{TreeState, stands_for}
use Rattle.session_owners.specs.ResourceState.{ResourceState, owners_of, plans_of}
use Rattle.session_owners.specs.Commons.{CommonState, seen_by}
use Rattle.subxact_stack.specs.declared.levels.Level.{Level}
use Rattle.portal_store.specs.declared.portal.Portal.{Portal}
use Rattle.session_rules.specs.State.{LevelState, OpenPortal, SessionState}
use Rattle.session_rules.specs.World.{Around, Scene}
use Rattle.session_rules.specs.Making as rules

-- the contexts, the owners with the files, the levels of the transaction, level 1 first, and the portals, the newest first
pub record StoreState : Type 0 where
  pub tree : TreeState
  pub owners : ResourceState
  pub levels : List Level
  pub portals : List Portal

-- a level by the numbers of its context and its owner
abbrev pub level_state : Level → LevelState
level_state level = record {
  name = level.name;
  context = option_map (λ id. id.number) level.context;
  owner = option_map (λ id. id.number) level.owner;
  implicit = level.implicit;
  aborted = level.aborted;
  starting = level.starting;
}

-- the levels, the deepest first
abbrev pub levels_of : List Level → List LevelState
levels_of levels = map level_state (reverse levels)

-- a portal by the numbers of its contexts and its owner
abbrev pub portal_state : Portal → OpenPortal
portal_state portal = record {
  name = portal.name;
  context = option_map (λ id. id.number) portal.context;
  expr = option_map (λ id. id.number) portal.expr;
  owner = option_map (λ id. id.number) portal.owner;
  scan = portal.scan;
  created = portal.created;
  active = portal.active;
  state = portal.state;
}

-- the portals, the newest first
abbrev pub portals_of : List Portal → List OpenPortal
portals_of portals = map portal_state portals

-- the session that a store and its space stand for
unfoldable pub session_of : StoreState → Space → SessionState
session_of store s = record {
  contexts = stands_for store.tree s;
  current = store.tree.current.number;
  next_context = store.tree.next;
  owners = owners_of store.owners;
  next_owner = store.owners.next_owner;
  next_serial = store.owners.next_serial;
  locks = store.owners.locks;
  levels = levels_of store.levels;
  portals = portals_of store.portals;
  snapshots = store.owners.stack;
  plans = plans_of store.owners;
  recent = store.owners.recent;
}

-- the contexts alone
abbrev pub contexts_in : StoreState → Space → Contexts
contexts_in store s = (session_of store s).contexts

-- The session in its surroundings, with a shelf of hooks and the commons of the run: as many bytes of the space are its share as its
-- limit says, and as many descriptors as its store has.
abbrev pub scene_of : StoreState → Space → ShelfState → CommonState → Around → Scene
scene_of store s x c around = record {
  session = session_of store s;
  around = record (seen_by store.owners c around) { shelf = x; space = s.limit; descriptors = store.owners.descriptors };
}

-- the bytes that the session's contexts hold, and what is left of its share of the space
abbrev pub held_in : StoreState → Space → ℕ
held_in store s = rules.held (session_of store s)

abbrev pub left_in : StoreState → Space → ℕ
left_in store s = s.limit - held_in store s

-- a context, where there is one and it is empty
abbrev pub only_empty : Option CtxId → Contexts → Option CtxId
only_empty None contexts = None
only_empty (Some id) contexts = if is_empty id.number contexts then Some id else None
