-- The way of a session through its portals, where its deepest level ends.
use Rattle.std.specs.Prelude.{◌≡◌, ◌≢◌, ◌≤◌, ◌==◌, ℕ, true, false, List, [], ◌∷◌, Option, None, length}
use Rattle.std.specs.Option.{option_map}
use Rattle.addr_space.specs.Space.{Space, Asks}
use Rattle.forest.specs.Forest.{Empty, Once, children, has}
use Rattle.pgs_step.specs.declared.ids.CtxId.{CtxId}
use Rattle.pgs_step.specs.declared.ids.OwnerId.{OwnerId}
use Rattle.reset_callbacks.specs.ShelfState.{ShelfState}
use Rattle.context_rules.specs.Contexts.{Contexts}
use Rattle.context_tree.specs.State.{HooksFit, IsLive, Moves}
use Rattle.session_owners.specs.ResourceState as owners
use Rattle.session_owners.specs.ResourceState.{owners_of}
use Rattle.session_owners.specs.Placing.{PlansFit}
use Rattle.session_owners.specs.Commons.{CommonState}
use Rattle.exec_core.specs.declared.scan.Scan.{Scan}
use Rattle.session_rules.specs.State.{LevelState, OpenPortal, buffer_pin, first_of, owner_of, relcache_reference, snapshot_reference}
use Rattle.session_rules.specs.Releases.{item_released, owner_gone, owner_released}
use Rattle.session_rules.specs.World.{Scene}
use Rattle.session_rules.specs.Acts.{Ended, context_gone, in_order, portal_gone, where_so, where_there}
use Rattle.session_rules.specs.Portals.{portal_aborted, portal_passed}
use Rattle.session_rules.specs.Standing.{IsMade}
use Rattle.session_rules.specs.Ending.{Ending, gone_levels}
use Rattle.session_store.specs.State.{StoreState, contexts_in, levels_of, scene_of}
use Rattle.session_store.specs.Calls.{Keeps}
use Rattle.session_store.proofs.Kept.{nowhere}
use Rattle.session_ends.specs.declared.portals.LevelEnd.{LevelEnd}
use Rattle.session_ends.specs.declared.portals.LevelEnd.TheVariants.{Merges, Aborts, Goes}

-- the number of an owner, where there is one
abbrev pub number_in : Option OwnerId → Option ℕ
number_in owner = option_map (λ (id : OwnerId). id.number) owner

-- The context of a plan can go: it is there, nothing is below it, and it isn't the current one.
pub record IsSpare (contexts : Contexts) (current : ℕ) (x : ShelfState) (id : CtxId) : Type 0 where
  pub hooks : HooksFit contexts x
  pub once : Once contexts
  pub there : has id.number contexts ≡ true
  pub lone : children id.number contexts ≡ Empty
  pub other : current ≢ id.number

-- the contexts of a session's plans can go
abbrev pub PlansMayGo : StoreState → Space → ShelfState → Type 0
PlansMayGo store s x = PlansFit (IsSpare (contexts_in store s) store.tree.current.number x) store.owners.plans.standing

-- Contexts and owners of a store may have gone: the space has what the contexts have, and keeps what isn't theirs, nothing was asked of it,
-- what is there was there, and lies where it lay.
pub record GoesOut (a b : StoreState) (s t : Space) : Type 0 where
  pub keeps : Keeps b t
  pub moves : Moves a.tree b.tree s t
  pub asked : Asks a.tree.account 0 s t
  pub levels : b.levels ≡ a.levels
  pub current : b.tree.current ≡ a.tree.current
  pub next : b.tree.next ≡ a.tree.next
  pub next_owner : b.owners.next_owner ≡ a.owners.next_owner
  pub next_serial : b.owners.next_serial ≡ a.owners.next_serial
  pub had : (n : ℕ) → has n b.tree.kept ≡ true → has n a.tree.kept ≡ true
  pub stays : (id : CtxId) → IsLive a.tree id → has id.number b.tree.kept ≡ true → IsLive b.tree id
  pub owner_had : (n : ℕ) → has n (owners_of b.owners) ≡ true → has n (owners_of a.owners) ≡ true
  pub owner_stays : (id : OwnerId) → owners.IsLive a.owners id → has id.number (owners_of b.owners) ≡ true → owners.IsLive b.owners id

-- The deepest level ends, and these portals are left to be dealt with: those in front of them are portals of the levels `done`.
pub record IsEnding (done : LevelState → List LevelState → List LevelState) (store : StoreState) (s : Space) (x : ShelfState) (c : CommonState) (back : List OpenPortal) : Type 0 where
  pub level : LevelState
  pub above : List LevelState
  pub are : levels_of store.levels ≡ level ∷ above
  pub made : level.starting ≡ false → IsMade level
  pub front : List OpenPortal
  pub ending : Ending level above (done level above) front back (scene_of store s x c nowhere)

-- no level is left; those above are left
abbrev pub none_left : LevelState → List LevelState → List LevelState
none_left level above = []

abbrev pub above_left : LevelState → List LevelState → List LevelState
above_left level above = above

-- whose portals those are that are done
abbrev pub left_by : LevelEnd → LevelState → List LevelState → List LevelState
left_by (Merges to) level above = above
left_by (Aborts to) level above = gone_levels level above
left_by Goes level above = above

-- what becomes of a portal where the level of this number ends so
abbrev pub portal_after : LevelEnd → ℕ → OpenPortal → Scene → Ended
portal_after (Merges to) level p scene = portal_passed level (number_in to) p scene
portal_after (Aborts to) level p scene = portal_aborted level (number_in to) p scene
portal_after Goes level p scene =
    where_so (p.created == level) (in_order (where_there p.context context_gone ∷ portal_gone p.name ∷ [])) scene

-- The level of this number is the deepest one, and may end so: it is merged into the one above it, whose owner that is, it aborts, and that is
-- its owner, or it is aborted.
abbrev pub EndsSo : LevelEnd → List LevelState → Type 0
EndsSo end [] = ⊥
EndsSo (Merges to) (level ∷ above) = (1 ≤ length above) × (number_in to ≡ owner_of (first_of above))
EndsSo (Aborts to) (level ∷ above) = number_in to ≡ level.owner
EndsSo Goes (level ∷ above) = level.aborted ≡ true

-- the owner that other owners move to
abbrev pub owner_to : LevelEnd → Option OwnerId
owner_to (Merges to) = to
owner_to (Aborts to) = to
owner_to Goes = None

-- The executor of a portal ends, which has this owner, if any.
abbrev pub executor_at : Option ℕ → Scan → Scene → Ended
executor_at owner scan scene =
    where_there owner
    (λ o. in_order (
    where_there scan.page (item_released o buffer_pin)
    ∷ item_released o relcache_reference scan.object
    ∷ item_released o snapshot_reference scan.object
    ∷ []))
    scene

-- the owner of a portal, if there is one, is released into its parent and discarded
abbrev pub owner_ended : Option ℕ → Scene → Ended
owner_ended owner scene = where_there owner (λ o. in_order (owner_released true false o ∷ owner_gone o ∷ [])) scene
