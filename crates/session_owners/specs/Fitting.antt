-- The owners and files that a session keeps in a scene of it, with the commons that it sees, and what an act does to them.
use Rattle.std.specs.Prelude.{◌≡◌, List}
use Rattle.lock_shared.specs.Ranked.{beside}
use Rattle.pgs_step.specs.declared.events.What.{What}
use Rattle.session_rules.specs.World.{Scene}
use Rattle.session_rules.specs.Acts.{Ended}
use Rattle.session_owners.specs.ResourceState.{ResourceState, owners_of, plans_of}
use Rattle.session_owners.specs.Commons.{CommonState, pinned_beside, seen_by}
pub use Rattle.session_owners.specs.Hosting.{Hosting, HostsFit, hosting_of, with_hosting}
pub use Rattle.session_owners.specs.Placing.{AreLeft, contexts_of}

-- The owners of a scene, its files that have a descriptor, its locks, its active snapshots and its plans are these, as many descriptors
-- are its share, and its kinds, what others have locked and how many others pin each buffer are those of the commons.
pub record OwnersFit (state : ResourceState) (commons : CommonState) (scene : Scene) : Type 0 where
  pub owners : scene.session.owners ≡ owners_of state
  pub next_owner : scene.session.next_owner ≡ state.next_owner
  pub next_serial : scene.session.next_serial ≡ state.next_serial
  pub recent : scene.session.recent ≡ state.recent
  pub descriptors : scene.around.descriptors ≡ state.descriptors
  pub kinds : scene.around.kinds ≡ commons.kinds
  pub locked : scene.around.locked ≡ beside state.session commons.locks
  pub pinned : scene.around.pinned ≡ pinned_beside (owners_of state) commons.pins
  pub locks : scene.session.locks ≡ state.locks
  pub snapshots : scene.session.snapshots ≡ state.stack
  pub plans : scene.session.plans ≡ plans_of state

-- the scene with these owners, files, locks, active snapshots and plans, and these commons
abbrev pub with_owners : ResourceState → CommonState → Scene → Scene
with_owners state commons scene = record scene {
  session = record scene.session { owners = owners_of state; next_owner = state.next_owner; next_serial = state.next_serial; recent = state.recent; locks = state.locks; snapshots = state.stack; plans = plans_of state };
  around = record (seen_by state commons scene.around) { descriptors = state.descriptors };
}

-- An act leads from owners with what they hold, with the commons, to others and changes nothing else, and what it says is so.
pub record Acted (act : Scene → Ended) (a b : ResourceState) (c d : CommonState) (Said : List What → Type 0) : Type 0 where
  pub leads : (scene : Scene) → OwnersFit a c scene → (act scene).scene ≡ with_owners b d scene
  pub says : (scene : Scene) → OwnersFit a c scene → Said (act scene).events

-- The same where contexts of plans may go: an act leads from owners, commons, contexts and hooks to others and changes nothing else, and
-- what it says is so.
pub record ActedOn (act : Scene → Ended) (a b : ResourceState) (h k : Hosting) (c d : CommonState) (Said : List What → Type 0) : Type 0 where
  pub leads : (scene : Scene) → OwnersFit a c scene → HostsFit h scene → (act scene).scene ≡ with_hosting k (with_owners b d scene)
  pub says : (scene : Scene) → OwnersFit a c scene → HostsFit h scene → Said (act scene).events
