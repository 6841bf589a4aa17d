-- What the resources of a session are seen as: its owners, and its files as far as their descriptors go.
use Rattle.std.specs.Prelude.{◌≡◌, ℕ, List, [], map, Some, refl}
use Rattle.std.specs.Option.{option_map_or}
use Rattle.std.specs.Coded.{Coded, code_by, coded×, coded_ℕ, coded_list}
use Rattle.pgs_step.specs.declared.ids.OwnerId.{OwnerId}
use Rattle.forest.specs.Forest.{Forest, at}
use Rattle.forest.specs.Code.{forest_code}
use Rattle.file_table.specs.Files.{Files}
use Rattle.snap_table.specs.declared.active.Active.{Active}
use Rattle.snap_table.specs.contracts.active.Active as active
use Rattle.plan_store.specs.Plans.{Plans}
use Rattle.lock_local.specs.Locks.{Lock, SessionLocks}
use Rattle.lock_local.specs.Code.{lock_code}
use Rattle.owner_core.specs.TableCode.{roomy_code}
use Rattle.session_rules.specs.State.{StandingPlan}
use Rattle.session_owners.specs.PlanStates.{plans_code}
pub use Rattle.session_owners.specs.PlanStates.{plan_state}
pub use Rattle.owner_core.specs.Owners.{Owner, OwnerTree, Roomy, AllAt, HoldsNothing, created, entered, forgotten, has_begun, held, items_of, remembered, tree_of}

-- the owners with their room, where each lies, the numbers that the next owner and the next item get, the files that have a
-- descriptor, the most recently used first, how many descriptors there are, the session's number and its locks, its active
-- snapshots, the newest last, and its plans
pub record ResourceState : Type 0 where
  pub rooms : Forest Roomy
  pub places : Forest ℕ
  pub next_owner : ℕ
  pub next_serial : ℕ
  pub recent : List ℕ
  pub descriptors : ℕ
  pub session : ℕ
  pub locks : List Lock
  pub stack : List Active
  pub plans : Plans

abbrev pub resource_code : Coded ResourceState
resource_code =
    code_by (Forest Roomy × (Forest ℕ × (ℕ × (ℕ × (List ℕ × (ℕ × (ℕ × (List Lock × (List Active × Plans)))))))))
    (coded× (forest_code roomy_code) (coded× (forest_code coded_ℕ) (coded× coded_ℕ (coded× coded_ℕ (coded× (coded_list coded_ℕ) (coded× coded_ℕ (coded× coded_ℕ (coded× (coded_list lock_code) (coded× (coded_list active.the_row.coded) plans_code)))))))))
    (λ r. (r.rooms, (r.places, (r.next_owner, (r.next_serial, (r.recent, (r.descriptors, (r.session, (r.locks, (r.stack, r.plans))))))))))
    (λ p. record { rooms = p.0; places = p.1.0; next_owner = p.1.1.0; next_serial = p.1.1.1.0; recent = p.1.1.1.1.0; descriptors = p.1.1.1.1.1.0; session = p.1.1.1.1.1.1.0; locks = p.1.1.1.1.1.1.1.0; stack = p.1.1.1.1.1.1.1.1.0; plans = p.1.1.1.1.1.1.1.1.1 }) (λ _. refl)

-- the owners alone
abbrev pub owners_of : ResourceState → OwnerTree
owners_of state = tree_of state.rooms

-- the session's number and its locks
abbrev pub locks_of : ResourceState → SessionLocks
locks_of state = record { session = state.session; locks = state.locks }

-- the owner is there, at this slot
abbrev pub IsLive : ResourceState → OwnerId → Type 0
IsLive state owner = at owner.number state.places ≡ Some owner.slot

-- for how many more items the owner of that number has room
abbrev pub spare_of : ℕ → ResourceState → ℕ
spare_of n state = option_map_or (λ room. room.spare) (at n state.rooms) 0

-- the files, as far as their descriptors go
abbrev pub files_of : ResourceState → Files
files_of state = record { descriptors = state.descriptors; opened = []; recent = state.recent }

-- the plans as the session's rules have them
abbrev pub plans_of : ResourceState → List StandingPlan
plans_of state = map plan_state state.plans.standing
