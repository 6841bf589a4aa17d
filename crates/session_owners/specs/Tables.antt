-- How often a session holds each item, and what the tables of these and the extension kinds do in a release.
use Rattle.std.specs.Prelude.{◌≡◌, ℕ, ◌+◌, ◌≤◌, ◌==◌, ◌||◌, nat_lt, Bool, false, if◌then◌else◌, List, map, slice_index}
use Rattle.std.specs.Coded.{Coded, code_by, coded×, coded_ℕ, coded_list}
use Rattle.std.proofs.Common.{refl}
use Rattle.counts.specs.Counts.{count_of, total}
use Rattle.ref_table.specs.References.{pair_cmp, references_of}
use Rattle.file_table.specs.Files.{Files, opens}
use Rattle.snap_table.specs.Snapshots.{Snapshots, registrations}
use Rattle.snap_table.specs.declared.active.Active.{Active}
use Rattle.snap_table.specs.contracts.active.Active as active
use Rattle.plan_store.specs.Plans.{Plans, references, references_to}
use Rattle.pgs_step.specs.declared.events.What.{What}
use Rattle.pgs_step.specs.declared.ids.KindId.{KindId}
use Rattle.pgs_step.specs.declared.ids.TheConstants.KindId.{BUFFER_PIN, RELCACHE_REFERENCE, CATCACHE_REFERENCE, CATCACHE_LIST_REFERENCE, PLAN_REFERENCE, TUPLE_DESCRIPTOR_REFERENCE, SNAPSHOT_REFERENCE, FILE, FIRST_EXTENSION}
use Rattle.owner_kinds.specs.Kind.{Kind}
use Rattle.owner_kinds.specs.KindShelf as shelf
use Rattle.owner_core.specs.Steps.{Step}
use Rattle.lock_local.specs.Locks.{Lock}
use Rattle.context_rules.specs.Contexts.{Contexts}
use Rattle.reset_callbacks.specs.ShelfState.{ShelfState}
use Rattle.session_rules.specs.State.{StandingPlan}
use Rattle.session_rules.specs.World.{Scene}
use Rattle.session_rules.specs.Acts.{for_each}
use Rattle.session_rules.specs.Releases.{NoOne, keeper_of, step_done}
use Rattle.session_owners.specs.PlanStates.{plan_state, plans_code}
use Rattle.session_owners.specs.Placing.{AreLeft}

-- What is held: how often each buffer is pinned, of each class and key that references are held to how many, the open files, the
-- registered and active snapshots, and the plans with the references to them.
pub record Held : Type 0 where
  pub pins : List ℕ
  pub references : List ((ℕ × ℕ) × ℕ)
  pub files : Files
  pub snapshots : Snapshots
  pub plans : Plans

abbrev pub held_code : Coded Held
held_code =
    code_by (List ℕ × (List ((ℕ × ℕ) × ℕ) × (ℕ × (List ℕ × (List ℕ × (List (ℕ × ℕ) × (List Active × Plans)))))))
    (coded× (coded_list coded_ℕ) (coded× (coded_list (coded× (coded× coded_ℕ coded_ℕ) coded_ℕ)) (coded× coded_ℕ (coded× (coded_list coded_ℕ) (coded× (coded_list coded_ℕ) (coded× (coded_list (coded× coded_ℕ coded_ℕ)) (coded× (coded_list active.the_row.coded) plans_code)))))))
    (λ h. (h.pins, (h.references, (h.files.descriptors, (h.files.opened, (h.files.recent, (h.snapshots.registered, (h.snapshots.stack, h.plans))))))))
    (λ p. record { pins = p.0; references = p.1.0; files = record { descriptors = p.1.1.0; opened = p.1.1.1.0; recent = p.1.1.1.1.0 }; snapshots = record { registered = p.1.1.1.1.1.0; stack = p.1.1.1.1.1.1.0 }; plans = p.1.1.1.1.1.1.1 }) (λ _. refl)

-- How often a kind and a key are held: that buffer is pinned, that file is open, that snapshot is registered, that plan is referred
-- to, or that key of a class is referenced.
abbrev pub times_held : Held → KindId → ℕ → ℕ
times_held held kind key =
    if kind.0 == BUFFER_PIN.0 then slice_index held.pins key
    else (if kind.0 == FILE.0 then opens held.files key
    else (if kind.0 == SNAPSHOT_REFERENCE.0 then registrations held.snapshots key
    else (if kind.0 == PLAN_REFERENCE.0 then references_to held.plans key else references_of held.references kind key)))

-- the classes of references: to relations, and to entries, lists and descriptors of catalog caches
abbrev pub is_class : ℕ → Bool
is_class class =
    (class == RELCACHE_REFERENCE.0)
    || ((class == CATCACHE_REFERENCE.0)
    || ((class == CATCACHE_LIST_REFERENCE.0) || (class == TUPLE_DESCRIPTOR_REFERENCE.0)))

-- references of these classes alone are held
abbrev pub AreOfClasses : List ((ℕ × ℕ) × ℕ) → Type 0
AreOfClasses references = (class key : ℕ) → is_class class ≡ false → count_of pair_cmp references (class, key) ≡ 0

-- a kind of references that nothing but owners and these tables keep count of
pub record IsReference (kind : KindId) : Type 0 where
  pub from : RELCACHE_REFERENCE.0 ≤ kind.0
  pub to : kind.0 ≤ FILE.0
  pub unkept : keeper_of kind ≡ NoOne

-- 1 where a session pins a buffer by its own counts, and else 0
abbrev pub once_in : List ℕ → ℕ → ℕ
once_in pins buffer = if nat_lt 0 (slice_index pins buffer) then 1 else 0

-- each buffer that a session pins is counted for it among all sessions
abbrev pub ArePinsShared : List ℕ → List ℕ → Type 0
ArePinsShared pins shared = (buffer : ℕ) → once_in pins buffer ≤ slice_index shared buffer

-- What a session did to its own counts of pins, from a to b, and to how many sessions pin each buffer, from c to d: as many others as
-- before pin each of them.
abbrev pub PinsBalance : List ℕ → List ℕ → List ℕ → List ℕ → Type 0
PinsBalance a b c d = (buffer : ℕ) → slice_index d buffer + once_in a buffer ≡ slice_index c buffer + once_in b buffer

-- what a release works on: a session's tables, the extension kinds, the session's locks, and its contexts with the hooks of the run,
-- since the context of a plan goes with it
pub record Lending : Type 0 where
  pub held : Held
  pub kinds : List Kind
  pub locks : List Lock
  pub contexts : Contexts
  pub shelf : ShelfState

abbrev pub lending_of : Held → List Kind → List Lock → Contexts → ShelfState → Lending
lending_of held kinds locks contexts shelf = record { held = held; kinds = kinds; locks = locks; contexts = contexts; shelf = shelf }

-- how often a kind and a key are held there: what is built in is counted in the tables, and extension kinds hold their own keys
abbrev pub times_lent : Lending → KindId → ℕ → ℕ
times_lent lending kind key = if nat_lt kind.0 FIRST_EXTENSION then times_held lending.held kind key else shelf.times_held lending.kinds kind key

-- The files of a scene that have a descriptor are these, and so are its kinds, its locks, its plans, its contexts and its hooks.
pub record TablesFit (lending : Lending) (scene : Scene) : Type 0 where
  pub recent : scene.session.recent ≡ lending.held.files.recent
  pub kinds : scene.around.kinds ≡ lending.kinds
  pub locks : scene.session.locks ≡ lending.locks
  pub plans : scene.session.plans ≡ map plan_state lending.held.plans.standing
  pub contexts : scene.session.contexts ≡ lending.contexts
  pub shelf : scene.around.shelf ≡ lending.shelf

-- the scene with these files that have a descriptor, these kinds, these locks, these plans, these contexts and these hooks
abbrev pub with_tables : List ℕ → List Kind → List Lock → List StandingPlan → Contexts → ShelfState → Scene → Scene
with_tables recent kinds locks plans contexts shelf scene = record scene {
  session = record scene.session { recent = recent; locks = locks; plans = plans; contexts = contexts };
  around = record scene.around { kinds = kinds; shelf = shelf };
}

-- the scene with what a lending has of it
abbrev pub with_lending : Lending → Scene → Scene
with_lending lending scene =
    with_tables lending.held.files.recent lending.kinds lending.locks (map plan_state lending.held.plans.standing) lending.contexts lending.shelf scene

-- The tables, the kinds, the locks, the plans and the contexts took these steps, with these events in all, as the session's rules say, and
-- references became no more. The active snapshots stay. How often each item is held is told where it is given back.
pub record TablesDo (old : Lending) (steps : List Step) (events : List What) (new : Lending) : Type 0 where
  pub leads : (scene : Scene) → TablesFit old scene → (for_each step_done steps scene).scene ≡ with_lending new scene
  pub says : (scene : Scene) → TablesFit old scene → (for_each step_done steps scene).events ≡ events
  pub descriptors : new.held.files.descriptors ≡ old.held.files.descriptors
  pub stack : new.held.snapshots.stack ≡ old.held.snapshots.stack
  pub fewer : total new.held.references ≤ total old.held.references
  pub fewer_plans : references new.held.plans ≤ references old.held.plans
  pub left : AreLeft old.held.plans.standing new.held.plans.standing
  pub limits : map (λ k. k.limit) new.kinds ≡ map (λ k. k.limit) old.kinds
