-- What is given back, and the release of an owner.
use Rattle.std.specs.Prelude.{ℕ, ◌-◌, ◌==◌, nat_lt, Bool, true, false, ◌&&◌, if◌then◌else◌, List, [], ◌∷◌}
use Rattle.pgs_step.specs.declared.events.What.TheVariants as what
use Rattle.pgs_step.specs.declared.ids.Item.{Item}
use Rattle.pgs_step.specs.declared.ids.KindId.{KindId}
use Rattle.pgs_step.specs.declared.ids.TheConstants.KindId.{PLAN_REFERENCE, FILE, FIRST_EXTENSION}
use Rattle.pgs_step.specs.declared.ids.Phase.{Phase}
use Rattle.pgs_step.specs.declared.ids.Phase.TheVariants.{BeforeLocks, Locks, AfterLocks}
use Rattle.forest.specs.Forest.{removed, moved}
use Rattle.owner_kinds.specs.Kind.{changed_at, closed}
use Rattle.owner_kinds.specs.KindShelf.{table_of}
use Rattle.owner_core.specs.Owners.{forgotten}
use Rattle.owner_core.specs.Steps.{Step, Said, GivesBack, ReleasesLocks, PassesLocks, ReleasesAllLocks, release_steps}
use Rattle.owner_core.specs.Steps as owner_steps
use Rattle.owner_core.specs.Released.{released}
use Rattle.lock_local.specs.Locks.{Lock}
use Rattle.lock_local.specs.Changes as locks
use Rattle.file_table.specs.Descriptors.{is_among, without}
use Rattle.session_rules.specs.State.{SessionState, StandingPlan}
use Rattle.session_rules.specs.World.{Scene}
use Rattle.session_rules.specs.Lookup.{newest, plan_at, plan_changed, plans_but}
use Rattle.session_rules.specs.Acts.{Ended, changes, context_gone, for_each, in_order, nothing, say, where_so, where_there}

-- what keeps count of the items of a kind besides their owners: nothing, the plans, the descriptors, or the extension kind at a place
pub data Keeper : Type 0 where
  NoOne : Keeper
  ThePlans : Keeper
  TheDescriptors : Keeper
  TheKind : ℕ → Keeper

abbrev pub keeper_of : KindId → Keeper
keeper_of kind =
    if kind.0 == PLAN_REFERENCE.0 then ThePlans
    else (if kind.0 == FILE.0 then TheDescriptors
    else (if nat_lt kind.0 FIRST_EXTENSION then NoOne else TheKind (kind.0 - FIRST_EXTENSION)))

-- a discarded plan without references goes, with its context
abbrev pub plan_settled : StandingPlan → Scene → Ended
plan_settled plan scene =
    in_order (changes (λ session. record session { plans = plans_but plan.number session.plans }) ∷ context_gone plan.context ∷ []) scene

abbrev pub plan_stays : StandingPlan → Scene → Ended
plan_stays plan scene = changes (λ session. record session { plans = plan_changed plan.number (λ old. plan) session.plans }) scene

-- a plan is as it is given now; it goes where it is discarded and no reference to it is held
abbrev pub plan_becomes : StandingPlan → Scene → Ended
plan_becomes plan scene =
    elim (plan.discarded && (plan.references == 0)) as (λ _. Ended) [ true ↦ plan_settled plan scene | false ↦ plan_stays plan scene ]

-- a reference to a plan is given back
abbrev pub plan_left : ℕ → Scene → Ended
plan_left n scene =
    where_there (plan_at n scene.session.plans) (λ plan. plan_becomes (record plan { references = plan.references - 1 })) scene

-- a file is closed: its descriptor is closed, where it had one
abbrev pub descriptor_left : ℕ → Scene → Ended
descriptor_left file scene =
    where_so (is_among file scene.session.recent)
    (λ scene. record {
      scene = record scene { session = record scene.session { recent = without file scene.session.recent } };
      events = what.DescriptorClosed file ∷ [];
    }) scene

-- an extension kind holds a key once less
abbrev pub key_left : ℕ → ℕ → Scene → Ended
key_left place key scene =
    nothing (record scene { around = record scene.around { kinds = changed_at place (closed key) scene.around.kinds } })

abbrev pub left_to : Keeper → ℕ → Scene → Ended
left_to NoOne key scene = nothing scene
left_to ThePlans key scene = plan_left key scene
left_to TheDescriptors key scene = descriptor_left key scene
left_to (TheKind place) key scene = key_left place key scene

-- what follows the release of an item
abbrev pub given_back : Item → Scene → Ended
given_back item scene = left_to (keeper_of item.kind) item.key scene

-- an owner's newest item of this kind and key, where it has one, is released
abbrev pub item_released : ℕ → KindId → ℕ → Scene → Ended
item_released owner kind key scene =
    where_there (newest owner kind key scene.session)
    (λ item. in_order (
    changes (λ session. record session { owners = forgotten owner kind key session.owners })
    ∷ say (what.Release item owner)
    ∷ given_back item
    ∷ []))
    scene

abbrev pub with_locks : List Lock → SessionState → SessionState
with_locks all session = record session { locks = all }

-- a step of a release
abbrev pub step_done : Step → Scene → Ended
step_done (Said event) scene = say event scene
step_done (GivesBack item) scene = given_back item scene
step_done (ReleasesLocks owner) scene =
    record { scene = record scene { session = with_locks (locks.released owner scene.session.locks) scene.session }; events = locks.releases owner scene.session.locks }
step_done (PassesLocks from to) scene =
    record { scene = record scene { session = with_locks (locks.passed from to scene.session.locks) scene.session }; events = locks.passes from to scene.session.locks }
step_done (ReleasesAllLocks top) scene =
    record { scene = record scene { session = with_locks [] scene.session }; events = locks.releases_of_all top scene.session.locks }

-- a phase of an owner and of all below it is released
abbrev pub phase_released : Bool → Bool → ℕ → Phase → Scene → Ended
phase_released commit top owner phase scene =
    let table = table_of scene.around.kinds in
    in_order (
    for_each step_done (release_steps table phase commit top owner scene.session.owners)
    ∷ changes (λ session. record session { owners = released table phase owner session.owners })
    ∷ []) scene

-- an owner and all below it are released, in the three phases
abbrev pub owner_released : Bool → Bool → ℕ → Scene → Ended
owner_released commit top owner scene = for_each (phase_released commit top owner) (BeforeLocks ∷ Locks ∷ AfterLocks ∷ []) scene

-- an owner is discarded, behind all below it
abbrev pub owner_gone : ℕ → Scene → Ended
owner_gone owner scene = record {
  scene = record scene { session = record scene.session { owners = removed owner scene.session.owners } };
  events = owner_steps.gone_events owner scene.session.owners;
}

-- an owner moves to the front of another's children
abbrev pub owner_moved : ℕ → ℕ → Scene → Ended
owner_moved owner parent scene = record {
  scene = record scene { session = record scene.session { owners = moved owner parent scene.session.owners } };
  events = what.MoveOwner owner parent ∷ [];
}
