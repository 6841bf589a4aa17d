-- The end of a level touches nothing outside it.
use Rattle.std.specs.Prelude.{ℕ, ◌==◌, Bool, true, false, not, ◌&&◌, ◌||◌, if◌then◌else◌, IsTrue, List, [], ◌∷◌, ◌++◌, map, filter, codes, Option, Some, None, is_none, unwrap_or, find, option_to_list}
use Rattle.std.specs.Option.{option_map_or}
use Rattle.std.specs.List.{list_all, list_any}
use Rattle.pgs_step.specs.declared.events.Event.{Event}
use Rattle.pgs_step.specs.declared.events.What.{What}
use Rattle.pgs_step.specs.declared.events.What.TheVariants as what
use Rattle.pgs_step.specs.declared.ids.TheConstants.KindId.{PLAN_REFERENCE}
use Rattle.lifetime_laws.specs.Reading.{Reader, allows_all, events_of, is_one_of, sessions_of}
use Rattle.lifetime_laws.specs.Parents.{is_within}
use Rattle.lifetime_laws.specs.Once.{Parents, first_parents, parents_behind}
use lib.Pointwise.{pointwise}

-- A level that began: its number, its context and its owner, where they were made, and the contexts of portals that were
-- made since.
pub record Begun : Type 0 where
  pub level : ℕ
  pub context : Option ℕ
  pub owner : Option ℕ
  pub portals : List ℕ

abbrev pub bare_level : ℕ → Begun
bare_level level = record { level = level; context = None; owner = None; portals = [] }

-- what the next event may make of the level that began last: its context, or its owner, or neither
pub data Awaited : Type 0 where
  ItsContext : Awaited
  ItsOwner : Awaited
  Neither : Awaited

abbrev pub awaited_behind : What → Awaited → Awaited
awaited_behind (what.BeginLevel level) awaited = ItsContext
awaited_behind other ItsContext = ItsOwner
awaited_behind other ItsOwner = Neither
awaited_behind other Neither = Neither

-- the level that began last changes
abbrev pub last_changed : (Begun → Begun) → List Begun → List Begun
last_changed change [] = []
last_changed change (level ∷ levels) = change level ∷ levels

abbrev pub with_context : Awaited → ℕ → List Begun → List Begun
with_context ItsContext context levels = last_changed (λ level. record level { context = Some context }) levels
with_context other context levels = levels

abbrev pub with_owner : Awaited → ℕ → List Begun → List Begun
with_owner ItsOwner owner levels = last_changed (λ level. record level { owner = Some owner }) levels
with_owner other owner levels = levels

-- whether a context's name is this one
abbrev pub is_named : List ℕ → List ℕ → Bool
is_named a b = pointwise ◌==◌ a b

-- the context of a portal is made since each of these levels
abbrev pub with_portal : List ℕ → ℕ → List Begun → List Begun
with_portal name context levels =
    elim (is_named name (codes "PortalContext")) as (λ _. List Begun) [
      | true ↦ map (λ (level : Begun). record level { portals = context ∷ level.portals }) levels
      | false ↦ levels
    ]

-- the levels that began, the last of each number and the newest first, behind an event
abbrev pub begun_behind : What → Awaited → List Begun → List Begun
begun_behind (what.BeginLevel level) awaited levels = bare_level level ∷ filter (λ other. not (other.level == level)) levels
begun_behind (what.Create context name parent) awaited levels = with_portal name context (with_context awaited context levels)
begun_behind (what.Owner owner) awaited levels = with_owner awaited owner levels
begun_behind (what.OwnerIn owner parent) awaited levels = with_owner awaited owner levels
begun_behind other awaited levels = levels

-- the level that began last with this number; one that never began has no context and no owner
abbrev pub level_begun : ℕ → List Begun → Begun
level_begun level levels = unwrap_or (find (λ other. other.level == level) levels) (bare_level level)

-- whether a level's end ends with this event: its context goes, or it is cleaned up where it has none
abbrev pub ends_with : What → Begun → Bool
ends_with (what.Delete context) level = option_map_or (λ own. own == context) level.context false
ends_with (what.CleanupLevel number) level = (level.level == number) && is_none level.context
ends_with other level = false

abbrev pub with_end : What → List Begun → List Begun → List Begun
with_end (what.AbortLevel level) levels ends = level_begun level levels ∷ ends
with_end other levels ends = ends

-- the levels that are in their end behind an event
abbrev pub ends_behind : What → List Begun → List Begun → List Begun
ends_behind event levels ends = with_end event levels (filter (λ level. not (ends_with event level)) ends)

-- the contexts of plans, behind an event
abbrev pub plans_behind : What → List ℕ → List ℕ
plans_behind (what.Create context name parent) plans = (if is_named name (codes "CachedPlan") then context ∷ plans else plans)
plans_behind other plans = plans

-- whether an event releases a reference to a plan
abbrev pub leaves_plan : What → Bool
leaves_plan (what.Release item owner) = item.kind.0 == PLAN_REFERENCE.0
leaves_plan other = false

-- What is seen of levels: contexts and owners with their parents, the levels that began, which of them are in their
-- end, the contexts of plans, and whether the event directly before released a reference to a plan.
pub record Leaving : Type 0 where
  pub parents : Parents
  pub awaited : Awaited
  pub begun : List Begun
  pub ends : List Begun
  pub plans : List ℕ
  pub plan_left : Bool

abbrev pub nothing_leaving : Leaving
nothing_leaving = record { parents = first_parents; awaited = Neither; begun = []; ends = []; plans = []; plan_left = false }

-- the owners that an event names; of an owner that moves, where it moves to
abbrev pub owners_named : What → List ℕ
owners_named (what.Owner owner) = owner ∷ []
owners_named (what.OwnerIn owner parent) = owner ∷ parent ∷ []
owners_named (what.MoveOwner owner parent) = parent ∷ []
owners_named (what.OwnerGone owner) = owner ∷ []
owners_named (what.Acquire item owner) = owner ∷ []
owners_named (what.Release item owner) = owner ∷ []
owners_named (what.NotClosed item owner) = owner ∷ []
owners_named (what.AcquireLock object mode owner) = owner ∷ []
owners_named (what.ReleaseLock object mode count owner) = owner ∷ []
owners_named (what.PassLock object mode count from to) = from ∷ to ∷ []
owners_named other = []

-- the contexts that an event names
abbrev pub contexts_named : What → List ℕ
contexts_named (what.Create context name parent) = context ∷ parent ∷ []
contexts_named (what.Reset context) = context ∷ []
contexts_named (what.Delete context) = context ∷ []
contexts_named (what.Move context parent) = context ∷ parent ∷ []
contexts_named (what.Hook word context) = context ∷ []
contexts_named (what.Callback word context) = context ∷ []
contexts_named (what.ContextStats depth context name counters) = context ∷ []
contexts_named other = []

-- whether a number is one of these roots or below one
abbrev pub is_within_some : List ℕ → (ℕ → ℕ → Bool) → ℕ → Bool
is_within_some roots within n = list_any (λ root. within root n) roots

-- whether the plan of this context went with the last reference to it
abbrev pub is_plan_left : What → Leaving → Bool
is_plan_left (what.Delete context) leaving = leaving.plan_left && is_one_of context leaving.plans
is_plan_left other leaving = false

-- whether the owners that an event names are that of the level or below it
abbrev pub owners_inside : What → Leaving → Begun → Bool
owners_inside event leaving level =
    list_all (is_within_some (option_to_list level.owner) (λ root n. is_within root n leaving.parents.owners)) (owners_named event)

-- whether the contexts that an event names lie in that of the level, or in that of a portal that was made since the level began
abbrev pub contexts_inside : What → Leaving → Begun → Bool
contexts_inside event leaving level =
    is_plan_left event leaving
    || list_all (is_within_some (option_to_list level.context ++ level.portals) (λ root n. is_within root n leaving.parents.contexts)) (contexts_named event)

-- the reader of levels, which lets nothing outside a level be named in its end
abbrev pub staying : Reader Leaving
staying = record {
  next = λ event leaving. record {
    parents = parents_behind event leaving.parents;
    awaited = awaited_behind event leaving.awaited;
    begun = begun_behind event leaving.awaited leaving.begun;
    ends = ends_behind event leaving.begun leaving.ends;
    plans = plans_behind event leaving.plans;
    plan_left = leaves_plan event;
  };
  allows = λ event leaving. list_all (λ level. owners_inside event leaving level && contexts_inside event leaving level) leaving.ends;
}

-- Whether the events of one session name, in the end of a level that aborts, nothing outside it: the end lasts from `abort level`
-- to the deletion of the level's context.
abbrev pub is_inside : List What → Bool
is_inside events = allows_all staying nothing_leaving events

-- In every session the end of a level that aborts touches nothing outside the level.
abbrev pub StaysInside : List Event → Type 0
StaysInside events = (n : ℕ) → IsTrue (is_inside (events_of n events))

-- whether in every session the end of a level that aborts touches nothing outside the level
abbrev pub stays_inside : List Event → Bool
stays_inside events = list_all (λ n. is_inside (events_of n events)) (sessions_of events)
