-- What the names and numbers of commands stand for.
use Rattle.std.specs.Prelude.{ℕ, ◌+◌, ◌==◌, Bool, false, not, if◌then◌else◌, List, [], ◌∷◌, map, filter, find, codes, Option, Some, None}
use Rattle.std.specs.Option.{option_and_then, option_map_or}
use Rattle.pgs_step.specs.declared.ids.Item.{Item}
use Rattle.pgs_step.specs.declared.ids.KindId.{KindId}
use Rattle.context_rules.specs.Contexts as contexts
use Rattle.owner_kinds.specs.Kind.{Kind}
use Rattle.owner_items.specs.ItemList.{is_of}
use Rattle.owner_core.specs.Owners.{items_of}
use Rattle.pgs_command.specs.Words.{is_text}
use Rattle.session_rules.specs.State.{LevelState, OpenPortal, SessionState, StandingPlan, cache_context, context_of, last_of, level_context, level_owner, top_context}
use Rattle.session_rules.specs.Elements.{InCurrent, InPortal, InRow, MemoryRole, OfLevel, OfPortal, OwnerRole, Text}

-- whether a level is that of the savepoint of this name
abbrev pub is_named : Text → LevelState → Bool
is_named name level = option_map_or (is_text name) level.name false

-- the portal of this name
abbrev pub portal_named : Text → List OpenPortal → Option OpenPortal
portal_named name portals = find (λ portal. is_text portal.name name) portals

-- the portals with the one of this name changed, and without it
abbrev pub portal_changed : Text → (OpenPortal → OpenPortal) → List OpenPortal → List OpenPortal
portal_changed name change portals = map (λ portal. if is_text portal.name name then change portal else portal) portals

abbrev pub portals_but : Text → List OpenPortal → List OpenPortal
portals_but name portals = filter (λ portal. not (is_text portal.name name)) portals

-- the plan of this number
abbrev pub plan_at : ℕ → List StandingPlan → Option StandingPlan
plan_at n plans = find (λ plan. plan.number == n) plans

-- the plans with the one of this number changed, and without it
abbrev pub plan_changed : ℕ → (StandingPlan → StandingPlan) → List StandingPlan → List StandingPlan
plan_changed n change plans = map (λ plan. if plan.number == n then change plan else plan) plans

abbrev pub plans_but : ℕ → List StandingPlan → List StandingPlan
plans_but n plans = filter (λ plan. not (plan.number == n)) plans

-- The context of a name: four names stand for contexts of the program and of the transaction, each other one for a context of the script.
abbrev pub context_named : Text → SessionState → Option ℕ
context_named name session =
    if is_text name (codes "TopMemoryContext") then Some top_context
    else (if is_text name (codes "CacheMemoryContext") then Some cache_context
    else (if is_text name (codes "TopTransactionContext") then context_of (last_of session.levels)
    else (if is_text name (codes "CurTransactionContext") then level_context session else contexts.context_named name session.contexts)))

-- the extension kind of a name: 16 is the first of the list
abbrev pub kind_from : ℕ → Text → List Kind → Option KindId
kind_from n name [] = None
kind_from n name (kind ∷ kinds) = if is_text kind.name name then Some (record { 0 = n }) else kind_from (n + 1) name kinds

abbrev pub kind_named : Text → List Kind → Option KindId
kind_named name kinds = kind_from 16 name kinds

-- the owner of a role
abbrev pub owner_in : OwnerRole → SessionState → Option ℕ
owner_in OfLevel session = level_owner session
owner_in (OfPortal name) session = option_and_then (λ portal. portal.owner) (portal_named name session.portals)

-- the context in which memory is taken
abbrev pub memory_in : MemoryRole → SessionState → Option ℕ
memory_in InCurrent session = Some session.current
memory_in (InPortal name) session = option_and_then (λ portal. portal.context) (portal_named name session.portals)
memory_in (InRow name) session = option_and_then (λ portal. portal.expr) (portal_named name session.portals)

-- the newest item of this kind and key that an owner has
abbrev pub newest : ℕ → KindId → ℕ → SessionState → Option Item
newest owner kind key session = find (is_of kind key) (items_of owner session.owners)

-- the same of the deepest level's owner
abbrev pub newest_of_level : KindId → ℕ → SessionState → Option Item
newest_of_level kind key session = option_and_then (λ owner. newest owner kind key session) (level_owner session)
