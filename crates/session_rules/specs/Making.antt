-- The steps that make something, and by what they are refused.
use Rattle.std.specs.Prelude.{ℕ, ◌+◌, ◌-◌, nat_le, Bool, true, false, if◌then◌else◌, [], ◌∷◌, ◌++◌, codes, Option, Some, None}
use Rattle.std.specs.Option.{option_map, option_map_or, option_and_then}
use Rattle.pgs_step.specs.declared.errors.Error.{Error}
use Rattle.pgs_step.specs.declared.errors.Error.TheVariants as error
use Rattle.pgs_step.specs.declared.events.What.TheVariants as what
use Rattle.portal_store.specs.declared.portal.PortalState.TheVariants as portal
use Rattle.exec_core.specs.Turn.{new_scan}
use Rattle.any_ctx.specs.declared.any.CtxKind.{CtxKind}
use Rattle.any_ctx.specs.declared.any.CtxKind.TheVariants as kind
use Rattle.context_report.specs.Lines.{no_total}
use Rattle.context_rules.specs.Contexts as contexts
use Rattle.context_rules.specs.Contexts.{created_events}
use Rattle.context_rules.specs.Refusals.{create_refusal}
use Rattle.context_rules.specs.Reports.{summed}
use Rattle.owner_core.specs.Owners.{created}
use Rattle.owner_core.specs.Steps.{made_event}
use Rattle.session_rules.specs.State.{deepest_changed, LevelState, SessionState, cache_context, depth, level_above, level_owner, owner_of, portals_context, top_context}
use Rattle.session_rules.specs.World.{Scene}
use Rattle.session_rules.specs.Elements.{LevelContext, NewContext, OfLevel, OfPortal, OwnerRole, PortalContext, RowContext, ScriptContext, Text}
use Rattle.session_rules.specs.Lookup.{context_named, portal_named}
use Rattle.session_rules.specs.Checks.{tree_error}
use Rattle.session_rules.specs.Acts.{Ended, changes, in_order, portal_becomes, say, where_there}

-- a limit is reached
abbrev pub limit : ℕ → ℕ → Option Error
limit most n = if nat_le most n then Some error.LimitReached else None

-- a level is pushed
abbrev pub level_made : Option Text → Bool → Scene → Ended
level_made name implicit scene =
    in_order (
    changes (λ session. record session {
      levels = record { name = name; context = None; owner = None; implicit = implicit; aborted = false; starting = true } ∷ session.levels;
    })
    ∷ say (what.BeginLevel (depth scene.session + 1))
    ∷ []) scene

-- the bytes that the session's contexts hold, and what is left of the session's share of the space
abbrev pub held : SessionState → ℕ
held session = (summed no_total session.contexts).total

abbrev pub left : Scene → ℕ
left scene = scene.around.space - held scene.session

-- by what a context of a name and kind is refused
abbrev pub context_refused : Text → Bool → CtxKind → Scene → Option Error
context_refused name protected kind scene = option_map tree_error (create_refusal (left scene) name kind protected scene.session.contexts)

-- a context is made below another one
abbrev pub context_made : ℕ → Text → Bool → CtxKind → Scene → Ended
context_made parent name protected kind scene =
    let n = scene.session.next_context in record {
      scene = record scene { session = record scene.session { contexts = contexts.created parent n name kind protected scene.session.contexts; next_context = n + 1 } };
      events = created_events parent n name;
    }

-- by what a new context is refused
abbrev pub new_context_refused : NewContext → Scene → Option Error
new_context_refused LevelContext scene = context_refused (codes "CurTransactionContext") true kind.Default scene
new_context_refused (PortalContext name) scene = context_refused (codes "PortalContext") true kind.Small scene
new_context_refused (RowContext name) scene = context_refused (codes "ExprContext") true kind.Small scene
new_context_refused (ScriptContext name parent kind) scene = context_refused name false kind scene

-- a new context of a level is below that of the level above, or below the topmost one
abbrev pub level_parent : Option LevelState → ℕ
level_parent None = top_context
level_parent (Some above) = option_map_or (λ n. n) above.context top_context

abbrev pub level_context_name : Option LevelState → Text
level_context_name None = codes "TopTransactionContext"
level_context_name (Some above) = codes "CurTransactionContext"

-- a context is made, and what it belongs to knows it
abbrev pub new_context_made : NewContext → Scene → Ended
new_context_made LevelContext scene =
    in_order (
    context_made (level_parent (level_above scene.session)) (level_context_name (level_above scene.session)) true kind.Default
    ∷ changes (λ session. record session { levels = deepest_changed (λ level. record level { context = Some scene.session.next_context }) session.levels })
    ∷ []) scene
new_context_made (PortalContext name) scene =
    in_order (
    context_made portals_context (codes "PortalContext") true kind.Small
    ∷ portal_becomes name (λ p. record p { context = Some scene.session.next_context })
    ∷ []) scene
new_context_made (RowContext name) scene =
    where_there (option_and_then (λ p. p.context) (portal_named name scene.session.portals))
    (λ parent. in_order (
    context_made parent (codes "ExprContext") true kind.Small
    ∷ portal_becomes name (λ p. record p { expr = Some scene.session.next_context })
    ∷ [])) scene
new_context_made (ScriptContext name parent kind) scene =
    where_there (context_named parent scene.session) (λ parent. context_made parent name false kind) scene

-- an owner is made below another one, if any
abbrev pub owner_made : Option ℕ → Scene → Ended
owner_made parent scene =
    let n = scene.session.next_owner in
    in_order (
    changes (λ session. record session { owners = created parent n session.owners; next_owner = n + 1 })
    ∷ say (made_event parent n)
    ∷ []) scene

-- an owner is made, and what it belongs to knows it
abbrev pub new_owner_made : OwnerRole → Scene → Ended
new_owner_made OfLevel scene =
    in_order (
    owner_made (owner_of (level_above scene.session))
    ∷ changes (λ session. record session { levels = deepest_changed (λ level. record level { owner = Some scene.session.next_owner }) session.levels })
    ∷ []) scene
new_owner_made (OfPortal name) scene =
    in_order (
    owner_made (level_owner scene.session)
    ∷ portal_becomes name (λ p. record p { owner = Some scene.session.next_owner })
    ∷ []) scene

-- a plan is made, with its context
abbrev pub plan_made : ℕ → Scene → Ended
plan_made plan scene =
    in_order (
    changes (λ session. record session {
      plans = session.plans ++ (record { number = plan; context = session.next_context; discarded = false; references = 0 } ∷ []);
    })
    ∷ context_made cache_context (codes "CachedPlan") true kind.Small
    ∷ []) scene

-- a portal is made at the deepest level
abbrev pub portal_made : Text → ℕ → ℕ → Option ℕ → Scene → Ended
portal_made name object rows bad scene =
    changes (λ session. record session {
      portals = record {
        name = name;
        context = None;
        expr = None;
        owner = None;
        scan = new_scan object rows bad;
        created = depth session;
        active = depth session;
        state = portal.New;
      } ∷ session.portals;
    }) scene
