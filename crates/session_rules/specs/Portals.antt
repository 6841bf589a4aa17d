-- The ends of portals, by themselves and with the levels.
use Rattle.std.specs.Prelude.{ℕ, ◌-◌, ◌==◌, Bool, true, false, if◌then◌else◌, [], ◌∷◌, Option, None}
use Rattle.portal_store.specs.declared.portal.PortalState.{PortalState}
use Rattle.portal_store.specs.declared.portal.PortalState.TheVariants as portal
use Rattle.portal_store.specs.Portal.{lowered as level_lowered}
use Rattle.session_rules.specs.State.{OpenPortal, buffer_pin, relcache_reference, snapshot_reference}
use Rattle.session_rules.specs.World.{Scene}
use Rattle.session_rules.specs.Checks.{has_failed}
use Rattle.session_rules.specs.Acts.{Ended, children_gone, context_gone, in_order, portal_becomes, portal_gone, where_so, where_there}
use Rattle.session_rules.specs.Releases.{item_released, owner_gone, owner_moved, owner_released}

abbrev pub is_ready : PortalState → Bool
is_ready portal.New = false
is_ready portal.Ready = true
is_ready portal.Failed = false

-- The executor of a portal ends: its owner releases the pinned page, the reference to the relation and that to the snapshot, those that it holds.
abbrev pub executor_ended : OpenPortal → Scene → Ended
executor_ended p scene =
    where_there p.owner
    (λ owner. in_order (
    where_there p.scan.page (item_released owner buffer_pin)
    ∷ item_released owner relcache_reference p.scan.object
    ∷ item_released owner snapshot_reference p.scan.object
    ∷ []))
    scene

-- a portal's owner is released into its parent and discarded
abbrev pub portal_owner_ended : OpenPortal → Scene → Ended
portal_owner_ended p scene =
    where_there p.owner (λ owner. in_order (owner_released true false owner ∷ owner_gone owner ∷ [])) scene

-- a portal ends within its transaction
abbrev pub portal_ended : OpenPortal → Scene → Ended
portal_ended p scene =
    in_order (
    where_so (is_ready p.state) (in_order (executor_ended p ∷ portal_owner_ended p ∷ []))
    ∷ where_there p.context context_gone
    ∷ portal_gone p.name
    ∷ []) scene

-- a portal ends with its transaction: its owner is left to the level
abbrev pub portal_closed : OpenPortal → Scene → Ended
portal_closed p scene =
    in_order (where_so (is_ready p.state) (executor_ended p) ∷ where_there p.context context_gone ∷ portal_gone p.name ∷ []) scene

-- A portal where a level is merged into the one above it: one of that level belongs to the one above now, and its
-- owner is a child of that level's owner.
abbrev pub portal_passed : ℕ → Option ℕ → OpenPortal → Scene → Ended
portal_passed level above p scene =
    in_order (
    where_so (p.created == level) (where_there p.owner (λ owner. where_there above (owner_moved owner)))
    ∷ portal_becomes p.name (λ old. record old { created = level_lowered level old.created; active = level_lowered level old.active })
    ∷ []) scene

-- a portal of the level that aborts has failed, and its owner is the level's to release
abbrev pub portal_failed : OpenPortal → Scene → Ended
portal_failed p scene =
    in_order (
    portal_becomes p.name (λ old. record old { state = portal.Failed; owner = None; expr = None })
    ∷ where_there p.context children_gone
    ∷ []) scene

-- A portal from further out that is active in the level belongs to the level above. One that has failed gives its owner to the level.
abbrev pub portal_withdrawn : ℕ → Option ℕ → OpenPortal → Scene → Ended
portal_withdrawn level own p scene =
    in_order (
    where_so (has_failed p.state) (where_there p.owner (λ owner. where_there own (owner_moved owner)))
    ∷ portal_becomes p.name (λ old. record old { active = level - 1; owner = if has_failed old.state then None else old.owner })
    ∷ []) scene

abbrev pub portal_aborted : ℕ → Option ℕ → OpenPortal → Scene → Ended
portal_aborted level own p scene =
    elim (p.created == level) as (λ _. Ended) [
      | true ↦ portal_failed p scene
      | false ↦ where_so (p.active == level) (portal_withdrawn level own p) scene
    ]
