-- What a step of its scan and the end of a subtransaction do to a portal.
use Rattle.std.specs.Prelude.{ℕ, ◌-◌, ◌==◌, nat_lt, Bool, true, false, ◌&&◌, if◌then◌else◌, List, Option, None}
use Rattle.exec_core.specs.Turn.{left, turn}
use Rattle.exec_core.specs.declared.scan.Scan.{Scan}
use Rattle.exec_core.specs.declared.steps.ScanStep.{ScanStep}
use Rattle.pgs_step.specs.declared.ids.OwnerId.{OwnerId}
use Rattle.portal_store.specs.declared.portal.Portal.{Portal}
use Rattle.portal_store.specs.declared.portal.PortalState.{PortalState}
use Rattle.portal_store.specs.declared.portal.PortalState.TheVariants.{New, Ready, Failed}

-- the steps of a turn that come, where it begins, and where it has begun
abbrev pub coming : Bool → Scan → List ScanStep
coming true scan = turn scan
coming false scan = left scan

-- a level, or the one before it where it is the level that ends
abbrev pub lowered : ℕ → ℕ → ℕ
lowered level n = if n == level then n - 1 else n

-- the portal behind the commit of a subtransaction of this level
abbrev pub to_parent : ℕ → Portal → Portal
to_parent level portal = record portal { created = lowered level portal.created; active = lowered level portal.active }

-- whether the portal was created before the level and is active at it
abbrev pub is_outer : ℕ → Portal → Bool
is_outer level portal = nat_lt portal.created level && (portal.active == level)

-- the owner of a portal that has failed
abbrev pub failed_owner : PortalState → Option OwnerId → Option OwnerId
failed_owner New owner = None
failed_owner Ready owner = None
failed_owner Failed owner = owner

-- the owner that a portal keeps: none where it has failed
abbrev pub kept_owner : PortalState → Option OwnerId → Option OwnerId
kept_owner New owner = owner
kept_owner Ready owner = owner
kept_owner Failed owner = None

-- The portal behind the abort of a subtransaction of this level. One that was created there has failed, and
-- what it had is the level's to release. One from further out that is active there belongs to the level
-- before, and keeps its owner unless it has failed.
abbrev pub sub_aborted : ℕ → Portal → Portal
sub_aborted level portal =
    if portal.created == level then record portal { state = Failed; owner = None; expr = None }
    else if is_outer level portal then record portal { active = level - 1; owner = kept_owner portal.state portal.owner }
    else portal

-- the owner that moves to the owner of the level that is aborted: that of a portal from further out which has failed
abbrev pub moved_owner : ℕ → Portal → Option OwnerId
moved_owner level portal = if is_outer level portal then failed_owner portal.state portal.owner else None
