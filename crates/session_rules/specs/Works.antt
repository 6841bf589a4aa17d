-- What is done within a transaction: for each command a row, its checks and then its steps.
use Rattle.std.specs.Prelude.{ℕ, zero, suc, ◌+◌, ◌==◌, true, false, List, [], ◌∷◌, ◌++◌, map, fold, length, Option, Some, None}
use Rattle.std.specs.Option.{option_map_or}
use Rattle.std.specs.List.{flat_map}
use Rattle.pgs_step.specs.declared.errors.Error.TheVariants as error
use Rattle.pgs_step.specs.declared.events.What.TheVariants as what
use Rattle.pgs_step.specs.declared.ids.KindId.{KindId}
use Rattle.pgs_step.specs.declared.lock_modes.Mode.TheVariants.{AccessShareLock}
use Rattle.pgs_command.specs.declared.commands.Work.{Work}
use Rattle.pgs_command.specs.declared.commands.Work.TheVariants as work
use Rattle.pgs_command.specs.declared.commands.ContextCommand.{ContextCommand}
use Rattle.pgs_command.specs.declared.commands.ContextCommand.TheVariants as context
use Rattle.pgs_command.specs.declared.commands.ChunkCommand.{ChunkCommand}
use Rattle.pgs_command.specs.declared.commands.ChunkCommand.TheVariants as chunk
use Rattle.pgs_command.specs.declared.commands.ItemCommand.{ItemCommand}
use Rattle.pgs_command.specs.declared.commands.ItemCommand.TheVariants as item
use Rattle.pgs_command.specs.declared.commands.LockCommand.{LockCommand}
use Rattle.pgs_command.specs.declared.commands.LockCommand.TheVariants as lock
use Rattle.pgs_command.specs.declared.commands.SnapshotCommand.{SnapshotCommand}
use Rattle.pgs_command.specs.declared.commands.SnapshotCommand.TheVariants as snapshot
use Rattle.pgs_command.specs.declared.commands.PlanCommand.{PlanCommand}
use Rattle.pgs_command.specs.declared.commands.PlanCommand.TheVariants as plan
use Rattle.pgs_command.specs.declared.commands.PortalCommand.{PortalCommand}
use Rattle.pgs_command.specs.declared.commands.PortalCommand.TheVariants as portal
use Rattle.pgs_command.specs.declared.commands.TellCommand.{TellCommand}
use Rattle.pgs_command.specs.declared.commands.TellCommand.TheVariants as tell
use Rattle.pgs_command.specs.declared.kinds.ContextKind.{ContextKind}
use Rattle.pgs_command.specs.declared.kinds.ContextKind.TheVariants as script
use Rattle.pgs_command.specs.Kinds.{class_kind}
use Rattle.any_ctx.specs.declared.any.CtxKind.{CtxKind}
use Rattle.any_ctx.specs.declared.any.CtxKind.TheVariants as kind
use Rattle.exec_core.specs.declared.scan.Scan.{Scan}
use Rattle.exec_core.specs.declared.steps.ScanStep.{ScanStep}
use Rattle.exec_core.specs.declared.steps.ScanStep.TheVariants as step
use Rattle.exec_core.specs.Turn.{turn, taken}
use Rattle.session_rules.specs.Limits.{portal_bytes, row_bytes}
use Rattle.session_rules.specs.Elements as e
use Rattle.session_rules.specs.State.{OpenPortal, SessionState, buffer_pin, file_kind, plan_reference, relcache_reference, snapshot_reference}
use Rattle.session_rules.specs.Elements.{Check, Element, InCurrent, InPortal, InRow, OfLevel, OfPortal, OwnerRole, PortalContext, RowContext, ScriptContext, Text}
use Rattle.session_rules.specs.Lookup.{portal_named}

-- a script's kind of context
abbrev pub kind_of : ContextKind → CtxKind
kind_of script.Default = kind.Default
kind_of script.Small = kind.Small
kind_of (script.Slab size) = kind.Slab size
kind_of script.Generation = kind.Generation
kind_of script.Bump = kind.Bump

-- an owner gets room for an item, and takes it
abbrev pub takes : OwnerRole → KindId → ℕ → List Element
takes role kind key = e.Enlarge role ∷ e.Take role kind key ∷ []

-- a portal is made with all that it holds
abbrev pub portal_steps : Text → ℕ → ℕ → Option ℕ → List Element
portal_steps name object rows bad =
    (e.MakePortal name object rows bad ∷ e.MakeContext (PortalContext name) ∷ e.MakeOwner (OfPortal name)
    ∷ e.TakeLock (OfPortal name) object AccessShareLock ∷ [])
    ++ (takes (OfPortal name) relcache_reference object ++ (takes (OfPortal name) snapshot_reference object
    ++ (e.Alloc (InPortal name) None portal_bytes false ∷ e.MakeContext (RowContext name) ∷ e.PortalReady name ∷ [])))

-- what a step of a scan needs besides that the scan takes it
abbrev pub fallible_part : Text → ScanStep → List Element
fallible_part name (step.Pin page) = takes (OfPortal name) buffer_pin page
fallible_part name (step.Bad row) = e.Checks (e.Refuse (error.BadRow row)) ∷ []
fallible_part name step.Alloc = e.Alloc (InRow name) None row_bytes false ∷ []
fallible_part name other = []

-- the elements of a turn of a scan
abbrev pub turn_steps : Text → Scan → List Element
turn_steps name scan = flat_map (λ s. map (e.InTurn name) (e.Scans name s ∷ fallible_part name s)) (turn scan)

-- the scan behind a turn
abbrev pub after_turn : Scan → Scan
after_turn scan = fold (λ scan s. taken s scan) scan (turn scan)

-- At most so many turns, and then how many rows they gave. The scan that is at its end takes one turn more and gives no row.
abbrev pub fetch_steps : Text → ℕ → Scan → ℕ → List Element
fetch_steps name zero scan rows = e.Says (what.Fetched name rows) ∷ []
fetch_steps name (suc count) scan rows =
    turn_steps name scan
    ++ (elim (scan.at == scan.rows) as (λ _. List Element) [
      | true ↦ e.Says (what.Fetched name rows) ∷ []
      | false ↦ fetch_steps name count (after_turn scan) (rows + 1)
    ])

-- A row of the rules: what a command checks, in order, and the steps that it takes then.
pub record Row : Type 0 where
  pub checks : List Check
  pub steps : List Element

abbrev pub row : List Check → List Element → Row
row checks steps = record { checks = checks; steps = steps }

-- the elements of a row
abbrev pub elements : Row → List Element
elements r = map e.Checks r.checks ++ r.steps

abbrev pub context_row : ContextCommand → Row
context_row (context.Create name parent kind) = row (e.ContextIsNew name ∷ e.IsContext parent ∷ []) (e.MakeContext (ScriptContext name parent (kind_of kind)) ∷ [])
context_row (context.Switch name) = row (e.IsContext name ∷ []) (e.Switch name ∷ [])
context_row (context.OnReset name) = row (e.IsContext name ∷ []) (e.Register name ∷ [])
context_row (context.Reset name) = row (e.IsContext name ∷ e.MayReset name ∷ []) (e.Reset name ∷ [])
context_row (context.ResetOnly name) = row (e.IsContext name ∷ e.MayResetOnly name ∷ []) (e.ResetOnly name ∷ [])
context_row (context.Delete name) = row (e.IsContext name ∷ e.MayDelete name ∷ []) (e.Delete name ∷ [])
context_row (context.DeleteChildren name) = row (e.IsContext name ∷ e.MayReset name ∷ []) (e.DeleteChildren name ∷ [])
context_row (context.Reparent name parent) = row (e.IsContext name ∷ e.IsContext parent ∷ e.MayMove name parent ∷ []) (e.Reparent name parent ∷ [])

abbrev pub chunk_row : ChunkCommand → Row
chunk_row (chunk.Alloc name size) = row (e.ChunkIsNew name ∷ []) (e.Alloc InCurrent (Some name) size false ∷ [])
chunk_row (chunk.AllocZeroed name size) = row (e.ChunkIsNew name ∷ []) (e.Alloc InCurrent (Some name) size true ∷ [])
chunk_row (chunk.Realloc name size) = row (e.IsChunk name ∷ []) (e.Realloc name size ∷ [])
chunk_row (chunk.Free name) = row (e.MayFree name ∷ []) (e.FreeChunk name ∷ [])
chunk_row (chunk.Put name at bytes) = row (e.MayPut name at (length bytes) ∷ []) (e.Put name at bytes ∷ [])
chunk_row (chunk.Show name at count) = row (e.MayShow name at count ∷ []) (e.Show name at count ∷ [])

abbrev pub item_row : ItemCommand → Row
item_row (item.Pin buffer) = row (e.IsBuffer buffer ∷ []) (takes OfLevel buffer_pin buffer)
item_row (item.Unpin buffer) = row (e.Holds buffer_pin buffer ∷ []) (e.GiveBack buffer_pin buffer ∷ [])
item_row (item.Open file) = row (e.FileIsNew file ∷ []) (takes OfLevel file_kind file)
item_row (item.Touch file) = row (e.IsFile file ∷ []) (e.Touch file ∷ [])
item_row (item.Close file) = row (e.Holds file_kind file ∷ []) (e.GiveBack file_kind file ∷ [])
item_row (item.Reference class key) = row [] (takes OfLevel (class_kind class) key)
item_row (item.Unreference class key) = row (e.Holds (class_kind class) key ∷ []) (e.GiveBack (class_kind class) key ∷ [])
item_row (item.Acquire kind key) = row (e.IsKind kind ∷ []) (e.Enlarge OfLevel ∷ e.TakeNamed kind key ∷ [])
item_row (item.Drop kind key) = row (e.IsKind kind ∷ e.HoldsNamed kind key ∷ []) (e.GiveBackNamed kind key ∷ [])
item_row (item.Snapshot key) = row [] (takes OfLevel snapshot_reference key)
item_row (item.Unsnapshot key) = row (e.Holds snapshot_reference key ∷ []) (e.GiveBack snapshot_reference key ∷ [])

abbrev pub lock_row : LockCommand → Row
lock_row (lock.Lock object mode) = row [] (e.TakeLock OfLevel object mode ∷ [])
lock_row (lock.Unlock object mode) = row (e.HoldsLock object mode ∷ []) (e.Unlock object mode ∷ [])

abbrev pub snapshot_row : SnapshotCommand → Row
snapshot_row (snapshot.Push key) = row [] (e.PushSnapshot key ∷ [])
snapshot_row snapshot.Pop = row (e.HoldsSnapshot ∷ []) (e.PopSnapshot ∷ [])

abbrev pub plan_row : PlanCommand → Row
plan_row (plan.Create number) = row (e.PlanIsNew number ∷ []) (e.MakePlan number ∷ [])
plan_row (plan.Reference number) = row (e.IsPlan number ∷ []) (takes OfLevel plan_reference number)
plan_row (plan.Unreference number) = row (e.Holds plan_reference number ∷ []) (e.GiveBack plan_reference number ∷ [])
plan_row (plan.Drop number) = row (e.IsPlan number ∷ []) (e.DropPlan number ∷ [])

-- what a fetch does depends on where the scan of its portal stands
abbrev pub portal_row : PortalCommand → List OpenPortal → Row
portal_row (portal.Open name object rows bad) portals = row (e.PortalIsNew name ∷ []) (portal_steps name object rows bad)
portal_row (portal.Fetch name count) portals =
    row (e.IsPortal name ∷ e.HasNotFailed name ∷ [])
    (e.FetchBegins name ∷ option_map_or (λ p. fetch_steps name count p.scan 0) (portal_named name portals) [])
portal_row (portal.End name) portals = row (e.IsPortal name ∷ []) (e.EndPortal name ∷ [])

abbrev pub tell_row : TellCommand → Row
tell_row tell.Report = row [] (e.Report ∷ [])
tell_row tell.Stat = row [] (e.Stat ∷ [])
tell_row (tell.Buffer buffer) = row (e.IsBuffer buffer ∷ []) (e.TellBuffer buffer ∷ [])

-- the row of what is done within a transaction
abbrev pub row_of : Work → List OpenPortal → Row
row_of work.Raise portals = row (e.Refuse error.Raised ∷ []) []
row_of (work.Contexts c) portals = context_row c
row_of (work.Chunks c) portals = chunk_row c
row_of (work.Items c) portals = item_row c
row_of (work.Locks c) portals = lock_row c
row_of (work.Snapshots c) portals = snapshot_row c
row_of (work.Plans c) portals = plan_row c
row_of (work.Portals c) portals = portal_row c portals
row_of (work.Tells c) portals = tell_row c

-- what is done within a transaction: the checks, and then the steps
abbrev pub work_of : Work → SessionState → List Element
work_of w session = elements (row_of w session.portals)
