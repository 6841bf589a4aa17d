-- The elements that commands are made of. They name their objects by the part that these play, so that the same element
-- says the same in each state.
use Rattle.std.specs.Prelude.{ℕ, Bool, List, Option}
use Rattle.pgs_step.specs.declared.errors.Error.{Error}
use Rattle.pgs_step.specs.declared.events.What.{What}
use Rattle.pgs_step.specs.declared.ids.KindId.{KindId}
use Rattle.pgs_step.specs.declared.lock_modes.Mode.{Mode}
use Rattle.any_ctx.specs.declared.any.CtxKind.{CtxKind}
use Rattle.exec_core.specs.declared.steps.ScanStep.{ScanStep}

-- names are texts
abbrev pub Text : Type 0
Text = List ℕ

-- what a check asks
pub data Check : Type 0 where
  -- nothing: it fails with this error
  Refuse : Error → Check
  -- a script may make a context of this name
  ContextIsNew : Text → Check
  -- a context has this name
  IsContext : Text → Check
  -- the context of this name may be reset, or all below it may go; it may be reset alone; it may go; it may move to that
  -- of the second name
  MayReset : Text → Check
  MayResetOnly : Text → Check
  MayDelete : Text → Check
  MayMove : Text → Text → Check
  -- no chunk has this name; one has; it may be freed; from a place on so many bytes may be written there; and shown
  ChunkIsNew : Text → Check
  IsChunk : Text → Check
  MayFree : Text → Check
  MayPut : Text → ℕ → ℕ → Check
  MayShow : Text → ℕ → ℕ → Check
  -- there is a buffer of this number
  IsBuffer : ℕ → Check
  -- the session hasn't the file open; it has
  FileIsNew : ℕ → Check
  IsFile : ℕ → Check
  -- an extension kind has this name
  IsKind : Text → Check
  -- no plan of this number stands; one stands that is not discarded
  PlanIsNew : ℕ → Check
  IsPlan : ℕ → Check
  -- the level's owner holds an item of this kind and key; of the extension kind of this name; a lock; the newest active
  -- snapshot is the level's
  Holds : KindId → ℕ → Check
  HoldsNamed : Text → ℕ → Check
  HoldsLock : ℕ → Mode → Check
  HoldsSnapshot : Check
  -- no portal has this name; one has; and it has not failed
  PortalIsNew : Text → Check
  IsPortal : Text → Check
  HasNotFailed : Text → Check

-- whose owner: the deepest level's, or that of the portal of this name
pub data OwnerRole : Type 0 where
  OfLevel : OwnerRole
  OfPortal : Text → OwnerRole

-- which context is made: the deepest level's, that of the portal of this name, that of one row of it, or one of the
-- script's with its name, its parent's name and its kind
pub data NewContext : Type 0 where
  LevelContext : NewContext
  PortalContext : Text → NewContext
  RowContext : Text → NewContext
  ScriptContext : Text → Text → CtxKind → NewContext

-- where memory is taken: in the current context, in that of the portal of this name, or in that of one row of it
pub data MemoryRole : Type 0 where
  InCurrent : MemoryRole
  InPortal : Text → MemoryRole
  InRow : Text → MemoryRole

-- The names in an element are those of portals, contexts, chunks or extension kinds, the numbers those of buffers, files,
-- snapshots, plans, or sizes and places in bytes.
pub data Element : Type 0 where
  -- a check
  Checks : Check → Element
  -- something is said
  Says : What → Element
  -- Fallible: a level is pushed, with its name, and whether it is for one command alone.
  MakeLevel : Option Text → Bool → Element
  -- a context is made
  MakeContext : NewContext → Element
  -- an owner is made
  MakeOwner : OwnerRole → Element
  -- an owner gets room for an item
  Enlarge : OwnerRole → Element
  -- an owner takes an item of a kind and key, and remembers it; an item of the extension kind of a name
  Take : OwnerRole → KindId → ℕ → Element
  TakeNamed : Text → ℕ → Element
  -- an owner holds a lock once more
  TakeLock : OwnerRole → ℕ → Mode → Element
  -- memory is taken, under a name if it gets one, and whether all its bytes are 0
  Alloc : MemoryRole → Option Text → ℕ → Bool → Element
  -- a chunk gets another size
  Realloc : Text → ℕ → Element
  -- a hook waits at a context
  Register : Text → Element
  -- a file gets a descriptor
  Touch : ℕ → Element
  -- a snapshot is pushed
  PushSnapshot : ℕ → Element
  -- a plan is made
  MakePlan : ℕ → Element
  -- a portal is made, with its object, how many rows that has, and which of them is bad, if any
  MakePortal : Text → ℕ → ℕ → Option ℕ → Element
  -- What can't fail: the level that was started stands.
  LevelStands : Element
  -- a context becomes the current one; it is reset and all below it goes; it alone is reset; it goes; all below it goes;
  -- it gets another parent
  Switch : Text → Element
  Reset : Text → Element
  ResetOnly : Text → Element
  Delete : Text → Element
  DeleteChildren : Text → Element
  Reparent : Text → Text → Element
  -- a chunk is freed; bytes are written there from a place on; so many are shown from a place on
  FreeChunk : Text → Element
  Put : Text → ℕ → List ℕ → Element
  Show : Text → ℕ → ℕ → Element
  -- what the contexts have; what the session holds; how many sessions pin a buffer
  Report : Element
  Stat : Element
  TellBuffer : ℕ → Element
  -- the level's owner gives back its newest item of a kind and key; of the extension kind of a name; a lock once
  GiveBack : KindId → ℕ → Element
  GiveBackNamed : Text → ℕ → Element
  Unlock : ℕ → Mode → Element
  -- the newest snapshot is popped
  PopSnapshot : Element
  -- a plan is discarded
  DropPlan : ℕ → Element
  -- a portal is ready; it is fetched from; its scan takes a step, with what that does by itself; it ends
  PortalReady : Text → Element
  FetchBegins : Text → Element
  Scans : Text → ScanStep → Element
  EndPortal : Text → Element
  -- an element of a turn of a portal, which has failed where the element is refused
  InTurn : Text → Element → Element
  -- The ends of the deepest level: level 1 commits, a level is merged into the one above, it aborts, it is cleaned up.
  CommitTop : Element
  Subcommit : Element
  Abort : Element
  Cleanup : Element
