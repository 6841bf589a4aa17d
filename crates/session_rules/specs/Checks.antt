-- When a check fails, and with which error.
use Rattle.std.specs.Prelude.{ℕ, ◌==◌, nat_lt, Bool, true, false, not, is_some, is_none, Option, Some, None}
use Rattle.std.specs.Option.{option_map, option_map_or, option_and_then}
use Rattle.pgs_step.specs.declared.errors.Error.{Error}
use Rattle.pgs_step.specs.declared.errors.Error.TheVariants as error
use Rattle.pgs_step.specs.declared.lock_modes.Mode.{Mode}
use Rattle.portal_store.specs.declared.portal.PortalState.{PortalState}
use Rattle.portal_store.specs.declared.portal.PortalState.TheVariants as portal
use Rattle.lock_local.specs.Locks.{count_of}
use Rattle.chunk_header.specs.declared.CtxError.{CtxError}
use Rattle.chunk_header.specs.declared.CtxError.TheVariants as space
use Rattle.context_rules.specs.declared.errors.TreeError.{TreeError}
use Rattle.context_rules.specs.declared.errors.TreeError.TheVariants as tree
use Rattle.context_rules.specs.Refusals.{is_taken, is_chunk, reset_refusal, reset_only_refusal, delete_refusal, set_parent_refusal, free_refusal, put_refusal, bytes_refusal}
use Rattle.session_rules.specs.Limits.{shared_buffers}
use Rattle.session_rules.specs.State.{SessionState, depth, file_kind, last_of, level_owner}
use Rattle.session_rules.specs.Counts.{holds}
use Rattle.session_rules.specs.World.{Scene}
use Rattle.session_rules.specs.Elements.{Check, ChunkIsNew, ContextIsNew, FileIsNew, HasNotFailed, Holds, HoldsLock, HoldsNamed, HoldsSnapshot, IsBuffer, IsChunk, IsContext, IsFile, IsKind, IsPlan, IsPortal, MayDelete, MayFree, MayMove, MayPut, MayReset, MayResetOnly, MayShow, PlanIsNew, PortalIsNew, Refuse, Text}
use Rattle.session_rules.specs.Lookup.{context_named, kind_named, newest_of_level, plan_at, portal_named}

-- the error, unless it is so
abbrev pub unless : Bool → Error → Option Error
unless true error = None
unless false error = Some error

-- The refusal of a call on contexts as an error. No definition names a want of memory: that is the step's own.
abbrev pub space_error : CtxError → Error
space_error space.TooBig = error.TooBig
space_error space.NoSpace = error.OutOfSpace
space_error space.WrongSize = error.WrongChunkSize
space_error space.Unsupported = error.Unsupported
space_error space.Memory = error.OutOfSpace

abbrev pub tree_error : TreeError → Error
tree_error tree.NoName = error.NoSuchName
tree_error tree.Taken = error.NameTaken
tree_error tree.Protected = error.ContextProtected
tree_error tree.InUse = error.ContextInUse
tree_error tree.Cycle = error.ContextCycle
tree_error tree.Range = error.OutsideChunk
tree_error tree.TooMany = error.LimitReached
tree_error (tree.Ctx e) = space_error e
tree_error tree.Memory = error.OutOfSpace

-- the refusal of a call on the context of this name, where there is one
abbrev pub refusal_at : Text → SessionState → (ℕ → Option TreeError) → Option Error
refusal_at name session refusal = option_map tree_error (option_and_then refusal (context_named name session))

abbrev pub has_failed : PortalState → Bool
has_failed portal.New = false
has_failed portal.Ready = false
has_failed portal.Failed = true

-- how often the deepest level's owner holds the lock
abbrev pub lock_count : ℕ → Mode → SessionState → ℕ
lock_count object mode session = option_map_or (λ owner. count_of session.locks object mode owner) (level_owner session) 0

-- whether the newest active snapshot was pushed at the deepest level
abbrev pub holds_snapshot : SessionState → Bool
holds_snapshot session = option_map_or (λ entry. entry.level == depth session) (last_of session.snapshots) false

-- the error of a check that fails
abbrev pub failure : Check → Scene → Option Error
failure (Refuse error) scene = Some error
failure (ContextIsNew name) scene = unless (not (is_taken name scene.session.contexts)) error.NameTaken
failure (IsContext name) scene = unless (is_some (context_named name scene.session)) error.NoSuchName
failure (MayReset name) scene = refusal_at name scene.session (λ n. reset_refusal n scene.session.current scene.session.contexts)
failure (MayResetOnly name) scene = refusal_at name scene.session (λ n. reset_only_refusal n scene.session.contexts)
failure (MayDelete name) scene = refusal_at name scene.session (λ n. delete_refusal n scene.session.current scene.session.contexts)
failure (MayMove name parent) scene =
    refusal_at name scene.session
    (λ n. option_and_then (λ p. set_parent_refusal n p scene.session.contexts) (context_named parent scene.session))
failure (ChunkIsNew name) scene = unless (not (is_chunk (Some name) scene.session.contexts)) error.NameTaken
failure (IsChunk name) scene = unless (is_chunk (Some name) scene.session.contexts) error.NoSuchName
failure (MayFree name) scene = option_map tree_error (free_refusal name scene.session.contexts)
failure (MayPut name from n) scene = option_map tree_error (put_refusal name from n scene.session.contexts)
failure (MayShow name from n) scene = option_map tree_error (bytes_refusal name from n scene.session.contexts)
failure (IsBuffer buffer) scene = unless (nat_lt buffer shared_buffers) error.NoSuchBuffer
failure (FileIsNew file) scene = unless (not (holds file_kind file scene.session)) error.NameTaken
failure (IsFile file) scene = unless (holds file_kind file scene.session) error.NoSuchName
failure (IsKind name) scene = unless (is_some (kind_named name scene.around.kinds)) error.NoSuchName
failure (PlanIsNew plan) scene = unless (is_none (plan_at plan scene.session.plans)) error.NameTaken
failure (IsPlan plan) scene = unless (option_map_or (λ p. not p.discarded) (plan_at plan scene.session.plans) false) error.NoSuchName
failure (Holds kind key) scene = unless (is_some (newest_of_level kind key scene.session)) error.NotHeld
failure (HoldsNamed name key) scene =
    unless (is_some (option_and_then (λ kind. newest_of_level kind key scene.session) (kind_named name scene.around.kinds))) error.NotHeld
failure (HoldsLock object mode) scene = unless (nat_lt 0 (lock_count object mode scene.session)) error.NotHeld
failure HoldsSnapshot scene = unless (holds_snapshot scene.session) error.NotHeld
failure (PortalIsNew name) scene = unless (is_none (portal_named name scene.session.portals)) error.PortalTaken
failure (IsPortal name) scene = unless (is_some (portal_named name scene.session.portals)) error.NoSuchPortal
failure (HasNotFailed name) scene = unless (option_map_or (λ p. not (has_failed p.state)) (portal_named name scene.session.portals) true) error.PortalFailed
