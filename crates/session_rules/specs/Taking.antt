-- The steps that take something, and by what they are refused.
use Rattle.std.specs.Prelude.{ℕ, ◌+◌, ◌-◌, ◌==◌, nat_le, Bool, ◌&&◌, if◌then◌else◌, List, [], ◌∷◌, ◌++◌, length, fold, filter, Option, Some, None}
use Rattle.std.specs.Option.{option_map, option_map_or, option_and_then}
use Rattle.pgs_step.specs.declared.errors.Error.{Error}
use Rattle.pgs_step.specs.declared.errors.Error.TheVariants as error
use Rattle.pgs_step.specs.declared.events.What.TheVariants as what
use Rattle.pgs_step.specs.declared.ids.KindId.{KindId}
use Rattle.pgs_step.specs.declared.ids.Item.{Item}
use Rattle.pgs_step.specs.declared.lock_modes.Mode.{Mode}
use Rattle.reset_callbacks.specs.Hook.{Hook}
use Rattle.reset_callbacks.specs.ShelfState.{taken}
use Rattle.context_rules.specs.Chunks.{allocated, resized, registered, zeros}
use Rattle.context_rules.specs.Refusals.{alloc_refusal, realloc_refusal}
use Rattle.owner_kinds.specs.Kind.{Kind, opened, changed_at}
use Rattle.owner_core.specs.Owners.{remembered}
use Rattle.lock_shared.specs.declared.shared_locks.Holding.{Holding}
use Rattle.lock_shared.specs.ModeTable.{conflicts}
use Rattle.lock_shared.specs.Blocking.{lesser_of}
use Rattle.lock_local.specs.Changes.{acquired}
use Rattle.file_table.specs.Files.{Files, touched_file, touch_events}
use Rattle.session_rules.specs.Limits.{most_files}
use Rattle.session_rules.specs.State.{depth, file_kind, first_of}
use Rattle.session_rules.specs.Counts.{keys}
use Rattle.session_rules.specs.World.{Scene}
use Rattle.session_rules.specs.Elements.{Text}
use Rattle.session_rules.specs.Lookup.{context_named, plan_changed}
use Rattle.session_rules.specs.Checks.{tree_error}
use Rattle.session_rules.specs.Acts.{Ended, changes, in_order, nothing, say, where_there}
use Rattle.session_rules.specs.Releases.{Keeper, NoOne, TheDescriptors, TheKind, ThePlans, keeper_of}
use Rattle.session_rules.specs.Making.{held, left, limit}

-- an owner remembers a new item
abbrev pub remembers : ℕ → KindId → ℕ → Scene → Ended
remembers owner kind key scene =
    let item : Item = record { kind = kind; key = key; serial = scene.session.next_serial } in
    in_order (
    changes (λ session. record session { owners = remembered owner item session.owners; next_serial = session.next_serial + 1 })
    ∷ say (what.Acquire item owner)
    ∷ []) scene

-- the session's files, as far as their descriptors go
abbrev pub files : Scene → Files
files scene = record { descriptors = scene.around.descriptors; opened = []; recent = scene.session.recent }

-- A file is used, and gets a descriptor where it has none: where all are used, the file that was used least recently loses its own.
abbrev pub descriptor_given : ℕ → Scene → Ended
descriptor_given file scene = record {
  scene = record scene { session = record scene.session { recent = (touched_file file (files scene)).recent } };
  events = touch_events file (files scene);
}

-- what keeps count of items of a kind counts one more
abbrev pub taken_by : Keeper → ℕ → Scene → Ended
taken_by NoOne key scene = nothing scene
taken_by ThePlans key scene =
    changes (λ session. record session { plans = plan_changed key (λ plan. record plan { references = plan.references + 1 }) session.plans }) scene
taken_by TheDescriptors key scene = descriptor_given key scene
taken_by (TheKind place) key scene =
    nothing (record scene { around = record scene.around { kinds = changed_at place (opened key) scene.around.kinds } })

-- an extension kind holds as many keys as it may
abbrev pub full : ℕ → List Kind → Option Error
full place [] = None
full place (kind ∷ kinds) =
    if place == 0 then (if nat_le kind.limit (length kind.held) then Some error.KindLimit else None) else full (place - 1) kinds

abbrev pub take_refused : Keeper → Scene → Option Error
take_refused NoOne scene = None
take_refused ThePlans scene = None
take_refused TheDescriptors scene = limit most_files (length (keys file_kind scene.session))
take_refused (TheKind place) scene = full place scene.around.kinds

-- an owner takes an item
abbrev pub item_taken : ℕ → KindId → ℕ → Scene → Ended
item_taken owner kind key scene = in_order (taken_by (keeper_of kind) key ∷ remembers owner kind key ∷ []) scene

-- of the holdings of other sessions on an object, in modes that conflict with a wanted one, that of the least session, and of its modes the least
abbrev pub conflict : ℕ → Mode → List Holding → Option (ℕ × Mode)
conflict object wanted holdings =
    fold (λ least (h : Holding). Some (lesser_of least h.session h.mode)) None
    (filter (λ (h : Holding). (h.object == object) && conflicts wanted h.mode) holdings)

abbrev pub lock_refused : ℕ → Mode → Scene → Option Error
lock_refused object mode scene = option_map (λ c. error.LockHeld c.0 c.1) (conflict object mode scene.around.locked)

-- an owner holds a lock once more
abbrev pub lock_taken : ℕ → Mode → ℕ → Scene → Ended
lock_taken object mode owner scene =
    in_order (
    changes (λ session. record session { locks = acquired owner object mode session.locks })
    ∷ say (what.AcquireLock object mode owner)
    ∷ []) scene

-- by what a request of memory is refused
abbrev pub alloc_refused : Option ℕ → Option Text → ℕ → Scene → Option Error
alloc_refused n name bytes scene =
    option_map tree_error (option_and_then (λ n. alloc_refusal n (left scene) name bytes scene.session.contexts) n)

-- Memory is taken in a context, under a name, if it gets one. Its bytes are 0 or not written.
abbrev pub memory_taken : Option Text → ℕ → Bool → ℕ → Scene → Ended
memory_taken name bytes zeroed n scene =
    changes (λ session. record session {
      contexts = allocated n (left scene) name bytes (if zeroed then zeros bytes else []) session.contexts;
    }) scene

-- a chunk gets another size
abbrev pub resize_refused : Text → ℕ → Scene → Option Error
resize_refused name bytes scene = option_map tree_error (realloc_refusal (held scene.session) scene.around.space name bytes scene.session.contexts)

abbrev pub chunk_resized : Text → ℕ → Scene → Ended
chunk_resized name bytes scene =
    changes (λ session. record session { contexts = resized (held session) scene.around.space name bytes session.contexts }) scene

-- the fresh hook of the least word waits at a context
abbrev pub hook_waits : ℕ → Hook → Scene → Ended
hook_waits n hook scene = record {
  scene = record {
    session = record scene.session { contexts = registered n hook scene.session.contexts };
    around = record scene.around { shelf = taken scene.around.shelf };
  };
  events = what.Hook hook.word n ∷ [];
}

abbrev pub hook_registered : Text → Scene → Ended
hook_registered name scene =
    where_there (context_named name scene.session) (λ n. where_there (first_of scene.around.shelf.fresh) (hook_waits n)) scene

abbrev pub hook_refused : Scene → Option Error
hook_refused scene = option_map_or (λ hook. None) (first_of scene.around.shelf.fresh) (Some error.LimitReached)

-- a snapshot is pushed at a level; at the deepest one
abbrev pub pushed_at : ℕ → ℕ → Scene → Ended
pushed_at level snapshot scene =
    in_order (
    changes (λ session. record session { snapshots = session.snapshots ++ (record { snapshot = snapshot; level = level } ∷ []) })
    ∷ say (what.Push snapshot)
    ∷ []) scene

abbrev pub snapshot_pushed : ℕ → Scene → Ended
snapshot_pushed snapshot scene = pushed_at (depth scene.session) snapshot scene
