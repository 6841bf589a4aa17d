-- What the elements that can't fail do, but the ends.
use Rattle.std.specs.Prelude.{ℕ, ◌+◌, ◌-◌, false, if◌then◌else◌, List, [], ◌∷◌, length, take, slice_index}
use Rattle.pgs_step.specs.declared.events.What.{What}
use Rattle.pgs_step.specs.declared.events.What.TheVariants as what
use Rattle.pgs_step.specs.declared.ids.KindId.{KindId}
use Rattle.pgs_step.specs.declared.lock_modes.Mode.{Mode}
use Rattle.exec_core.specs.declared.steps.ScanStep.{ScanStep}
use Rattle.exec_core.specs.declared.steps.ScanStep.TheVariants as step
use Rattle.exec_core.specs.Turn.{taken}
use Rattle.context_rules.specs.Contexts.{Contexts, reparented, reparented_events}
use Rattle.lock_local.specs.Changes as locks
use Rattle.session_rules.specs.State.{deepest_changed, OpenPortal, buffer_pin, last_of, level_context}
use Rattle.session_rules.specs.Counts.{holds}
use Rattle.session_rules.specs.World.{Scene}
use Rattle.session_rules.specs.Elements.{Text, OwnerRole}
use Rattle.session_rules.specs.Lookup.{context_named, kind_named, owner_in, portal_named}
use Rattle.session_rules.specs.Acts.{Ended, changes, context_cleared_alone, in_order, nothing, portal_becomes, say, switched, where_there}
use Rattle.session_rules.specs.Releases.{item_released, with_locks}

-- the context that a level has is the current one, and the level is there
abbrev pub level_stands : Scene → Ended
level_stands scene =
    in_order (
    where_there (level_context scene.session) switched
    ∷ changes (λ session. record session { levels = deepest_changed (λ level. record level { starting = false }) session.levels })
    ∷ []) scene

-- a context moves to another parent, where that isn't its own
abbrev pub context_moved : ℕ → ℕ → Scene → Ended
context_moved n parent scene = record {
  scene = record scene { session = record scene.session { contexts = reparented n parent scene.session.contexts } };
  events = reparented_events n parent scene.session.contexts;
}

-- the contexts change, and nothing is said
abbrev pub contexts_become : (Contexts → Contexts) → Scene → Ended
contexts_become change scene = changes (λ session. record session { contexts = change session.contexts }) scene

-- an act on the owner of a role, the portal of a name, the extension kind of a name
abbrev pub at_owner : OwnerRole → (ℕ → Scene → Ended) → Scene → Ended
at_owner role act scene = where_there (owner_in role scene.session) act scene

abbrev pub at_portal : Text → (OpenPortal → Scene → Ended) → Scene → Ended
at_portal name act scene = where_there (portal_named name scene.session.portals) act scene

abbrev pub at_kind : Text → (KindId → Scene → Ended) → Scene → Ended
at_kind name act scene = where_there (kind_named name scene.around.kinds) act scene

-- an act on the context of a name
abbrev pub at_context : Text → (ℕ → Scene → Ended) → Scene → Ended
at_context name act scene = where_there (context_named name scene.session) act scene

-- events without a change
abbrev pub tells : List What → Scene → Ended
tells events scene = record { scene = scene; events = events }

-- how many sessions pin a buffer
abbrev pub pinning : ℕ → Scene → ℕ
pinning buffer scene =
    slice_index scene.around.pinned buffer + (if holds buffer_pin buffer scene.session then 1 else 0)

-- a lock is given back once
abbrev pub lock_given_back : ℕ → Mode → ℕ → Scene → Ended
lock_given_back object mode owner scene =
    in_order (
    changes (λ session. with_locks (locks.given_back owner object mode session.locks) session)
    ∷ say (what.ReleaseLock object mode 1 owner)
    ∷ []) scene

-- the newest active snapshot is popped
abbrev pub snapshot_popped : Scene → Ended
snapshot_popped scene =
    where_there (last_of scene.session.snapshots)
    (λ entry. in_order (
    changes (λ session. record session { snapshots = take (length session.snapshots - 1) session.snapshots })
    ∷ say (what.Pop entry.snapshot)
    ∷ [])) scene

-- What a step of a scan does by itself: the memory of one row is reset, a page is given back, a row is said.
abbrev pub scan_part : ScanStep → OpenPortal → Scene → Ended
scan_part step.Reset p scene = where_there p.expr context_cleared_alone scene
scan_part (step.Unpin page) p scene = where_there p.owner (λ owner. item_released owner buffer_pin page) scene
scan_part (step.Row row value) p scene = say (what.Row p.name row value) scene
scan_part other p scene = nothing scene

abbrev pub scanned : ScanStep → OpenPortal → Scene → Ended
scanned s p scene = in_order (portal_becomes p.name (λ old. record old { scan = taken s old.scan }) ∷ scan_part s p ∷ []) scene
