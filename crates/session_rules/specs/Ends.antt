-- The ends of levels and of sessions.
use Rattle.std.specs.Prelude.{ℕ, ◌==◌, Bool, true, false, not, List, [], ◌∷◌, map, drop, reverse, unwrap_or}
use Rattle.pgs_step.specs.declared.events.What.TheVariants as what
use Rattle.pgs_step.specs.declared.errors.Error.{Error}
use Rattle.context_rules.specs.Contexts.{is_empty}
use Rattle.snap_table.specs.Snapshots.{pops, kept_below, lowered}
use Rattle.session_rules.specs.State.{is_aborted, deepest_changed, LevelState, abort_context, context_of, depth, first_of, level_above, level_context, level_owner, owner_of, top_context}
use Rattle.session_rules.specs.World.{Scene}
use Rattle.session_rules.specs.Acts.{Ended, changes, context_gone, for_each, in_order, nothing, portal_gone, say, switched, where_so, where_there}
use Rattle.session_rules.specs.Releases.{owner_gone, owner_released}
use Rattle.session_rules.specs.Portals.{portal_aborted, portal_closed, portal_passed}

-- the owner of the deepest level is released, and discarded
abbrev pub level_released : Bool → Bool → Scene → Ended
level_released commit top scene = where_there (level_owner scene.session) (owner_released commit top) scene

abbrev pub level_owner_gone : Scene → Ended
level_owner_gone scene = where_there (level_owner scene.session) owner_gone scene

-- the current context is that of the level above, and where there is none the topmost one
abbrev pub switched_up : Scene → Ended
switched_up scene = switched (unwrap_or (context_of (level_above scene.session)) top_context) scene

-- the context of the deepest level goes
abbrev pub level_context_gone : Scene → Ended
level_context_gone scene = where_there (level_context scene.session) context_gone scene

-- the same, but it stays where memory was taken there or a context stands below it
abbrev pub empty_context_gone : Scene → Ended
empty_context_gone scene =
    where_there (level_context scene.session)
    (λ n. where_so (is_empty n scene.session.contexts) (context_gone n))
    scene

-- the deepest level is there no more
abbrev pub level_popped : Scene → Ended
level_popped scene = changes (λ session. record session { levels = drop 1 session.levels }) scene

-- active snapshots of this level and deeper ones are popped, the newest first
abbrev pub stack_popped : ℕ → Scene → Ended
stack_popped level scene = record {
  scene = record scene { session = record scene.session { snapshots = kept_below level scene.session.snapshots } };
  events = pops level (reverse scene.session.snapshots);
}

-- active snapshots of this level belong to the level above
abbrev pub stack_lowered : ℕ → Scene → Ended
stack_lowered level scene = changes (λ session. record session { snapshots = map (lowered level) session.snapshots }) scene

-- level 1 commits
abbrev pub committed : Scene → Ended
committed scene =
    in_order (
    say (what.CommitLevel 1)
    ∷ for_each portal_closed scene.session.portals
    ∷ level_released true true
    ∷ stack_popped 1
    ∷ level_owner_gone
    ∷ switched top_context
    ∷ level_context_gone
    ∷ level_popped
    ∷ []) scene

-- the deepest level, which isn't level 1, commits
abbrev pub subcommitted : Scene → Ended
subcommitted scene =
    let level = depth scene.session in
    in_order (
    say (what.CommitLevel level)
    ∷ for_each (portal_passed level (owner_of (level_above scene.session))) scene.session.portals
    ∷ level_released true false
    ∷ stack_lowered level
    ∷ level_owner_gone
    ∷ switched_up
    ∷ empty_context_gone
    ∷ level_popped
    ∷ []) scene

-- the deepest level aborts
abbrev pub aborted : Scene → Ended
aborted scene =
    let level = depth scene.session in
    in_order (
    say (what.AbortLevel level)
    ∷ switched abort_context
    ∷ for_each (portal_aborted level (level_owner scene.session)) scene.session.portals
    ∷ level_released false (level == 1)
    ∷ stack_popped level
    ∷ changes (λ session. record session { levels = deepest_changed (λ old. record old { aborted = true }) session.levels })
    ∷ []) scene

-- an aborted level is cleaned up
abbrev pub cleaned_up : Scene → Ended
cleaned_up scene =
    let level = depth scene.session in
    in_order (
    say (what.CleanupLevel level)
    ∷ for_each (λ p. where_so (p.created == level) (in_order (where_there p.context context_gone ∷ portal_gone p.name ∷ []))) scene.session.portals
    ∷ level_owner_gone
    ∷ switched_up
    ∷ level_context_gone
    ∷ level_popped
    ∷ []) scene

-- a level is aborted, where it isn't yet, and cleaned up
abbrev pub level_rolled_back : LevelState → Scene → Ended
level_rolled_back level scene = in_order (where_so (not level.aborted) aborted ∷ cleaned_up ∷ []) scene

-- What becomes of the levels after an error: one that is being started goes, and the level above it is aborted; one that was begun for
-- one command alone goes; any other is aborted.
abbrev pub given_up : List LevelState → Scene → Ended
given_up [] scene = nothing scene
given_up (level ∷ levels) scene =
    elim level.starting as (λ _. Ended) [
      | true ↦ in_order (level_rolled_back level ∷ where_there (first_of levels) (λ above. aborted) ∷ []) scene
      | false ↦ elim level.implicit as (λ _. Ended) [ true ↦ level_rolled_back level scene | false ↦ aborted scene ]
    ]

-- Recovery from an error: the error is said. Without a level, or in an aborted one, nothing more is done.
unfoldable pub recovered : Error → Scene → Ended
recovered error scene =
    in_order (
    say (what.Error error)
    ∷ where_so (not (is_aborted scene.session.levels)) (given_up scene.session.levels)
    ∷ []) scene

-- the session ends: all levels are rolled back, and all contexts go
unfoldable pub exited : Scene → Ended
exited scene =
    in_order (
    for_each level_rolled_back scene.session.levels
    ∷ switched top_context
    ∷ context_gone top_context
    ∷ say what.Exit
    ∷ []) scene
