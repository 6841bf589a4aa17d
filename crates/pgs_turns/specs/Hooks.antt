-- What the events of a run say of its hooks.
use Rattle.std.specs.Prelude.{◌≡◌, ℕ, ◌+◌, ◌-◌, ◌^◌, min, List, ◌++◌, length, map}
use Rattle.pgs_step.specs.declared.events.Event.{Event}
use Rattle.pgs_step.specs.declared.events.What.{What}
use Rattle.reset_callbacks.specs.Hook.{Hook}
use Rattle.reset_callbacks.specs.ShelfState.{ShelfState, held}
use Rattle.session_rules.specs.World.{World}
use Rattle.session_rules.specs.HookCounts.{HookCount, callbacks_of, hooks_of, registered_of, runs_of}
use Rattle.pgs_turns.specs.World.{all_waiting}

-- what was said, whichever session said it
abbrev pub said_by_all : List Event → List What
said_by_all events = map (λ event. event.what) events

-- all hooks of a run, those that wait in its sessions and those of the shelf; and without those that are fresh
abbrev pub hooks_in : World → List Hook
hooks_in world = all_waiting world.sessions ++ held world.shelf

abbrev pub used_in : World → List Hook
used_in world = all_waiting world.sessions ++ world.shelf.spent

-- What events say of the hooks of a run, before and behind: how often each ran, and which were registered. As many more are out of the
-- shelf behind as wait more.
pub record TellHooks (before behind : World) (events : List Event) : Type 0 where
  pub counts : HookCount (hooks_in before) (used_in before) (hooks_in behind) (used_in behind) (said_by_all events)
  pub out : behind.shelf.out + length (all_waiting before.sessions) ≡ before.shelf.out + length (all_waiting behind.sessions)

-- What a transcript says of the hooks of a shelf, where none waits in a session before or behind. Each has run as often more as
-- `callback` events have its word, where a count at the end of its type stands still; those that `hook` events name were fresh and are
-- spent, and no others; and as many are out of the shelf as were.
pub record HooksAreTold (before behind : ShelfState) (events : List Event) : Type 0 where
  pub runs : (word : ℕ) → min (runs_of word (held behind)) (2 ^ 64 - 1) ≡ min (runs_of word (held before) + callbacks_of word (said_by_all events)) (2 ^ 64 - 1)
  pub spent : (word : ℕ) → hooks_of word behind.spent ≡ hooks_of word before.spent + registered_of word (said_by_all events)
  pub fresh : (word : ℕ) → hooks_of word behind.fresh + registered_of word (said_by_all events) ≡ hooks_of word before.fresh
  pub out : behind.out ≡ before.out
