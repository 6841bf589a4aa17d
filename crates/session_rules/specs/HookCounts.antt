-- How often hooks ran and were registered: what a session's hooks count, and what its events say of them.
use Rattle.std.specs.Prelude.{◌≡◌, ℕ, ◌+◌, ◌-◌, ◌≤◌, ◌^◌, ◌==◌, min, Bool, false, if◌then◌else◌, List, ◌++◌, count_by, length}
use Rattle.std.specs.List.{sum_by}
use Rattle.pgs_step.specs.declared.events.What.{What}
use Rattle.pgs_step.specs.declared.events.What.TheVariants as what
use Rattle.reset_callbacks.specs.Hook.{Hook}
use Rattle.reset_callbacks.specs.ShelfState.{ShelfState, held}
use Rattle.context_rules.specs.Contexts.{Contexts}
use Rattle.context_rules.specs.Ends.{waiting}
use Rattle.session_rules.specs.World.{Scene}

-- how often hooks of this word have run, and how many of the hooks have it
abbrev pub runs_of : ℕ → List Hook → ℕ
runs_of n hooks = sum_by (λ (hook : Hook). if hook.word == n then hook.runs else 0) hooks

abbrev pub hooks_of : ℕ → List Hook → ℕ
hooks_of n hooks = count_by (λ (hook : Hook). hook.word == n) hooks

-- an event says that a hook of this word runs, or that it is registered
abbrev pub is_callback : ℕ → What → Bool
is_callback n (what.Callback word context) = word == n
is_callback n other = false

abbrev pub is_registered : ℕ → What → Bool
is_registered n (what.Hook word context) = word == n
is_registered n other = false

-- how many events say so
abbrev pub callbacks_of : ℕ → List What → ℕ
callbacks_of n events = count_by (is_callback n) events

abbrev pub registered_of : ℕ → List What → ℕ
registered_of n events = count_by (is_registered n) events

-- the hooks of a session in its surroundings: those that wait and those of the shelf; and without those that are fresh
abbrev pub all_hooks : Scene → List Hook
all_hooks scene = waiting scene.session.contexts ++ held scene.around.shelf

abbrev pub used_hooks : Scene → List Hook
used_hooks scene = waiting scene.session.contexts ++ scene.around.shelf.spent

-- What events say of hooks, all of them and those that aren't fresh, before and behind: each has run as often more as
-- callbacks of its word are said, where a count at the end of its type stands still; as many are no longer fresh as are
-- said to be registered; and none comes or goes.
pub record HookCount (all used all_behind used_behind : List Hook) (events : List What) : Type 0 where
  pub runs : (n : ℕ) → min (runs_of n all_behind) (2 ^ 64 - 1) ≡ min (runs_of n all + callbacks_of n events) (2 ^ 64 - 1)
  pub taken : (n : ℕ) → hooks_of n used_behind ≡ hooks_of n used + registered_of n events
  pub whole : (n : ℕ) → hooks_of n all_behind ≡ hooks_of n all

-- The same of the hooks that wait in contexts and those of a shelf, before and behind. Where no more of them wait than are out
-- of the shelf, as many more are out of it behind as wait more: what waits in other sessions stays out.
pub record HooksCounted (contexts : Contexts) (shelf : ShelfState) (contexts_behind : Contexts) (shelf_behind : ShelfState) (events : List What) : Type 0 where
  pub counts : HookCount (waiting contexts ++ held shelf) (waiting contexts ++ shelf.spent) (waiting contexts_behind ++ held shelf_behind) (waiting contexts_behind ++ shelf_behind.spent) events
  pub out : length (waiting contexts) ≤ shelf.out → shelf_behind.out + length (waiting contexts) ≡ shelf.out + length (waiting contexts_behind)

-- the same of two scenes, the second behind the first
abbrev pub CountsHooks : Scene → Scene → List What → Type 0
CountsHooks before behind events = HooksCounted before.session.contexts before.around.shelf behind.session.contexts behind.around.shelf events
