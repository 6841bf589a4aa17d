-- A run: all sessions and what they share. A session and its surroundings.
use Rattle.std.specs.Prelude.{ℕ, ◌+◌, ◌-◌, ◌==◌, if◌then◌else◌, List, [], ◌∷◌, map, replicate, slice_get, slice_set, count_by, Option, None}
use Rattle.std.specs.List.{flat_map, range_with_len}
use Rattle.lock_shared.specs.declared.shared_locks.Holding.{Holding}
use Rattle.owner_kinds.specs.Kind.{Kind}
use Rattle.reset_callbacks.specs.ShelfState.{ShelfState}
use Rattle.session_rules.specs.Limits.{shared_buffers}
use Rattle.session_rules.specs.State.{SessionState, buffer_pin, opening}
use Rattle.session_rules.specs.Counts.{holds}

-- How a run is set up: how many sessions it has, how many bytes of the space and how many descriptors each of them has,
-- and which fallible call fails, counted from 1; 0 is none.
pub record Options : Type 0 where
  pub sessions : ℕ
  pub space : ℕ
  pub descriptors : ℕ
  pub fail : ℕ

-- A run: its sessions, the first of them session 1; the extension kinds with the keys that they hold; the hooks that
-- don't wait in a session; and how many fallible calls were made.
pub record World : Type 0 where
  pub options : Options
  pub sessions : List SessionState
  pub kinds : List Kind
  pub shelf : ShelfState
  pub calls : ℕ

-- What a session's command sees besides the session: kinds and hooks of the run, how many other sessions pin each buffer,
-- that of buffer 0 first, what other sessions have locked, and the session's share of the space and of the
-- descriptors.
pub record Around : Type 0 where
  pub kinds : List Kind
  pub shelf : ShelfState
  pub pinned : List ℕ
  pub locked : List Holding
  pub space : ℕ
  pub descriptors : ℕ

-- a session in its surroundings
pub record Scene : Type 0 where
  pub session : SessionState
  pub around : Around

-- a session with its number
pub record Numbered : Type 0 where
  pub number : ℕ
  pub state : SessionState

-- the sessions but the one of this number, each with its own
abbrev pub others : ℕ → ℕ → List SessionState → List Numbered
others n from [] = []
others n from (session ∷ sessions) =
    if from == n then others n (from + 1) sessions else record { number = from; state = session } ∷ others n (from + 1) sessions

-- what a session has locked
abbrev pub holdings : Numbered → List Holding
holdings session = map (λ lock. record { object = lock.object; mode = lock.mode; session = session.number }) session.state.locks

-- a number for each shared buffer, that of buffer 0 first
abbrev pub for_buffers : (ℕ → ℕ) → List ℕ
for_buffers number = map number (range_with_len 0 shared_buffers)

-- how many of these sessions pin a buffer
abbrev pub pinning_among : List Numbered → ℕ → ℕ
pinning_among sessions buffer = count_by (λ other. holds buffer_pin buffer other.state) sessions

-- what surrounds the session of this number
abbrev pub around : ℕ → World → Around
around n world = record {
  kinds = world.kinds;
  shelf = world.shelf;
  pinned = for_buffers (pinning_among (others n 1 world.sessions));
  locked = flat_map holdings (others n 1 world.sessions);
  space = world.options.space;
  descriptors = world.options.descriptors;
}

-- a scene, how many fallible calls the run has made by then, and which of them fails
pub record Moment : Type 0 where
  pub scene : Scene
  pub calls : ℕ
  pub fail : ℕ

-- the session, which has this number, in its surroundings now
abbrev pub moment : ℕ → SessionState → World → Moment
moment n session world = record {
  scene = record { session = session; around = around n world };
  calls = world.calls;
  fail = world.options.fail;
}

-- the session of this number is as it is in a scene, and so are the kinds and the hooks
abbrev pub with_scene : ℕ → Scene → World → World
with_scene n scene world = record world {
  sessions = slice_set world.sessions (n - 1) scene.session;
  kinds = scene.around.kinds;
  shelf = scene.around.shelf;
}

-- the session of this number, where the run has it
abbrev pub session_at : ℕ → World → Option SessionState
session_at n world = if n == 0 then None else slice_get world.sessions (n - 1)

-- a run as it begins
abbrev pub opened : Options → List Kind → ShelfState → World
opened options kinds shelf = record {
  options = options;
  sessions = replicate options.sessions opening;
  kinds = kinds;
  shelf = shelf;
  calls = 0;
}
