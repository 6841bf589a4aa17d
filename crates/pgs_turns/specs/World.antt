-- What the program holds, as a run of the rules.
use Rattle.std.specs.Prelude.{◌≡◌, ◌⊎◌, false, ℕ, ◌+◌, ◌<◌, ◌≤◌, List, ◌++◌, length, map, replicate, slice_get, slice_index, Some}
use Rattle.std.specs.List.{flat_map, sum_by}
use Rattle.addr_space.specs.Space.{Space, accounts, held, taken}
use Rattle.pgs_step.specs.declared.ids.KindId.{KindId}
use Rattle.pgs_step.specs.declared.ids.TheConstants.KindId.{FIRST_EXTENSION}
use Rattle.pgs_step.specs.declared.lock_modes.Mode.{Mode}
use Rattle.lock_shared.specs.declared.shared_locks.Holding.{Holding}
use Rattle.lock_shared.specs.Holdings.{holds}
use Rattle.lock_local.specs.Locks.{AreLocks, Agrees}
use Rattle.owner_kinds.specs.Kind.{Kind}
use Rattle.owner_kinds.specs.KindShelf.{table_of, times_held}
use Rattle.owner_kinds.specs.KindTable.{IsSound}
use Rattle.owner_core.specs.Owners as owners
use Rattle.reset_callbacks.specs.Hook.{Hook, AreDistinct}
use Rattle.reset_callbacks.specs.ShelfState as shelf
use Rattle.reset_callbacks.specs.ShelfState.{ShelfState}
use Rattle.context_rules.specs.Ends.{waiting}
use Rattle.session_rules.specs.State.{SessionState, opening}
use Rattle.session_rules.specs.World.{Options, World}
use Rattle.session_owners.specs.Commons.{CommonState, pinned_once}
use Rattle.session_owners.specs.ResourceState.{locks_of, owners_of}
use Rattle.session_store.specs.State.{StoreState, session_of}
use Rattle.session_store.specs.Calls.{Keeps, StaysBeside}
use Rattle.session_commands.specs.declared.calls.Calls.{Calls}
use Rattle.session_commands.specs.declared.shared.Shared.{Shared}
use Rattle.session_core.specs.Lines.{IsBetweenLines}
use Rattle.session_commands.specs.Performed.{Now}
use Rattle.pgs_turns.specs.Transcript.{Setting}

-- where a run stands: the stores of its sessions, session n at place n - 1, and what they share
pub record Run : Type 0 where
  pub stores : List StoreState
  pub space : Space
  pub shelf : ShelfState
  pub commons : CommonState
  pub calls : Calls

-- stores with what is lent to them
abbrev pub run_of : {Y Z : Type 0} → List StoreState → Shared Y Z → Run
run_of stores shared = record { stores = stores; space = shared.space.now; shelf = shared.shelf.now; commons = shared.commons.now; calls = shared.calls.now }

-- a session of the run, with what it shares
abbrev pub one_of : Run → StoreState → Now
one_of run store = record { store = store; space = run.space; shelf = run.shelf; commons = run.commons; calls = run.calls }

-- the sessions that stores and their space stand for
abbrev pub sessions_in : List StoreState → Space → List SessionState
sessions_in stores s = map (λ store. session_of store s) stores

-- How the run is set up. As many bytes of the space are each session's as the space's limit says.
abbrev pub options_in : ℕ → Run → Options
options_in descriptors run = record { sessions = length run.stores; space = run.space.limit; descriptors = descriptors; fail = run.calls.fail }

-- the run
abbrev pub world_in : ℕ → Run → World
world_in descriptors run = record {
  options = options_in descriptors run;
  sessions = sessions_in run.stores run.space;
  kinds = run.commons.kinds;
  shelf = run.shelf;
  calls = run.calls.count;
}

-- how it is set up, where it starts so
abbrev pub setting_of : ℕ → Run → Setting
setting_of descriptors run = record { options = options_in descriptors run; shelf = run.shelf; kinds = run.commons.kinds }

-- the same of a run of so many sessions that have not started yet
abbrev pub setting_at : {Y Z : Type 0} → ℕ → ℕ → Shared Y Z → Setting
setting_at sessions descriptors shared = record {
  options = record { sessions = sessions; space = shared.space.now.limit; descriptors = descriptors; fail = shared.calls.now.fail };
  shelf = shared.shelf.now;
  kinds = shared.commons.now.kinds;
}

-- each session has so many descriptors
abbrev pub HaveDescriptors : ℕ → Run → Type 0
HaveDescriptors descriptors run = (place : ℕ) (store : StoreState) → slice_get run.stores place ≡ Some store → store.owners.descriptors ≡ descriptors

-- no line was performed yet
pub record IsOpening (run : Run) : Type 0 where
  pub sessions : sessions_in run.stores run.space ≡ replicate (length run.stores) opening
  pub calls : run.calls.count ≡ 0

-- the hooks that wait in sessions
abbrev pub all_waiting : List SessionState → List Hook
all_waiting sessions = flat_map (λ session. waiting session.contexts) sessions

-- As many hooks are out of the shelf as wait in all sessions, and no two of those that wait and those that the shelf holds have one word.
pub record HooksFit (sessions : List SessionState) (x : ShelfState) : Type 0 where
  pub out : length (all_waiting sessions) ≤ x.out
  pub words : AreDistinct (all_waiting sessions ++ shelf.held x)

-- how often the owners of all sessions together hold an item of this kind and key
abbrev pub held_by_all : KindId → ℕ → List StoreState → ℕ
held_by_all kind key stores = sum_by (λ store. owners.held kind key (owners_of store.owners)) stores

-- The extension kinds are sound, and each holds each key at least as often as all sessions together do.
pub record KindsFit (stores : List StoreState) (kinds : List Kind) : Type 0 where
  pub sound : IsSound (table_of kinds)
  pub held : (kind : KindId) (key : ℕ) → FIRST_EXTENSION ≤ kind.0 → held_by_all kind key stores ≤ times_held kinds kind key

-- Just what each session has locked is held for it, its locks are in order, and nothing is held for a session that isn't there.
pub record LocksFit (stores : List StoreState) (shared : List Holding) : Type 0 where
  pub agree : (place : ℕ) (store : StoreState) → slice_get stores place ≡ Some store → Agrees (locks_of store.owners) shared
  pub in_order : (place : ℕ) (store : StoreState) → slice_get stores place ≡ Some store → AreLocks store.owners.locks
  pub none : (object : ℕ) (mode : Mode) (n : ℕ) → (n ≡ 0) ⊎ (length stores < n) → holds shared object mode n ≡ false

-- Each buffer is counted for as many sessions as pin it.
pub record PinsFit (stores : List StoreState) (pins : List ℕ) : Type 0 where
  pub counted : (buffer : ℕ) → slice_index pins buffer ≡ sum_by (λ store. pinned_once buffer (owners_of store.owners)) stores

-- A session at its place: its account, which is that of the place, holds the blocks of its contexts, it holds locks under the number behind
-- that, and it stays while others change.
pub record IsHeld (run : Run) (place : ℕ) (store : StoreState) : Type 0 where
  pub keeps : Keeps store run.space
  pub account : store.tree.account ≡ place
  pub number : store.owners.session ≡ place + 1
  pub beside : StaysBeside store

-- The sessions, at most 64, from this place on are between two lines, those before it have ended, the hooks of all sessions fit the shelf,
-- the keys that they hold fit the kinds, what they have locked fits what is held for all, each buffer is counted for those that pin it, and
-- all have as many descriptors.
pub record AreStanding (from : ℕ) (run : Run) : Type 0 where
  pub each : (place : ℕ) (store : StoreState) → slice_get run.stores place ≡ Some store → IsHeld run place store
  pub lines : (place : ℕ) (store : StoreState) → from ≤ place → slice_get run.stores place ≡ Some store → IsBetweenLines (one_of run store)
  pub hooks : HooksFit (sessions_in run.stores run.space) run.shelf
  pub kinds : KindsFit run.stores run.commons.kinds
  pub locks : LocksFit run.stores run.commons.locks
  pub pins : PinsFit run.stores run.commons.pins
  pub few : length run.stores ≤ 64
  pub alike : (descriptors : ℕ) × HaveDescriptors descriptors run

-- The run has as many sessions, with the same limit, and the same call fails; accounts that aren't of its sessions hold what they held and
-- took nothing.
-- The kinds are those that they were, and beyond what all sessions hold each of them holds each key as often as before.
pub record SameRun (a b : Run) : Type 0 where
  pub sessions : length b.stores ≡ length a.stores
  pub limit : b.space.limit ≡ a.space.limit
  pub fail : b.calls.fail ≡ a.calls.fail
  pub accounts : accounts b.space ≡ accounts a.space
  pub others : (account : ℕ) → length a.stores ≤ account → held b.space account ≡ held a.space account
  pub took : (account : ℕ) → length a.stores ≤ account → taken b.space account ≡ taken a.space account
  pub table : table_of b.commons.kinds ≡ table_of a.commons.kinds
  pub limits : map (λ k. k.limit) b.commons.kinds ≡ map (λ k. k.limit) a.commons.kinds
  pub keys : (kind : KindId) (key : ℕ) → FIRST_EXTENSION ≤ kind.0
      → times_held b.commons.kinds kind key + held_by_all kind key a.stores ≡ times_held a.commons.kinds kind key + held_by_all kind key b.stores

-- Extension kinds of which nothing is left open: each has its name, its limit and its place in a release, and holds each key as often as
-- before.
pub record AreKept (before after : List Kind) : Type 0 where
  pub table : table_of after ≡ table_of before
  pub limits : map (λ k. k.limit) after ≡ map (λ k. k.limit) before
  pub keys : (kind : KindId) (key : ℕ) → times_held after kind key ≡ times_held before kind key
