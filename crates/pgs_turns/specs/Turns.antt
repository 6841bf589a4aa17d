-- What the sessions of a run do: they start, take turns and end.
use Rattle.std.specs.Prelude.{◌≡◌, ℕ, ◌+◌, ◌<◌, ◌≤◌, Bool, true, false, List, [], ◌++◌, length, slice_get, Option, Some}
use Rattle.addr_space.specs.Space.{Space, accounts, held, risen, taken}
use Rattle.pgs_step.specs.declared.events.Event.{Event}
use Rattle.pgs_step.specs.declared.ids.KindId.{KindId}
use Rattle.session_rules.specs.State.{opening}
use Rattle.session_rules.specs.World.{session_at}
use Rattle.session_rules.specs.Transcript.{Course, after_command, ended}
use Rattle.session_rules.specs.Asked.{asked_by_command}
use Rattle.session_store.specs.State.{StoreState, session_of}
use Rattle.session_store.specs.Calls.{Keeps, StaysBeside}
pub use Rattle.session_commands.specs.Answers.{Fits}
use Rattle.session_commands.specs.Performed.{HasRoom, most_steps}
use Rattle.pgs_turns.specs.declared.lines.Said.{Said}
use Rattle.pgs_turns.specs.World.{HaveDescriptors, Run, SameRun, all_waiting, held_by_all, one_of, sessions_in, world_in}
use Rattle.pgs_turns.specs.Hooks.{TellHooks}

-- no count of the run, or of one of its sessions, is above this bound
pub record IsWithin (bound : ℕ) (run : Run) : Type 0 where
  pub calls : run.calls.count ≤ bound
  pub contexts : (place : ℕ) (store : StoreState) → slice_get run.stores place ≡ Some store → store.tree.next ≤ bound
  pub owners : (place : ℕ) (store : StoreState) → slice_get run.stores place ≡ Some store → store.owners.next_owner ≤ bound
  pub serials : (place : ℕ) (store : StoreState) → slice_get run.stores place ≡ Some store → store.owners.next_serial ≤ bound

-- each session has room for a line
abbrev pub HaveRoom : Run → Type 0
HaveRoom run = (place : ℕ) (store : StoreState) → slice_get run.stores place ≡ Some store → HasRoom most_steps (one_of run store)

-- A course went on to another one: events that were shown came behind its own, which tell what became of the hooks, one line more was
-- performed, and it leads to this run.
pub record GoesOn (course next : Course) (descriptors : ℕ) (run : Run) (shown : List Event → Type 0) (wanted : Bool) : Type 0 where
  pub world_is : next.world ≡ world_in descriptors run
  pub more : List Event
  pub events : next.events ≡ course.events ++ more
  pub shows : shown more
  pub hooks : TellHooks course.world next.world more
  pub performed_is : next.performed ≡ course.performed + 1
  pub wanted_is : next.wanted ≡ wanted

-- what a line makes of a course
abbrev pub behind : Option ℕ → Said → Course → Course
behind w said course = after_command w course said.session said.command (session_at said.session course.world)

-- What a line's turn made of a run: the same as of each course that leads to it, whichever later call is refused for want of memory; or,
-- where it met a want, by the refusal of the last call. Each account took what the line asks of its session, unless it met a want.
pub record TakesTurn (said : Said) (a b : Run) (shown : List Event → Type 0) (wanted : Bool) : Type 0 where
  pub leads : (descriptors : ℕ) → HaveDescriptors descriptors a → (w : Option ℕ) (course : Course) → Fits wanted b.calls.count w → course.world ≡ world_in descriptors a
      → GoesOn course (behind w said course) descriptors b shown wanted
  pub asks : wanted ≡ false → (descriptors : ℕ) → HaveDescriptors descriptors a → (w : Option ℕ) (course : Course) → Fits false b.calls.count w → course.world ≡ world_in descriptors a
      → (account : ℕ) → taken b.space account ≡ risen (taken a.space account) (asked_by_command w (account + 1) course said.session said.command (session_at said.session course.world))
  pub grows : (bound : ℕ) → IsWithin bound a → IsWithin (bound + most_steps) b
  pub has : (descriptors : ℕ) → HaveDescriptors descriptors a → HaveDescriptors descriptors b
  pub calls : a.calls.count ≤ b.calls.count
  pub counted : wanted ≡ true → a.calls.count < b.calls.count
  pub same : SameRun a b

-- What the ends of all sessions made of a run: the same as of each course that leads to it, and what they say tells what became of the
-- hooks. No account of a session holds anything then, none took anything, no session holds an item of an extension kind, and no hook
-- waits in one.
pub record AllExit (a b : Run) (shown : List Event → Type 0) : Type 0 where
  pub leads : (descriptors : ℕ) → HaveDescriptors descriptors a → (course : Course) → course.world ≡ world_in descriptors a → (more : List Event) × ((ended course).events ≡ course.events ++ more) × shown more × ((ended course).world ≡ world_in descriptors b) × TellHooks course.world (ended course).world more
  pub calls : b.calls ≡ a.calls
  pub given_back : (account : ℕ) → account < length a.stores → held b.space account ≡ 0
  pub asks : (account : ℕ) → taken b.space account ≡ taken a.space account
  pub none : (kind : KindId) (key : ℕ) → held_by_all kind key b.stores ≡ 0
  pub waiting : all_waiting (sessions_in b.stores b.space) ≡ []
  pub same : SameRun a b

-- sessions that were started in a space with so many descriptors, one for each account from the first on
pub record IsOpened (descriptors : ℕ) (place : ℕ) (store : StoreState) (s : Space) : Type 0 where
  pub session : session_of store s ≡ opening
  pub keeps : Keeps store s
  pub account : store.tree.account ≡ place
  pub number : store.owners.session ≡ place + 1
  pub descriptors_are : store.owners.descriptors ≡ descriptors
  pub beside : StaysBeside store

pub record AreOpened (descriptors : ℕ) (before : Space) (stores : List StoreState) (s : Space) : Type 0 where
  pub each : (place : ℕ) (store : StoreState) → slice_get stores place ≡ Some store → IsOpened descriptors place store s
  pub limit : s.limit ≡ before.limit
  pub accounts : accounts s ≡ accounts before
  pub others : (account : ℕ) → length stores ≤ account → held s account ≡ held before account
