-- What a call on a session does: the elements of the rules that it performs.
use Rattle.std.specs.Prelude.{◌≡◌, ℕ, ◌+◌, ◌<◌, ◌≤◌, ◌^◌, Bool, true, false, List, Option}
use Rattle.pgs_step.specs.declared.errors.Error.{Error}
use Rattle.pgs_step.specs.declared.events.What.{What}
use Rattle.addr_space.specs.Space.{Space, Asks}
use Rattle.reset_callbacks.specs.ShelfState.{ShelfState}
use Rattle.context_tree.specs.State.{Moves}
use Rattle.session_rules.specs.World.{Around, Scene}
use Rattle.session_rules.specs.Elements.{Element}
use Rattle.session_rules.specs.Asked.{asked_all}
use Rattle.session_owners.specs.Commons.{Balances, CommonState, Serves}
use Rattle.session_store.specs.State.{StoreState, scene_of}
use Rattle.session_store.specs.Calls.{Keeps, StandsIn}
use Rattle.session_commands.specs.declared.calls.Calls.{Calls}
use Rattle.session_commands.specs.declared.shared.Shared.{Shared}
use Rattle.session_commands.specs.Answers.{Answers, Fits, at_calls, wants}

-- where a call meets a session: its store, the space, the shelf of hooks, the commons, and the fallible calls of the run
pub record Now : Type 0 where
  pub store : StoreState
  pub space : Space
  pub shelf : ShelfState
  pub commons : CommonState
  pub calls : Calls

-- a store with what is lent to the session
abbrev pub now : {Z W : Type 0} → StoreState → Shared Z W → Now
now store shared = record { store = store; space = shared.space.now; shelf = shared.shelf.now; commons = shared.commons.now; calls = shared.calls.now }

-- the session in its surroundings
abbrev pub scene_in : Now → Around → Scene
scene_in n = scene_of n.store n.space n.shelf n.commons

-- A session between two of its steps: the space has what its contexts have, its account holds their blocks and no more, the commons hold
-- what its owners hold of them, and the session stands.
pub record IsBetweenSteps (n : Now) : Type 0 where
  pub keeps : Keeps n.store n.space
  pub serves : Serves n.store.owners n.commons
  pub stands : StandsIn n.store n.space n.shelf n.commons

-- what a counter may be
abbrev pub most_count : ℕ
most_count = 2 ^ 62

-- a command of this crate counts at most so many fallible calls, and raises no counter by more
abbrev pub most_calls : ℕ
most_calls = 2

-- the work of a command raises no counter by more than this, and no line by more than that: a fetch counts three calls for each of at most
-- 1,000,000 rows, and any other command a few
abbrev pub most_work : ℕ
most_work = 2 ^ 22

abbrev pub most_steps : ℕ
most_steps = 2 ^ 23

-- each counter may rise by so much
pub record HasRoom (k : ℕ) (n : Now) : Type 0 where
  pub contexts : n.store.tree.next + k < most_count
  pub owners : n.store.owners.next_owner + k < most_count
  pub serials : n.store.owners.next_serial + k < most_count
  pub calls : n.calls.count + k < most_count

-- no counter rose by more than so much, and there are as many descriptors
pub record Grows (k : ℕ) (a b : Now) : Type 0 where
  pub contexts : b.store.tree.next ≤ a.store.tree.next + k
  pub owners : b.store.owners.next_owner ≤ a.store.owners.next_owner + k
  pub serials : b.store.owners.next_serial ≤ a.store.owners.next_serial + k
  pub calls : b.calls.count ≤ a.calls.count + k
  pub descriptors : b.store.owners.descriptors ≡ a.store.owners.descriptors

-- The account took so many bytes, or where memory was wanted any number of them, and no other account any.
abbrev pub Takes : Bool → ℕ → ℕ → Space → Space → Type 0
Takes true account n s t = (m : ℕ) × Asks account m s t
Takes false account n s t = Asks account n s t

-- The session's account took what the elements ask, in any surroundings, and for each refused call that the answer speaks of.
abbrev pub Taken : List Element → Now → Now → Option Error → Type 0
Taken elements a b refusal =
    (around : Around) (w : Option ℕ) → Fits (wants refusal) b.calls.count w
    → Takes (wants refusal) a.store.tree.account (asked_all w elements (at_calls (scene_in a) a.calls.count a.calls.fail around)) a.space b.space

-- The elements were performed, up to the first that was refused, and were answered and told so. The space keeps what isn't the session's, the
-- session's account holds the blocks of its contexts and no more, it took what the elements ask, the commons are in balance, and no counter
-- rose by more than k.
pub record Performed (k : ℕ) (elements : List Element) (a b : Now) (Said : List What → Type 0) (refusal : Option Error) : Type 0 where
  pub answers : Answers elements (scene_in a) (scene_in b) a.calls.count b.calls.count a.calls.fail Said refusal
  pub fail : b.calls.fail ≡ a.calls.fail
  pub keeps : Keeps b.store b.space
  pub moves : Moves a.store.tree b.store.tree a.space b.space
  pub taken : Taken elements a b refusal
  pub balances : Balances a.store.owners b.store.owners a.commons b.commons
  pub grows : Grows k a b
