-- Each resource that is acquired is released exactly once.
use Rattle.std.specs.Prelude.{ℕ, ◌+◌, ◌==◌, ◌≤◌, Bool, true, false, not, ◌&&◌, ◌||◌, if◌then◌else◌, IsTrue, List, [], ◌∷◌, drop}
use Rattle.std.specs.List.{list_all, list_any, range_with_len}
use Rattle.pgs_step.specs.declared.ids.Item.{Item}
use Rattle.pgs_step.specs.declared.events.Event.{Event}
use Rattle.pgs_step.specs.declared.events.What.{What}
use Rattle.pgs_step.specs.declared.events.What.TheVariants as what
use Rattle.pgs_step.specs.Mode.{mode_number}
use Rattle.lifetime_laws.specs.Reading.{Reader, allows_all, seen_after, events_of}
use Rattle.lifetime_laws.specs.Balance.{BalancesFrom, Covers, balances_from, covers}
use Rattle.lifetime_laws.specs.Parents.{Node, contexts_behind, owners_behind, first_contexts, has_child}

-- 1 where the test holds
abbrev pub one_where : Bool → ℕ
one_where test = (if test then 1 else 0)

-- nothing, of any event
abbrev pub nothing : What → ℕ
nothing event = 0

-- whether two items are one: kind, key and serial
abbrev pub same_item : Item → Item → Bool
same_item a b = (a.kind.0 == b.kind.0) && ((a.key == b.key) && (a.serial == b.serial))

-- an event acquires this item for this owner, or releases it
abbrev pub acquires : Item → ℕ → What → ℕ
acquires item owner (what.Acquire other by) = one_where (same_item item other && (owner == by))
acquires item owner other = 0

abbrev pub releases : Item → ℕ → What → ℕ
releases item owner (what.Release other by) = one_where (same_item item other && (owner == by))
releases item owner other = 0

-- how many times an event acquires a lock on this object in the mode of this number, or releases it
abbrev pub locks : ℕ → ℕ → What → ℕ
locks object mode (what.AcquireLock other by owner) = one_where ((object == other) && (mode == mode_number by))
locks object mode other = 0

abbrev pub unlocks : ℕ → ℕ → What → ℕ
unlocks object mode (what.ReleaseLock other by count owner) = (if (object == other) && (mode == mode_number by) then count else 0)
unlocks object mode other = 0

-- an event opens a descriptor for this file, or closes it
abbrev pub opens : ℕ → What → ℕ
opens file (what.DescriptorOpened other) = one_where (file == other)
opens file other = 0

abbrev pub closes : ℕ → What → ℕ
closes file (what.DescriptorClosed other) = one_where (file == other)
closes file other = 0

-- an event makes this context or owner, or it goes
abbrev pub makes_context : ℕ → What → ℕ
makes_context context (what.Create other name parent) = one_where (context == other)
makes_context context other = 0

abbrev pub deletes : ℕ → What → ℕ
deletes context (what.Delete other) = one_where (context == other)
deletes context other = 0

abbrev pub makes_owner : ℕ → What → ℕ
makes_owner owner (what.Owner other) = one_where (owner == other)
makes_owner owner (what.OwnerIn other parent) = one_where (owner == other)
makes_owner owner other = 0

abbrev pub discards : ℕ → What → ℕ
discards owner (what.OwnerGone other) = one_where (owner == other)
discards owner other = 0

-- whether some event does it
abbrev pub happens : (What → ℕ) → List What → Bool
happens how_often events = list_any (λ event. how_often event == 1) events

-- the reader that sees the number of the next item
abbrev pub numbering : Reader ℕ
numbering = record { next = next; allows = allows }
  where
    next : What → ℕ → ℕ
    next (what.Acquire item owner) n = n + 1
    next other n = n

    allows : What → ℕ → Bool
    allows (what.Acquire item owner) n = item.serial == n
    allows other n = true

-- whether the items are numbered from 1 in the order in which they are acquired
abbrev pub numbers_items : List What → Bool
numbers_items events = allows_all numbering 1 events

abbrev pub is_newest : ℕ → List ℕ → Bool
is_newest snapshot [] = false
is_newest snapshot (newest ∷ older) = newest == snapshot

-- the reader that sees the stack of active snapshots, the newest first
abbrev pub stacking : Reader (List ℕ)
stacking = record { next = next; allows = allows }
  where
    next : What → List ℕ → List ℕ
    next (what.Push snapshot) stack = snapshot ∷ stack
    next (what.Pop snapshot) stack = drop 1 stack
    next other stack = stack

    allows : What → List ℕ → Bool
    allows (what.Pop snapshot) stack = is_newest snapshot stack
    allows other stack = true

abbrev pub none_left : {A : Type 0} → List A → Bool
none_left [] = true
none_left (x ∷ xs) = false

-- whether each pop is of the newest active snapshot, and none is left
abbrev pub pops_newest : List What → Bool
pops_newest events = allows_all stacking [] events && none_left (seen_after stacking [] events)

-- the contexts and the owners that are there, with their parents
pub record Parents : Type 0 where
  pub contexts : List Node
  pub owners : List Node

abbrev pub first_parents : Parents
first_parents = record { contexts = first_contexts; owners = [] }

abbrev pub parents_behind : What → Parents → Parents
parents_behind event parents = record { contexts = contexts_behind event parents.contexts; owners = owners_behind event parents.owners }

-- the reader of parents that lets nothing go which has a child
abbrev pub shedding : Reader Parents
shedding = record { next = parents_behind; allows = allows }
  where
    allows : What → Parents → Bool
    allows (what.Delete context) parents = not (has_child context parents.contexts)
    allows (what.OwnerGone owner) parents = not (has_child owner parents.owners)
    allows other parents = true

-- whether contexts and owners have no child when they go
abbrev pub goes_childless : List What → Bool
goes_childless events = allows_all shedding first_parents events

-- the reader that sees whether the session has ended
abbrev pub ending : Reader Bool
ending = record { next = next; allows = λ event ended. not ended }
  where
    next : What → Bool → Bool
    next what.Exit ended = true
    next other ended = ended

-- whether the session ends, and nothing comes behind its exit
abbrev pub exits_last : List What → Bool
exits_last events = allows_all ending false events && seen_after ending false events

-- the contexts that a session has as it opens
abbrev pub is_first_context : ℕ → Bool
is_first_context context = list_any (λ n. n == context) (range_with_len 1 5)

-- whether a session has this context at some time
abbrev pub has_context : ℕ → List What → Bool
has_context context events = is_first_context context || happens (makes_context context) events

-- What the events of one session owe: its items are numbered as they are acquired; each item is released once, by its
-- owner, and nothing else is; locks are released as often as acquired, and never oftener by any time; a file's descriptor is opened and closed in turns;
-- each pop is of the newest active snapshot, and none is left; each context and owner goes once, when it has no child; and exit comes once, last.
pub record IsReleasedOnce (events : List What) : Type 0 where
  pub numbers : IsTrue (numbers_items events)
  pub items : (item : Item) (owner : ℕ) → BalancesFrom 0 (acquires item owner) (releases item owner) events
  pub locks : (object mode : ℕ) → BalancesFrom 0 (locks object mode) (unlocks object mode) events
  pub descriptors : (file : ℕ) → BalancesFrom 0 (opens file) (closes file) events
  pub turns : (file : ℕ) → Covers (closes file) (opens file) 1 events
  pub snapshots : IsTrue (pops_newest events)
  pub contexts : (context : ℕ) → IsTrue (has_context context events) → BalancesFrom 1 nothing (deletes context) events
  pub owners : (owner : ℕ) → IsTrue (happens (makes_owner owner) events) → BalancesFrom 1 nothing (discards owner) events
  pub childless : IsTrue (goes_childless events)
  pub exit : IsTrue (exits_last events)

-- Each resource that a session of the run acquires is released exactly once.
abbrev pub ReleasesOnce : ℕ → List Event → Type 0
ReleasesOnce sessions events = (n : ℕ) → 1 ≤ n → n ≤ sessions → IsReleasedOnce (events_of n events)

-- whether what this event names of items, locks, descriptors, contexts and owners comes and goes as it has to among these events
abbrev pub settles : List What → What → Bool
settles events (what.Acquire item owner) = balances_from 0 (acquires item owner) (releases item owner) events
settles events (what.Release item owner) = balances_from 0 (acquires item owner) (releases item owner) events
settles events (what.AcquireLock object mode owner) = balances_from 0 (locks object (mode_number mode)) (unlocks object (mode_number mode)) events
settles events (what.ReleaseLock object mode count owner) = balances_from 0 (locks object (mode_number mode)) (unlocks object (mode_number mode)) events
settles events (what.DescriptorOpened file) = balances_from 0 (opens file) (closes file) events && covers (closes file) (opens file) 1 events
settles events (what.DescriptorClosed file) = balances_from 0 (opens file) (closes file) events && covers (closes file) (opens file) 1 events
settles events (what.Create context name parent) = balances_from 1 nothing (deletes context) events
settles events (what.Owner owner) = balances_from 1 nothing (discards owner) events
settles events (what.OwnerIn owner parent) = balances_from 1 nothing (discards owner) events
settles events other = true

-- the tests of one session together
abbrev pub is_released_once : List What → Bool
is_released_once events =
    numbers_items events
    && (list_all (settles events) events
    && (pops_newest events
    && (list_all (λ context. balances_from 1 nothing (deletes context) events) (range_with_len 1 5)
    && (goes_childless events && exits_last events))))

-- whether each resource that a session of the run acquires is released exactly once
abbrev pub releases_once : ℕ → List Event → Bool
releases_once sessions events = list_all (λ n. is_released_once (events_of n events)) (range_with_len 1 sessions)
