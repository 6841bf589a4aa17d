-- The end of a level releases descendants first, by phase and priority.
use Rattle.std.specs.Prelude.{ℕ, ◌==◌, nat_lt, Bool, true, false, not, ◌&&◌, ◌||◌, IsTrue, List, [], ◌∷◌, Option, Some, None, is_none, option_and_then}
use Rattle.std.specs.Option.{option_map, option_map_or}
use Rattle.std.specs.List.{list_all}
use Rattle.pgs_step.specs.declared.ids.Item.{Item}
use Rattle.pgs_step.specs.declared.ids.Phase.{Phase}
use Rattle.pgs_step.specs.declared.ids.Phase.TheVariants.{BeforeLocks, Locks, AfterLocks}
use Rattle.pgs_step.specs.declared.events.Event.{Event}
use Rattle.pgs_step.specs.declared.events.What.{What}
use Rattle.pgs_step.specs.declared.events.What.TheVariants as what
use Rattle.pgs_step.specs.Mode.{mode_number}
use Rattle.owner_kinds.specs.KindTable.{KindTable, row_of}
use Rattle.lifetime_laws.specs.Reading.{Reader, allows_all, seen_after, events_of, sessions_of}
use Rattle.lifetime_laws.specs.Parents.{Node, owners_behind, is_above}
use Rattle.lifetime_laws.specs.Once.{same_item}

-- What the end of a level releases: an item, by its phase, priority, serial and owner; or a lock, by its object, the number of its
-- mode and the owner that it is taken from.
pub data Member : Type 0 where
  AnItem : Phase → ℕ → ℕ → ℕ → Member
  ALock : ℕ → ℕ → ℕ → Member

-- the phases in order
abbrev pub place_of_phase : Phase → ℕ
place_of_phase BeforeLocks = 1
place_of_phase Locks = 2
place_of_phase AfterLocks = 3

abbrev pub place_of : Member → ℕ
place_of (AnItem phase priority serial owner) = place_of_phase phase
place_of (ALock object mode owner) = place_of_phase Locks

abbrev pub owner_of : Member → ℕ
owner_of (AnItem phase priority serial owner) = owner
owner_of (ALock object mode owner) = owner

-- Whether one goes before another of the same phase and owner: the item of the lower priority number, and of two with one priority the
-- newer; the lock on the lower object, and of two on one object the one in the weaker mode.
abbrev pub goes_before : Member → Member → Bool
goes_before (AnItem phase priority serial owner) (AnItem phase' priority' serial' owner') =
    nat_lt priority priority' || ((priority == priority') && nat_lt serial' serial)
goes_before (ALock object mode owner) (ALock object' mode' owner') = nat_lt object object' || ((object == object') && nat_lt mode mode')
goes_before one another = true

-- Whether one may stand before another in a release: in an earlier phase; or in the same phase, if its owner isn't above the other's, and if it goes
-- before where they have the same owner.
abbrev pub may_precede : List Node → Member → Member → Bool
may_precede owners a b =
    nat_lt (place_of a) (place_of b)
    || ((place_of a == place_of b)
    && (not (is_above (owner_of a) (owner_of b) owners) && (not (owner_of a == owner_of b) || goes_before a b)))

-- an item with its owner
pub record Owned : Type 0 where
  pub item : Item
  pub owner : ℕ

-- the warning that stands directly before the next event
abbrev pub warning_behind : What → Option Owned
warning_behind (what.NotClosed item owner) = Some (record { item = item; owner = owner })
warning_behind other = None

-- whether an event is the release of what was warned of
abbrev pub is_release_of : Owned → What → Bool
is_release_of owned (what.Release item owner) = same_item owned.item item && (owned.owner == owner)
is_release_of owned other = false

-- whether the warning directly before speaks of what this event releases
abbrev pub is_warned : Option Owned → What → Bool
is_warned warning event = option_map_or (λ owned. is_release_of owned event) warning false

-- the release that is going on: whether its level aborts, and what it has released so far, the newest first
pub record Batch : Type 0 where
  pub aborts : Bool
  pub members : List Member

-- what this event releases in a batch: a lock, or an item, which at commit has its warning directly before it
abbrev pub member_of : KindTable → Bool → What → Option Member
member_of kinds counts (what.ReleaseLock object mode count owner) = Some (ALock object (mode_number mode) owner)
member_of kinds counts (what.PassLock object mode count from to) = Some (ALock object (mode_number mode) from)
member_of kinds true (what.Release item owner) = option_map (λ row. AnItem row.phase row.priority item.serial owner) (row_of kinds item.kind)
member_of kinds counts other = None

-- the members with this one
abbrev pub with_member : Option Member → List Member → List Member
with_member None members = members
with_member (Some member) members = member ∷ members

-- Where a release stands: the owners with their parents, the batch that is open, and the warning directly before.
pub record Releasing : Type 0 where
  pub owners : List Node
  pub batch : Option Batch
  pub warning : Option Owned

abbrev pub nothing_releasing : Releasing
nothing_releasing = record { owners = []; batch = None; warning = None }

-- what this event releases in this batch
abbrev pub member_in : KindTable → Option Owned → What → Batch → Option Member
member_in kinds warning event batch = member_of kinds (batch.aborts || is_warned warning event) event

-- the batch behind an event: a level line, an owner that goes, the end of a command or of the session closes it
abbrev pub batch_behind : What → Option Member → Option Batch → Option Batch
batch_behind (what.CommitLevel level) member batch = Some (record { aborts = false; members = [] })
batch_behind (what.AbortLevel level) member batch = Some (record { aborts = true; members = [] })
batch_behind (what.BeginLevel level) member batch = None
batch_behind (what.CleanupLevel level) member batch = None
batch_behind (what.OwnerGone owner) member batch = None
batch_behind what.Ok member batch = None
batch_behind (what.Error error) member batch = None
batch_behind what.Exit member batch = None
batch_behind other member batch = option_map (λ (old : Batch). record old { members = with_member member old.members }) batch

abbrev pub member_now : KindTable → What → Releasing → Option Member
member_now kinds event releasing = option_and_then (λ batch. member_in kinds releasing.warning event batch) releasing.batch

abbrev pub members_so_far : Option Batch → List Member
members_so_far batch = option_map_or (λ open_batch. open_batch.members) batch []

-- the reader of releases, which lets nothing be released behind what has to come later
abbrev pub ordering : KindTable → Reader Releasing
ordering kinds = record {
  next = λ event releasing. record {
    owners = owners_behind event releasing.owners;
    batch = batch_behind event (member_now kinds event releasing) releasing.batch;
    warning = warning_behind event;
  };
  allows = λ event releasing.
      option_map_or (λ member. list_all (λ earlier. may_precede releasing.owners earlier member) (members_so_far releasing.batch)) (member_now kinds event releasing) true;
}

-- whether each release of the events of one session is in order
abbrev pub releases_by_order : KindTable → List What → Bool
releases_by_order kinds events = allows_all (ordering kinds) nothing_releasing events

-- the reader of warnings: behind one comes the release of the item that it names
abbrev pub warning : Reader (Option Owned)
warning = record { next = λ event before. warning_behind event; allows = λ event before. option_map_or (λ owned. is_release_of owned event) before true }

-- whether each warning stands directly before the release of its item
abbrev pub warns_of_releases : List What → Bool
warns_of_releases events = allows_all warning None events && is_none (seen_after warning None events)

-- What the events of one session owe: in the release that ends a level the phases come in order; in a phase no owner comes before one below it; of one owner the items
-- come by rising priority, of one priority the newest first, and the locks by object and mode; and a warning of what was not closed stands directly before its release.
pub record IsReleasedInOrder (kinds : KindTable) (events : List What) : Type 0 where
  pub order : IsTrue (releases_by_order kinds events)
  pub warnings : IsTrue (warns_of_releases events)

-- The ends of levels release descendants first, by phase and priority, in every session.
abbrev pub ReleasesInOrder : KindTable → List Event → Type 0
ReleasesInOrder kinds events = (n : ℕ) → IsReleasedInOrder kinds (events_of n events)

abbrev pub is_released_in_order : KindTable → List What → Bool
is_released_in_order kinds events = releases_by_order kinds events && warns_of_releases events

-- whether the ends of levels release descendants first, by phase and priority, in every session
abbrev pub releases_in_order : KindTable → List Event → Bool
releases_in_order kinds events = list_all (λ n. is_released_in_order kinds (events_of n events)) (sessions_of events)
