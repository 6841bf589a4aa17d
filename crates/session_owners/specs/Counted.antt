-- What the tables count of what a session's owners hold.
use Rattle.std.specs.Prelude.{◌≡◌, ◌⊎◌, ℕ, ◌<◌, ◌≤◌, Bool, List, length, All}
use Rattle.std.specs.List.{list_any}
use Rattle.counts.specs.Counts.{total}
use Rattle.plan_store.specs.Plans as plans
use Rattle.pgs_step.specs.declared.ids.Item.{Item}
use Rattle.pgs_step.specs.declared.ids.KindId.{KindId}
use Rattle.pgs_step.specs.declared.ids.TheConstants.KindId.{BUFFER_PIN, PLAN_REFERENCE, FILE, FIRST_EXTENSION}
use Rattle.pgs_step.specs.declared.ids.Phase.TheVariants.{BeforeLocks, Locks, AfterLocks}
use Rattle.forest.specs.Forest.{AllNodes}
use Rattle.owner_kinds.specs.KindTable.{KindTable}
use Rattle.owner_items.specs.ItemList.{is_of}
use Rattle.owner_core.specs.Owners.{Owner, OwnerTable, OwnerTree, held, owners_of}
use Rattle.owner_core.specs.Released.{released}
use Rattle.owner_core.specs.Sound.{IsSoundTable}
use Rattle.session_rules.specs.Limits.{shared_buffers}
use Rattle.session_rules.specs.State.{file_kind}
use Rattle.session_rules.specs.Counts.{all_items, distinct, keys_of}
use Rattle.session_owners.specs.Tables.{Held, times_held}
pub use Rattle.session_owners.specs.Tables.{IsReference}

-- the item is a pin of one of the buffers
pub record IsPin (item : Item) : Type 0 where
  pub kind : item.kind.0 ≡ BUFFER_PIN.0
  pub buffer : item.key < shared_buffers

-- an item that is counted: a pin, a reference, an open file, a reference to a plan, or what an extension kind holds
abbrev pub IsHeld : Item → Type 0
IsHeld item = IsPin item ⊎ (IsReference item.kind ⊎ ((item.kind.0 ≡ FILE.0) ⊎ ((item.kind.0 ≡ PLAN_REFERENCE.0) ⊎ (FIRST_EXTENSION ≤ item.kind.0))))

abbrev pub HoldsCounted : Owner → Type 0
HoldsCounted owner = All IsHeld owner.items

-- The owners hold pins, references, files and references to plans, each just as often as it is counted, and what extension kinds hold; of
-- each fewer than serials were given.
pub record IsCounted (table : OwnerTable) (counts : Held) : Type 0 where
  pub sound : IsSoundTable table
  pub items : AllNodes HoldsCounted (owners_of table)
  pub buffers : length counts.pins ≡ shared_buffers
  pub counted : (kind : KindId) (key : ℕ) → kind.0 < FIRST_EXTENSION → times_held counts kind key ≡ held kind key (owners_of table)
  pub few : (kind : KindId) (key : ℕ) → held kind key (owners_of table) < table.next_serial
  pub references : total counts.references < table.next_serial
  pub plan_references : plans.references counts.plans < table.next_serial

-- whether owners hold a file, and the files that they hold
abbrev pub holds_file : ℕ → OwnerTree → Bool
holds_file file owners = list_any (is_of file_kind file) (all_items owners)

abbrev pub files_held : OwnerTree → List ℕ
files_held owners = distinct (keys_of file_kind (all_items owners))

-- the owners once the one of this number and all below it were released, in the three phases
abbrev pub all_released : KindTable → ℕ → OwnerTree → OwnerTree
all_released kinds n owners = released kinds AfterLocks n (released kinds Locks n (released kinds BeforeLocks n owners))
