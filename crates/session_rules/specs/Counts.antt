-- What a session counts: each number is derived from what it holds.
use Rattle.std.specs.Prelude.{ℕ, ◌+◌, ◌==◌, Bool, if◌then◌else◌, List, [], ◌∷◌, ◌++◌, map, length, filter}
use Rattle.std.specs.List.{list_any}
use Rattle.pgs_step.specs.declared.ids.Item.{Item}
use Rattle.pgs_step.specs.declared.ids.KindId.{KindId}
use Rattle.pgs_step.specs.declared.ids.TheConstants.KindId.{BUFFER_PIN, RELCACHE_REFERENCE, CATCACHE_REFERENCE, CATCACHE_LIST_REFERENCE, TUPLE_DESCRIPTOR_REFERENCE, SNAPSHOT_REFERENCE, FILE}
use Rattle.pgs_step.specs.declared.counters.SessionCounts.{SessionCounts}
use Rattle.forest.specs.Forest.{Empty, Node, size}
use Rattle.owner_items.specs.ItemList.{is_of}
use Rattle.owner_core.specs.Owners.{OwnerTree}
use Rattle.snap_table.specs.Snapshots.{snapshots_of}
use Rattle.session_rules.specs.State.{SessionState}

-- all items of the owners
abbrev pub all_items : OwnerTree → List Item
all_items Empty = []
all_items (Node n owner below beside) = owner.items ++ (all_items below ++ all_items beside)

-- whether the session holds an item of this kind and key
abbrev pub holds : KindId → ℕ → SessionState → Bool
holds kind key session = list_any (is_of kind key) (all_items session.owners)

-- the keys of the items of a kind
abbrev pub keys_of : KindId → List Item → List ℕ
keys_of kind items = map (λ item. item.key) (filter (λ item. item.kind.0 == kind.0) items)

-- each number once, where it stands last
abbrev pub distinct : List ℕ → List ℕ
distinct [] = []
distinct (n ∷ ns) = if list_any (λ m. m == n) ns then distinct ns else n ∷ distinct ns

-- the different keys of the items of a kind
abbrev pub keys : KindId → SessionState → List ℕ
keys kind session = distinct (keys_of kind (all_items session.owners))

abbrev pub count : KindId → SessionState → ℕ
count kind session = length (keys kind session)

-- What the command `stat` shows.
abbrev pub counts : SessionState → SessionCounts
counts session = record {
  pins = count BUFFER_PIN session;
  files = count FILE session;
  descriptors = length session.recent;
  locks = length session.locks;
  snapshots = length (distinct (keys_of SNAPSHOT_REFERENCE (all_items session.owners) ++ snapshots_of session.snapshots));
  plans = length session.plans;
  refs = count RELCACHE_REFERENCE session + (count CATCACHE_REFERENCE session + (count CATCACHE_LIST_REFERENCE session + count TUPLE_DESCRIPTOR_REFERENCE session));
  owners = size session.owners;
  contexts = size session.contexts;
}
