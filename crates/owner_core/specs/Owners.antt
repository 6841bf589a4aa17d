-- Resource owners, the items that they remember, and the owners below them.
use Rattle.std.specs.Prelude.{◌≡◌, ℕ, ◌+◌, ◌==◌, Bool, true, false, List, [], ◌∷◌, Option, Some, None, count_by}
use Rattle.std.specs.Option.{option_map_or}
use Rattle.pgs_step.specs.declared.ids.Item.{Item}
use Rattle.pgs_step.specs.declared.ids.KindId.{KindId}
use Rattle.pgs_step.specs.declared.ids.OwnerId.{OwnerId}
use Rattle.forest.specs.Forest.{Forest, Empty, Node, has, at, children, parent_of, put, changed, mapped, subtree, AllNodes}
use Rattle.owner_items.specs.ItemList.{is_of, without_newest, uses}

-- an owner: whether its release has begun, and the items that it remembers, the newest first
pub record Owner : Type 0 where
  pub begun : Bool
  pub items : List Item

-- the owners of a session by their numbers, each above its children, and these the newest first
abbrev pub OwnerTree : Type 0
OwnerTree = Forest Owner

-- an owner, and for how many more items it has room
pub record Roomy : Type 0 where
  pub owner : Owner
  pub spare : ℕ

-- what a session's owners are seen as: the owners with their room, where each lies, and the numbers that the
-- next owner and the next item get
pub record OwnerTable : Type 0 where
  pub rooms : Forest Roomy
  pub places : Forest ℕ
  pub next_owner : ℕ
  pub next_serial : ℕ

-- the owners alone
abbrev pub tree_of : Forest Roomy → OwnerTree
tree_of rooms = mapped (λ room. room.owner) rooms

abbrev pub owners_of : OwnerTable → OwnerTree
owners_of table = tree_of table.rooms

-- the owner is there, at this slot
abbrev pub IsLive : OwnerTable → OwnerId → Type 0
IsLive table owner = at owner.number table.places ≡ Some owner.slot

-- the items of the owner of that number, the newest first
abbrev pub items_of : ℕ → OwnerTree → List Item
items_of n owners = option_map_or (λ owner. owner.items) (at n owners) []

-- whether release has begun of the owner of that number
abbrev pub has_begun : ℕ → OwnerTree → Bool
has_begun n owners = option_map_or (λ owner. owner.begun) (at n owners) false

-- for how many more items the owner of that number has room
abbrev pub spare_of : ℕ → OwnerTable → ℕ
spare_of n table = option_map_or (λ room. room.spare) (at n table.rooms) 0

-- the forest with a new node without children: the first child of the one of this number, or the first root
abbrev pub entered : {A : Type 0} → Option ℕ → ℕ → A → Forest A → Forest A
entered None n new t = Node n new Empty t
entered (Some parent) n new t = put parent n new Empty t

-- a new owner is the first of its parent's children, or of the owners without a parent
abbrev pub created : Option ℕ → ℕ → OwnerTree → OwnerTree
created parent n owners = entered parent n (record { begun = false; items = [] }) owners

-- the owner of that number remembers the item
abbrev pub remembered : ℕ → Item → OwnerTree → OwnerTree
remembered n item owners = changed n (λ owner. record owner { items = item ∷ owner.items }) owners

-- the owner of that number forgets the newest item of this kind and key
abbrev pub forgotten : ℕ → KindId → ℕ → OwnerTree → OwnerTree
forgotten n kind key owners = changed n (λ owner. record owner { items = without_newest (is_of kind key) owner.items }) owners

-- how many items of these owners are of this kind and key
abbrev pub held : KindId → ℕ → OwnerTree → ℕ
held kind key Empty = 0
held kind key (Node n owner below beside) = uses kind key owner.items + (held kind key below + held kind key beside)

-- the owner of that number with all below it, alone
abbrev pub subtree_of : ℕ → OwnerTree → OwnerTree
subtree_of n owners = subtree n owners

-- of the owner of that number and those below it each is so
abbrev pub AllAt : (Owner → Type 0) → ℕ → OwnerTree → Type 0
AllAt P n owners = AllNodes P (subtree_of n owners)

-- an owner without items
abbrev pub HoldsNothing : Owner → Type 0
HoldsNothing owner = owner.items ≡ []
