-- The parents of contexts and of owners, replayed from the events alone.
use Rattle.std.specs.Prelude.{ℕ, ◌==◌, Bool, false, not, ◌&&◌, ◌||◌, if◌then◌else◌, List, [], ◌∷◌, filter, Option, Some, None}
use Rattle.std.specs.Option.{option_map_or}
use Rattle.std.specs.List.{list_any}
use Rattle.pgs_step.specs.declared.events.What.{What}
use Rattle.pgs_step.specs.declared.events.What.TheVariants as what
use Rattle.lifetime_laws.specs.Reading.{is_one_of}

-- a context or an owner, and its parent, where it has one
pub record Node : Type 0 where
  pub number : ℕ
  pub parent : Option ℕ

abbrev pub node : ℕ → Option ℕ → Node
node number parent = record { number = number; parent = parent }

-- whether the number is there
abbrev pub is_there : ℕ → List Node → Bool
is_there n nodes = list_any (λ node. node.number == n) nodes

-- the parent of a number, where it is there and has one
abbrev pub parent_of : ℕ → List Node → Option ℕ
parent_of n [] = None
parent_of n (node ∷ nodes) = (if node.number == n then node.parent else parent_of n nodes)

-- the nodes without this one
abbrev pub without : ℕ → List Node → List Node
without n nodes = filter (λ node. not (node.number == n)) nodes

-- the nodes with this one, which has this parent from now on
abbrev pub placed : ℕ → Option ℕ → List Node → List Node
placed n parent nodes = node n parent ∷ without n nodes

-- the same, where what is named besides is there; else nothing changes
abbrev pub placed_where : Bool → ℕ → Option ℕ → List Node → List Node
placed_where named n parent nodes = (if named then placed n parent nodes else nodes)

-- the contexts that each session begins with
abbrev pub first_contexts : List Node
first_contexts = node 1 None ∷ node 2 (Some 1) ∷ node 3 (Some 1) ∷ node 4 (Some 1) ∷ node 5 (Some 1) ∷ []

-- The contexts behind an event. One that names a context which isn't there is passed over. What was below a context that goes keeps
-- its parent, which isn't there any more.
abbrev pub contexts_behind : What → List Node → List Node
contexts_behind (what.Create context name parent) nodes = placed_where (is_there parent nodes) context (Some parent) nodes
contexts_behind (what.Move context parent) nodes = placed_where (is_there context nodes && is_there parent nodes) context (Some parent) nodes
contexts_behind (what.Delete context) nodes = without context nodes
contexts_behind other nodes = nodes

-- the owners behind an event, in the same way
abbrev pub owners_behind : What → List Node → List Node
owners_behind (what.Owner owner) nodes = placed owner None nodes
owners_behind (what.OwnerIn owner parent) nodes = placed_where (is_there parent nodes) owner (Some parent) nodes
owners_behind (what.MoveOwner owner parent) nodes = placed_where (is_there owner nodes && is_there parent nodes) owner (Some parent) nodes
owners_behind (what.OwnerGone owner) nodes = without owner nodes
owners_behind other nodes = nodes

-- the parent, its parent and so on, in at most as many steps as the first list is long
abbrev pub above_in : List Node → List Node → ℕ → List ℕ
above_in [] nodes n = []
above_in (step ∷ steps) nodes n = elim (parent_of n nodes) as (λ _. List ℕ) [ None ↦ [] | Some parent ↦ parent ∷ above_in steps nodes parent ]

-- all that a number is below: its parent, the parent of that and so on
abbrev pub above : ℕ → List Node → List ℕ
above n nodes = above_in nodes nodes n

-- whether the first number is a parent of the second, or above its parent
abbrev pub is_above : ℕ → ℕ → List Node → Bool
is_above a b nodes = is_one_of a (above b nodes)

-- whether a number is the root or below it
abbrev pub is_within : ℕ → ℕ → List Node → Bool
is_within root n nodes = (n == root) || is_above root n nodes

-- whether some node has this number as its parent
abbrev pub has_child : ℕ → List Node → Bool
has_child n nodes = list_any (λ node. option_map_or (λ parent. parent == n) node.parent false) nodes
