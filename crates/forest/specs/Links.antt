-- What the slots of an arena stand for.
use Rattle.std.specs.Prelude.{◌≡◌, ℕ, zero, suc, Option, Some, None}
use Rattle.std.specs.Option.{option_map_or}
use Rattle.slab.specs.Slab.{Slab, get, slab_len}
use Rattle.forest.specs.Forest.{Forest, Empty, Node, first, Once, size}
use Rattle.forest.specs.Forested.{Forested}
use Rattle.forest.specs.declared.links.Linked.{Linked}

-- a node without its links
pub record Entry (T : Type 0) : Type 0 where
  pub number : ℕ
  pub value : T

module _ {T : Type 0} where
  abbrev pub entry_of : Linked T → Entry T
  entry_of l = record { number = l.number; value = l.value }

  -- a node with its links
  abbrev pub linked : Entry T → Option ℕ → Option ℕ → Option ℕ → Option ℕ → Linked T
  linked e parent first_child previous next = record {
    number = e.number;
    value = e.value;
    parent = parent;
    first_child = first_child;
    previous = previous;
    next = next;
  }

  -- the forest by slots that hangs at a link; the number is enough for all its nodes
  abbrev pub built : ℕ → (ℕ → Option (Linked T)) → Option ℕ → Forest (Entry T)
  built zero look link = Empty
  built (suc fuel) look None = Empty
  built (suc fuel) look (Some slot) =
      option_map_or (λ l. Node slot (entry_of l) (built fuel look l.first_child) (built fuel look l.next)) (look slot) Empty

  -- each node of the forest by slots lies in its slot and is linked with its neighbours
  abbrev pub IsLinked : (ℕ → Option (Linked T)) → Option ℕ → Option ℕ → Forest (Entry T) → Type 0
  IsLinked look parent previous Empty = Unit {0}
  IsLinked look parent previous (Node slot e below beside) =
      (look slot ≡ Some (linked e parent (first below) previous (first beside)))
      × IsLinked look (Some slot) None below × IsLinked look parent (Some slot) beside

module _ {T B : Type 0} where
  -- a forest by slots as one by numbers
  abbrev pub by_number : (ℕ → Entry T → B) → Forest (Entry T) → Forest B
  by_number f Empty = Empty
  by_number f (Node slot e below beside) = Node e.number (f slot e) (by_number f below) (by_number f beside)

module _ {T : Type 0} where
  abbrev pub values : Forest (Entry T) → Forest T
  values t = by_number (λ slot e. e.value) t

  abbrev pub slots : Forest (Entry T) → Forest ℕ
  slots t = by_number (λ slot e. slot) t

  abbrev pub forested : ℕ → Forest (Entry T) → Forested T
  forested vacant t = record { forest = values t; places = slots t; vacant = vacant }

  -- the slots hold the nodes of one forest, and nothing else
  pub record IsSound (nodes : Slab (Linked T)) (link : Option ℕ) : Type 0 where
    pub tree : Forest (Entry T)
    pub linked : IsLinked (get nodes) None None tree
    pub front : link ≡ first tree
    pub by_slot : Once tree
    pub by_number : Once (values tree)
    pub count : size tree ≡ slab_len nodes

  -- the forest by numbers, where each lies, and where the next one will
  unfoldable pub seen : Slab (Linked T) → Option ℕ → Forested T
  seen nodes link = forested nodes.vacant_key (built (slab_len nodes) (get nodes) link)
