-- A forest whose nodes are found by a number.
use Rattle.std.specs.Prelude.{ℕ, ◌+◌, ◌≤◌, ◌==◌, ◌||◌, Bool, false, if◌then◌else◌, Option, Some, None}
use Rattle.std.specs.Option.{option_map_or}

-- nothing, or a node with its number, its data, the forest of its children and the forest of the siblings behind it
pub data Forest (A : Type 0) : Type 0 where
  Empty : Forest A
  Node : ℕ → A → Forest A → Forest A → Forest A

module _ {A : Type 0} where
  -- the first of two that is something
  abbrev pub either : Option A → Option A → Option A
  either None b = b
  either (Some a) b = Some a

module _ {A : Type 0} where
  -- a node has this number
  abbrev pub has : ℕ → Forest A → Bool
  has n Empty = false
  has n (Node k a below beside) = (k == n) || (has n below || has n beside)

  -- how many nodes have this number
  abbrev pub times : ℕ → Forest A → ℕ
  times n Empty = 0
  times n (Node k a below beside) = (if k == n then 1 else 0) + (times n below + times n beside)

  -- each number stands at most once
  pub record Once (t : Forest A) : Type 0 where
    pub once : (n : ℕ) → times n t ≤ 1

  -- how many nodes there are
  abbrev pub size : Forest A → ℕ
  size Empty = 0
  size (Node k a below beside) = 1 + (size below + size beside)

  -- the data at a number
  abbrev pub at : ℕ → Forest A → Option A
  at n Empty = None
  at n (Node k a below beside) = if k == n then Some a else either (at n below) (at n beside)

  -- the number of the first root
  abbrev pub first : Forest A → Option ℕ
  first Empty = None
  first (Node k a below beside) = Some k

  -- the children of the node of this number
  abbrev pub children : ℕ → Forest A → Forest A
  children n Empty = Empty
  children n (Node k a below beside) = if k == n then below else (if has n below then children n below else children n beside)

  -- the number of the sibling behind the node of this number
  abbrev pub next_of : ℕ → Forest A → Option ℕ
  next_of n Empty = None
  next_of n (Node k a below beside) = if k == n then first beside else (if has n below then next_of n below else next_of n beside)

  -- the node of this number is a root
  abbrev pub is_root : ℕ → Forest A → Bool
  is_root n Empty = false
  is_root n (Node k a below beside) = (k == n) || is_root n beside

  -- the number of the parent of the node of this number, where that isn't a root
  abbrev pub parent_of : ℕ → Forest A → Option ℕ
  parent_of n Empty = None
  parent_of n (Node k a below beside) =
      if is_root n below then Some k else (if has n below then parent_of n below else parent_of n beside)

  -- the node of the second number is below that of the first
  abbrev pub is_above : ℕ → ℕ → Forest A → Bool
  is_above p n t = has n (children p t)

  -- the forest with other children of the node of this number
  abbrev pub with_children : ℕ → Forest A → Forest A → Forest A
  with_children n new Empty = Empty
  with_children n new (Node k a below beside) =
      Node k a (if k == n then new else with_children n new below) (with_children n new beside)

  -- the forest with a new first child, which may have children of its own, of the node of this number
  abbrev pub put : ℕ → ℕ → A → Forest A → Forest A → Forest A
  put p n new sub Empty = Empty
  put p n new sub (Node k a below beside) =
      Node k a (if k == p then Node n new sub below else put p n new sub below) (put p n new sub beside)

  -- the forest without the node of this number and what is below it
  abbrev pub removed : ℕ → Forest A → Forest A
  removed n Empty = Empty
  removed n (Node k a below beside) = if k == n then removed n beside else Node k a (removed n below) (removed n beside)

  -- the forest with the data at a number changed
  abbrev pub changed : ℕ → (A → A) → Forest A → Forest A
  changed n change Empty = Empty
  changed n change (Node k a below beside) =
      Node k (if k == n then change a else a) (changed n change below) (changed n change beside)

  -- the forest with the node of the first number, and all below it, as the first child of the second one
  abbrev pub moved : ℕ → ℕ → Forest A → Forest A
  moved n p t = option_map_or (λ a. put p n a (children n t) (removed n t)) (at n t) t

  -- the node of this number with all below it, alone
  abbrev pub subtree : ℕ → Forest A → Forest A
  subtree n t = option_map_or (λ a. Node n a (children n t) Empty) (at n t) Empty

  -- each node's data is so
  abbrev pub AllNodes : (A → Type 0) → Forest A → Type 0
  AllNodes P Empty = Unit {0}
  AllNodes P (Node k a below beside) = P a × AllNodes P below × AllNodes P beside

module _ {A B : Type 0} where
  -- the forest with other data at each node
  abbrev pub mapped : (A → B) → Forest A → Forest B
  mapped f Empty = Empty
  mapped f (Node k a below beside) = Node k (f a) (mapped f below) (mapped f beside)
