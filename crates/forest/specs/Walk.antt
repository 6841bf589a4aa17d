-- Walks that come to each node behind its children, and to these from the first one on.
use Rattle.std.specs.Prelude.{ℕ, ◌==◌, if◌then◌else◌, List, [], ◌∷◌, ◌++◌}
use Rattle.forest.specs.Forest.{Forest, Empty, Node, has, children}

module _ {A : Type 0} where
  -- the numbers in the order of such a walk
  abbrev pub order : Forest A → List ℕ
  order Empty = []
  order (Node k a below beside) = order below ++ k ∷ order beside

  -- what is below the node of this number, in that order, and then the node
  abbrev pub order_at : ℕ → Forest A → List ℕ
  order_at n t = order (children n t) ++ n ∷ []

  -- where the walk of the children of this node begins, or the node where it has none
  abbrev pub lead : ℕ → Forest A → ℕ
  lead up Empty = up
  lead up (Node k a below beside) = lead k below

  -- where the walk of the children of a node goes from the one of the first number: at the end, to the node
  abbrev pub follows : ℕ → ℕ → Forest A → ℕ
  follows n up Empty = up
  follows n up (Node k a below beside) =
      if k == n then lead up beside else (if has n below then follows n k below else follows n up beside)

  -- what comes behind a number in the walk of a forest
  abbrev pub after : ℕ → Forest A → List ℕ
  after n Empty = []
  after n (Node k a below beside) =
      if k == n then order beside else (if has n below then after n below ++ k ∷ order beside else after n beside)

  -- what is left of the walk of the children of a node, and of the node, at this number
  abbrev pub todo : ℕ → ℕ → Forest A → List ℕ
  todo up n t = if n == up then up ∷ [] else n ∷ (after n t ++ up ∷ [])

  -- the forest with the data of all nodes changed
  abbrev pub all_changed : (A → A) → Forest A → Forest A
  all_changed f Empty = Empty
  all_changed f (Node k a below beside) = Node k (f a) (all_changed f below) (all_changed f beside)

  -- the forest with the data of a node and of all below it changed
  abbrev pub swept : (A → A) → ℕ → Forest A → Forest A
  swept f n Empty = Empty
  swept f n (Node k a below beside) =
      if k == n then Node k (f a) (all_changed f below) (swept f n beside) else Node k a (swept f n below) (swept f n beside)
