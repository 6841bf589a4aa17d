-- Walks that come to each node before its children, and to these from the first one on.
use Rattle.std.specs.Prelude.{◌≡◌, ℕ, ◌+◌, ◌==◌, if◌then◌else◌, List, [], ◌∷◌, ◌++◌, length, Option, refl}
use Rattle.std.specs.Option.{option_map_or}
use Rattle.std.specs.Coded.{Coded, code_by, coded×, coded_ℕ, coded_list}
use Rattle.forest.specs.Forest.{Forest, Empty, Node, has}
use Rattle.forest.specs.Forested.{Forested, IsPlaced}
use Rattle.forest.specs.declared.preorder.Spot.{Spot}

-- a node that such a walk comes to: how many levels it stands below the first ones, its number and its data
pub record Visited (A : Type 0) : Type 0 where
  pub depth : ℕ
  pub number : ℕ
  pub value : A

abbrev pub visited_code : {A : Type 0} → Coded A → Coded (List (Visited A))
visited_code {A} code =
    coded_list
    (code_by (ℕ × (ℕ × A)) (coded× coded_ℕ (coded× coded_ℕ code))
    (λ v. (v.depth, (v.number, v.value))) (λ p. record { depth = p.0; number = p.1.0; value = p.1.1 }) (λ _. refl))

module _ {A : Type 0} where
  -- the nodes in the order of such a walk, where the first ones stand at this depth
  abbrev pub preorder : ℕ → Forest A → List (Visited A)
  preorder depth Empty = []
  preorder depth (Node k a below beside) =
      record { depth = depth; number = k; value = a } ∷ (preorder (depth + 1) below ++ preorder depth beside)

  -- the depth at which the node of this number stands
  abbrev pub level : ℕ → ℕ → Forest A → ℕ
  level depth n Empty = depth
  level depth n (Node k a below beside) =
      if k == n then depth else (if has n below then level (depth + 1) n below else level depth n beside)

  -- what is left of the walk at the node of this number
  abbrev pub from_node : ℕ → ℕ → Forest A → List (Visited A)
  from_node depth n Empty = []
  from_node depth n (Node k a below beside) =
      if k == n then preorder depth (Node k a below beside)
      else (if has n below then from_node (depth + 1) n below ++ preorder depth beside else from_node depth n beside)

  -- what is left of it behind that node and all below it
  abbrev pub behind_node : ℕ → ℕ → Forest A → List (Visited A)
  behind_node depth n Empty = []
  behind_node depth n (Node k a below beside) =
      if k == n then preorder depth beside
      else (if has n below then behind_node (depth + 1) n below ++ preorder depth beside else behind_node depth n beside)

  -- how many nodes are left of it, at that node and behind it
  abbrev pub left_from : ℕ → Forest A → ℕ
  left_from n t = length (from_node 0 n t)

  abbrev pub left_behind : ℕ → Forest A → ℕ
  left_behind n t = length (behind_node 0 n t)

  -- a spot in a walk is a node of the forest with its depth
  pub record IsSpot (f : Forested A) (spot : Spot) : Type 0 where
    pub placed : IsPlaced f spot.id
    pub depth : spot.depth ≡ level 0 spot.id.number f.forest

  -- what is left of the walk of a whole forest at a spot
  abbrev pub left_at : Forest A → Option Spot → List (Visited A)
  left_at t spot = option_map_or (λ s. from_node 0 s.id.number t) spot []
