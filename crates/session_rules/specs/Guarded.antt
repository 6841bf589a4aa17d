-- Forests with one root in which some nodes are protected: below one that isn't, none is.
use Rattle.std.specs.Prelude.{◌≡◌, ℕ, Bool, true, false}
use Rattle.forest.specs.Forest.{Forest, Empty, Node, AllNodes}

module _ {A : Type 0} (own : A → Bool) where
  abbrev pub AreGuarded : Forest A → Type 0
  AreGuarded Empty = Unit {0}
  AreGuarded (Node k a below beside) = (own a ≡ false → AllNodes (λ b. own b ≡ false) below) × AreGuarded below × AreGuarded beside

  -- the node of this number is the only root, and protected
  abbrev pub IsRooted : ℕ → Forest A → Type 0
  IsRooted top Empty = ⊥
  IsRooted top (Node k a below beside) = (k ≡ top) × (own a ≡ true) × (beside ≡ Empty)
