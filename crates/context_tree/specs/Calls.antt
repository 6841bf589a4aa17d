-- What calls make of a tree, its space and the shelf of hooks.
use Rattle.std.specs.Prelude.{◌≡◌, ℕ, true}
use Rattle.addr_space.specs.Space.{Space, Asks}
use Rattle.forest.specs.Forest.{has}
use Rattle.reset_callbacks.specs.ShelfState.{ShelfState}
use Rattle.context_rules.specs.Ends.{Ended, handed_in}
use Rattle.context_tree.specs.State.{TreeState, place_of, stands_for, Moves, HooksFit}

-- Contexts went or were reset: the tree and the space stand for these contexts then, the hooks that ran are spent, the
-- space keeps what isn't the tree's, nothing was asked of it, and what stands is where it was.
pub record Did (ended : Ended) (a b : TreeState) (s t : Space) (x y : ShelfState) : Type 0 where
  pub contexts : stands_for b t ≡ ended.contexts
  pub shelf : y ≡ handed_in ended.hooks x
  pub hooks : HooksFit ended.contexts y
  pub moves : Moves a b s t
  pub asked : Asks a.account 0 s t
  pub stays : (n : ℕ) → has n ended.contexts ≡ true → place_of b n ≡ place_of a n
  pub current : b.current ≡ a.current
  pub next : b.next ≡ a.next

-- nothing changed
pub record DidNothing (a b : TreeState) (s t : Space) (x y : ShelfState) : Type 0 where
  pub tree : b ≡ a
  pub space : t ≡ s
  pub shelf : y ≡ x
