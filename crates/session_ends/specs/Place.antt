-- The place of a session's contexts in a release: a tree of them, the space that they lie in, and the shelf of hooks.
use Rattle.std.specs.Prelude.{◌≡◌, ◌≢◌, ℕ, true}
use Rattle.addr_space.specs.Space.{Space, Asks}
use Rattle.forest.specs.Forest.{Empty, Once, children, has}
use Rattle.pgs_step.specs.declared.ids.CtxId.{CtxId}
use Rattle.reset_callbacks.specs.ShelfState.{ShelfState}
use Rattle.context_tree.specs.State.{TreeState, Agrees, HooksFit, IsLive, Moves, place_of, stands_for}
use Rattle.session_owners.specs.Fitting.{Hosting}

-- the contexts and the hooks of a place
abbrev pub hosting : TreeState → Space → ShelfState → Hosting
hosting tree s x = record { contexts = stands_for tree s; shelf = x }

-- The context can go: the space and the shelf fit the tree, the context is there, nothing is below it, and it isn't the current one.
pub record CanGo (tree : TreeState) (s : Space) (x : ShelfState) (id : CtxId) : Type 0 where
  pub agrees : Agrees tree s
  pub hooks : HooksFit (stands_for tree s) x
  pub once : Once (stands_for tree s)
  pub live : IsLive tree id
  pub there : has id.number (stands_for tree s) ≡ true
  pub lone : children id.number (stands_for tree s) ≡ Empty
  pub other : tree.current.number ≢ id.number

-- Contexts of plans have gone: nothing was asked of the space, which keeps what isn't the tree's, and what is there was there and lies
-- where it lay.
pub record HaveGone (a b : TreeState) (s t : Space) : Type 0 where
  pub moves : Moves a b s t
  pub asked : Asks a.account 0 s t
  pub had : (n : ℕ) → has n b.kept ≡ true → has n a.kept ≡ true
  pub stays : (n : ℕ) → has n b.kept ≡ true → place_of b n ≡ place_of a n
  pub current : b.current ≡ a.current
  pub next : b.next ≡ a.next

-- the same of a space that fits the tree
abbrev pub GoesOn : TreeState → TreeState → Space → Space → Type 0
GoesOn a b s t = Agrees a s → HaveGone a b s t
