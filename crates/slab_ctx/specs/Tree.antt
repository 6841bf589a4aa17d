-- A tree of entries over places.
use Rattle.std.specs.Prelude.{◌≡◌, ◌≢◌, ℕ, ◌+◌, ◌*◌, ◌<◌, ◌≤◌, ◌⊎◌, Option, Some, None, get_or, length}
use Rattle.slab_ctx.specs.declared.tree.Rank.{Rank}
use Rattle.slab_ctx.specs.declared.tree.Entry.{Entry}
use Rattle.slab_ctx.specs.declared.tree.Tree.{Tree}

-- a rank is at most another one
abbrev pub IsAtMost : Rank → Rank → Type 0
IsAtMost a b = (a.major < b.major) ⊎ ((a.major ≡ b.major) × (a.minor ≤ b.minor))

-- an entry has at most the rank of another one, and there is one where there is that
abbrev pub Leads : Option Entry → Option Entry → Type 0
Leads a None = Unit {0}
Leads None (Some b) = ⊥
Leads (Some a) (Some b) = IsAtMost a.rank b.rank

-- the lesser of two
pub record IsLesser (a b c : Option Entry) : Type 0 where
  pub one : (c ≡ a) ⊎ (c ≡ b)
  pub left : Leads c a
  pub right : Leads c b

abbrev pub node : Tree → ℕ → Option Entry
node t k = get_or t.nodes.items k None

abbrev pub leaf : Tree → ℕ → Option Entry
leaf t p = node t (t.places + p)

-- each node has the lesser of the two below it
pub record IsTree (t : Tree) : Type 0 where
  pub long : length t.nodes.items ≡ 2 * t.places
  pub lesser : (j : ℕ) → 1 ≤ j → j < t.places → IsLesser (node t (2 * j)) (node t (2 * j + 1)) (node t j)

-- but for the node above one
pub record IsTreeBut (t : Tree) (k : ℕ) : Type 0 where
  pub long : length t.nodes.items ≡ 2 * t.places
  pub lesser : (j : ℕ) → 1 ≤ j → j < t.places → 2 * j ≢ k → 2 * j + 1 ≢ k → IsLesser (node t (2 * j)) (node t (2 * j + 1)) (node t j)
