-- What holds of a context at all times, whatever the space.
use Rattle.std.specs.Prelude.{◌≡◌, ◌≢◌, ℕ, ◌≤◌, ◌==◌, Bool, true, List, Some, IsSome}
use lib.Pointwise.{pointwise}
use Rattle.forest.specs.Forest.{Forest, Empty, Node, Once, has, at}
use Rattle.any_ctx.specs.Ledgers.{stats}
use Rattle.any_ctx.specs.Contexts.{footprint, ledger, place_at}
use Rattle.context_node.specs.declared.entry.Entry.{Entry}
use Rattle.context_node.specs.Kept.{Kept}

-- whether two names are one, as maps compare them
abbrev pub same : List ℕ → List ℕ → Bool
same = pointwise ◌==◌

-- no entry is below another one
abbrev pub AreFlat : Forest Entry → Type 0
AreFlat Empty = Unit {0}
AreFlat (Node n e below beside) = (below ≡ Empty) × AreFlat beside

-- each chunk that is kept is live, known no further than its size, and no two of one context have one number or one
-- address
pub record IsSoundContext (k : Kept) : Type 0 where
  pub flat : AreFlat k.chunks
  pub once : Once k.chunks
  pub numbers : (c : ℕ) → has c k.chunk_places ≡ true → has c k.chunks ≡ true
  pub live : (c : ℕ) (e : Entry) → at c k.chunks ≡ Some e → (footprint k.memory).live e.at ≡ Some e.size
  pub placed : (c : ℕ) (e : Entry) → at c k.chunks ≡ Some e → IsSome (place_at k.memory e.at)
  pub known : (c : ℕ) (e : Entry) → at c k.chunks ≡ Some e → e.known ≤ e.size
  pub differ : (b c : ℕ) (d e : Entry) → b ≢ c → at b k.chunks ≡ Some d → at c k.chunks ≡ Some e → d.at ≢ e.at
  pub total : (footprint k.memory).total ≡ (stats (ledger k.memory)).total
