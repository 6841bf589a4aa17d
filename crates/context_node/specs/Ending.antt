-- What becomes of a context that is reset or goes, and of the names of its chunks.
use Rattle.std.specs.Prelude.{◌≡◌, ◌||◌, ℕ, Bool, true, false, List, [], Option, None, if◌then◌else◌}
use Rattle.std.specs.Option.{option_map_or}
use Rattle.pgs_step.specs.declared.ids.CtxId.{CtxId}
use Rattle.addr_space.specs.Space.{Space, Asks}
use Rattle.addr_space.specs.Footprint as foot
use Rattle.forest.specs.Forest.{Forest, Empty, Node}
use Rattle.reset_callbacks.specs.ShelfState.{ShelfState}
use Rattle.any_ctx.specs.Ledgers as ledgers
use Rattle.any_ctx.specs.Contexts.{footprint, ledger}
use Rattle.context_rules.specs.Ends.{handed_in}
use Rattle.context_node.specs.declared.chunk_id.ChunkId.{ChunkId}
use Rattle.context_node.specs.declared.entry.Entry.{Entry}
use Rattle.context_node.specs.Kept.{Kept}
use Rattle.context_node.specs.Soundness.{same}

-- whether a chunk of these has the name
abbrev pub is_named : List ℕ → Forest Entry → Bool
is_named w Empty = false
is_named w (Node c e below beside) = option_map_or (λ name. same name w) e.name false || (is_named w below || is_named w beside)

-- a map of names without those of these chunks
abbrev pub left_names : Forest Entry → (List ℕ → Option ChunkId) → List ℕ → Option ChunkId
left_names chunks find w = if is_named w chunks then None else find w

-- a map of names without that of a context, unless it is protected
abbrev pub without_context : Bool → List ℕ → (List ℕ → Option CtxId) → List ℕ → Option CtxId
without_context true name find w = find w
without_context false name find w = if same name w then None else find w

-- The context is as one that was just made: its chunks went with their names, and its hooks, which ran, were handed in.
pub record Cleared (k l : Kept) (s t : Space) (x y : ShelfState) (find left : List ℕ → Option ChunkId) : Type 0 where
  pub now : l ≡ record k { used = false; memory = l.memory; chunks = Empty; chunk_places = Empty; hooks = [] }
  pub renewed : ledger l.memory ≡ ledgers.reset (ledger k.memory)
  pub moves : foot.Moves (footprint k.memory) (footprint l.memory) s t
  pub asked : Asks (footprint k.memory).account 0 s t
  pub total : (footprint l.memory).total ≡ (ledgers.stats (ledger l.memory)).total
  pub shelf : y ≡ handed_in k.hooks x
  pub names : (w : List ℕ) → left w ≡ left_names k.chunks find w

-- The context has nothing in the space: its chunks went with their names, and its hooks, which ran, were handed in.
pub record Gone (k : Kept) (s t : Space) (x y : ShelfState) (find left : List ℕ → Option ChunkId) : Type 0 where
  pub moves : foot.Moves (footprint k.memory) (foot.nothing (footprint k.memory).account (footprint k.memory).context) s t
  pub asked : Asks (footprint k.memory).account 0 s t
  pub shelf : y ≡ handed_in k.hooks x
  pub names : (w : List ℕ) → left w ≡ left_names k.chunks find w
