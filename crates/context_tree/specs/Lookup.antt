-- A name that leads to a chunk.
use Rattle.std.specs.Prelude.{◌≡◌, List, ℕ, Some}
use Rattle.addr_space.specs.Space.{Space}
use Rattle.any_ctx.specs.Contexts.{ledger}
use Rattle.context_rules.specs.Contexts as rules
use Rattle.context_node.specs.declared.chunk_id.ChunkId.{ChunkId}
use Rattle.context_node.specs.Soundness.{IsSoundContext}
use Rattle.context_tree.specs.Soundness.{IsChunk}
use Rattle.context_node.specs.State.{chunk_of}
use Rattle.context_tree.specs.State.{TreeState, stands_for}

-- the chunk of this name is there, and it is what the contexts have by the name, in any space
pub record Leads (tree : TreeState) (word : List ℕ) (id : ChunkId) : Type 0 where
  pub chunk : IsChunk tree.kept tree.places word id
  pub sound : IsSoundContext chunk.context
  pub found : (s : Space) → rules.found word (stands_for tree s) ≡ Some (record { context = id.context.number; ledger = ledger chunk.context.memory; chunk = chunk_of s chunk.context.memory chunk.entry })
