-- Names that lead to chunks.
use Rattle.context_tree.proofs.Base.{◌≡◌, ℕ, List, Option, Some}
use Rattle.context_tree.proofs.Words.{CtxId, Forest, ChunkId, Own, Kept, IsSound, IsChunk, stands_for, Leads}
use Rattle.context_tree.proofs.Names.{find_found}

-- what the map of a sound tree finds
pub leads : (kept : Forest Kept) (places : Forest ℕ) (find_context : List ℕ → Option CtxId) (find_chunk : List ℕ → Option ChunkId) (own : Own) (now : CtxId) (next next_entry account : ℕ)
    → IsSound kept places find_context find_chunk own now next next_entry → (w : List ℕ) (id : ChunkId) → find_chunk w ≡ Some id
    → Leads (record { kept = kept; places = places; account = account; current = now; next = next }) w id
unfolding stands_for
leads kept places find_context find_chunk own now next next_entry account sound w id is =
    let x : IsChunk kept places w id = sound.chunk_named w id is in
    record {
      chunk = x;
      sound = sound.each id.context.number x.context x.stands;
      found = λ s. find_found kept places find_context find_chunk own now next next_entry sound s w id x is;
    }
