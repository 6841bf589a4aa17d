use Rattle.std.proofs.Common.{ℕ, List, [], ◌∷◌, slice_index, ap, ◌∙◌}
use Rattle.std.specs.Int.{from_le_bytes, w32}
use Rattle.std.proofs.lemmas.Nat.{from_le_bytes-to_le_bytes_4}
use Rattle.chunk_header.specs.Header.{block_bytes}
use Rattle.any_ctx.proofs.marked.block_size.Goals as goal

pub returns : goal.returns
unfolding block_bytes
returns c = λ context m same below.
    let word = c.block_word-word.ensures context m same in
    c.from_le_bytes.ensures
    ∙ ap (λ (w : List ℕ). from_le_bytes w32 (slice_index w 4 ∷ slice_index w 5 ∷ slice_index w 6 ∷ slice_index w 7 ∷ [])) word
    ∙ from_le_bytes-to_le_bytes_4 m.size below
