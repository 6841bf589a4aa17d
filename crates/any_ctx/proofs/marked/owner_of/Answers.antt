use Rattle.std.proofs.Common.{ℕ, List, [], ◌∷◌, slice_index, ap, ◌∙◌, arith}
use Rattle.std.specs.Int.{from_le_bytes, w32}
use Rattle.std.proofs.lemmas.Nat.{from_le_bytes-to_le_bytes_4}
use Rattle.chunk_header.specs.Header.{block_bytes}
use Rattle.any_ctx.proofs.marked.owner_of.Goals as goal
use Rattle.chunk_header.proofs.Marks.{marked_by}

pub header_at-requires-clause-behind : goal.header_at-requires-clause-behind
header_at-requires-clause-behind c = omega (arith, c.requires.1.behind)

pub header_at-requires-clause-known : goal.header_at-requires-clause-known
header_at-requires-clause-known c = let m = c.requires.1 in (m.header, m.packable, m.word)

pub block_word-word-requires : goal.block_word-word-requires
block_word-word-requires c =
    let m = c.requires.1 in
    (c.requires.0, m, c.header_at.ensures m.header m.packable m.word)

pub returns-clause-marked : goal.returns-clause-marked
unfolding block_bytes
returns-clause-marked c = λ context below m.
    let word = c.block_word-word.ensures context m (c.header_at.ensures m.header m.packable m.word) in
    c.from_le_bytes.ensures
    ∙ ap (λ (w : List ℕ). from_le_bytes w32 (slice_index w 0 ∷ slice_index w 1 ∷ slice_index w 2 ∷ slice_index w 3 ∷ [])) word
    ∙ from_le_bytes-to_le_bytes_4 context below

pub returns-clause-live : goal.returns-clause-live
returns-clause-live c = λ f below agrees headed. returns-clause-marked c f.context below (marked_by f c.args.space.now c.args.at agrees headed)
