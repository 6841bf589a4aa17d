use Rattle.std.proofs.Common.{sym, subst}
use Rattle.addr_space.specs.Space.{HasBytes}
use Rattle.chunk_header.specs.declared.Header.{Header}
use Rattle.chunk_header.specs.Header.{block_bytes, block_place}
use Rattle.chunk_header.proofs.Words.{length-block_bytes}
use Rattle.any_ctx.proofs.marked.block_word.Goals as goal

pub word_at-requires : goal.word_at-requires
word_at-requires c =
    let context = c.requires.0 in
    let m = c.requires.1 in
    let same = c.requires.2 in
    (block_bytes context m.size, length-block_bytes context m.size, subst (λ (h : Header). HasBytes c.args.space.now (block_place c.args.at h) (block_bytes context m.size)) (sym same) m.block)

pub returns : goal.returns
returns c = λ context m same. c.word_at.ensures (block_bytes context m.size) (length-block_bytes context m.size) (subst (λ (h : Header). HasBytes c.args.space.now (block_place c.args.at h) (block_bytes context m.size)) (sym same) m.block)
