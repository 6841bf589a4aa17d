use Rattle.ctx_blocks.proofs.Base.{arith, marked_by}
use Rattle.ctx_blocks.proofs.Lemmas.{headed_by}
use Rattle.ctx_blocks.proofs.books.Books.header.Goals as goal

pub header_at-requires : goal.header_at-requires
header_at-requires c =
    let m = marked_by _ _ _ c.requires.agrees (headed_by _ c.requires.laid c.requires.kind _ _ c.requires.chunk.1) in
    record { behind = omega (arith, m.behind); known = (m.header, m.packable, m.word) }

pub returns : goal.returns
returns c = λ it found.
    let m = marked_by _ _ _ c.requires.agrees (headed_by _ c.requires.laid c.requires.kind _ _ found) in
    c.header_at.ensures m.header m.packable m.word
