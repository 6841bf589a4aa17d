use Rattle.std.proofs.Common.{◌≡◌, Ok, ap, ◌∙◌}
use Rattle.std.specs.Int.{from_le_bytes, w64}
use Rattle.addr_space.specs.Space.{HasBytes}
use Rattle.chunk_header.specs.declared.Header.{Header}
use Rattle.chunk_header.specs.Header.{header_bytes, header_place, IsPackable}
use Rattle.chunk_header.proofs.Words.{length-header_bytes}
use Rattle.chunk_header.proofs.Known.{from-header_bytes}
use Rattle.chunk_header.proofs.reading.header_at.Goals as goal
use Rattle.chunk_header.proofs.reading.header_at.Goals.{After-unpack}

pub word_at-requires : goal.word_at-requires
word_at-requires c = let known = c.requires.known in (header_bytes known.0, length-header_bytes known.0, known.2)

-- a header that stands there is what the word says
unpacked : (c : goal.After-unpack) (header : Header) → IsPackable header → HasBytes c.args.space.now (header_place c.args.at) (header_bytes header) → c.unpack.result ≡ Ok header
unpacked c header packable has =
    let bytes = c.word_at.ensures (header_bytes header) (length-header_bytes header) has in
    c.unpack.ensures.packed header packable (c.from_le_bytes-word.ensures ∙ ap (from_le_bytes w64) bytes ∙ from-header_bytes header packable)

pub unreachable-requires : goal.unreachable-requires
unreachable-requires c =
    let known = c.requires.known in
    let ok = unpacked (goal.at.unreachable-requires c).After-unpack known.0 known.1 known.2 in absurd (cc)

pub returns : goal.returns
returns c = λ header packable has. let ok = unpacked (goal.at.returns c).After-unpack header packable has in cc (c.in-Ok.is)
