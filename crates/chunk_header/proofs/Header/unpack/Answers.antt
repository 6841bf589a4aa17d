use Rattle.std.proofs.Common.{ap, Ok, arith}
use Rattle.chunk_header.proofs.Words.{header_in-word, parts_of-word, kind_code-lt}
use Rattle.chunk_header.proofs.Header.unpack.Goals as goal

pub returns-in_default-clause-packed : goal.returns-in_default-clause-packed
returns-in_default-clause-packed c = λ h packable same.
    let parts = parts_of-word h c.args.word packable same in
    let code = kind_code-lt h.kind in
    let none = c.in_default.ensures.none in
    absurd (omega arith)

pub returns-clause-packed : goal.returns-clause-packed
returns-clause-packed c = λ h packable same. ap Ok (header_in-word c.in-Some.kind h c.args.word packable same c.in-Some.ensures.some)
