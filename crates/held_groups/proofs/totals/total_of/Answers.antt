use Rattle.std.proofs.Common.{◌∙◌, arith}
use Rattle.held_groups.proofs.TotalLemmas.{numbers_read, same_total_from}
use Rattle.held_groups.proofs.totals.total_of.Goals as goal

pub overflow_cast-result : goal.overflow_cast-result
overflow_cast-result c =
    let read = numbers_read c.requires.0 c.args.bytes c.requires.1 c.requires.2 in
    omega (arith, c.from_le_bytes-group.ensures ∙ read.0, c.requires.1.0)

pub returns : goal.returns
returns c = λ total fits is.
    let read = numbers_read total c.args.bytes fits is in
    same_total_from total c.from_le_bytes-group.result c.from_le_bytes-count.result c.from_le_bytes-sum.result
    (c.from_le_bytes-group.ensures ∙ read.0) (c.from_le_bytes-count.ensures ∙ read.1) (c.from_le_bytes-sum.ensures ∙ read.2)
