use Rattle.std.proofs.Common.{◌∙◌}
use Rattle.row_files.proofs.RowLemmas.{numbers_read, same_row_from}
use Rattle.row_files.proofs.row_of.Goals as goal

pub returns : goal.returns
returns c = λ row fits is.
    let read = numbers_read row c.args.bytes fits is in
    same_row_from (record { group = c.from_le_bytes.result; value = c.from_le_bytes-2.result }) row (c.from_le_bytes.ensures ∙ read.0) (c.from_le_bytes-2.ensures ∙ read.1)
