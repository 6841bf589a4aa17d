use Rattle.std.proofs.Common.{◌≡◌, ◌*◌, length, ap, ◌∙◌, arith}
use Rattle.temp_store.specs.Temp.{bytes_of}
use Rattle.row_files.proofs.RowLemmas.{length-rows}
use Rattle.row_files.proofs.rows_in.Goals as goal

pub returns : goal.returns
returns c = λ rows has.
    let len : c.len.result ≡ 8 * length rows = c.len.ensures ∙ ap (λ file. length (bytes_of file)) has.bytes ∙ length-rows rows in
    let eight : c.from.result ≡ 8 = c.from.ensures in
    rw eight (omega (arith, len))
