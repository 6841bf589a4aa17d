use Rattle.std.proofs.Common.{◌≡◌, ◌*◌, length, get_or, take, drop, Some, sym, ap, ◌∙◌, arith}
use Rattle.temp_store.specs.Temp.{bytes_of, file_at}
use Rattle.agg_rules.specs.declared.Row.{Row}
use Rattle.row_files.specs.RowBytes.{row_bytes}
use Rattle.row_files.proofs.RowLemmas.{length-rows, bytes_at, slice_get-at}
use Rattle.row_files.proofs.row_at.Goals as goal

pub read-requires-clause-inside : goal.read-requires-clause-inside
read-requires-clause-inside c =
    let len : length (bytes_of (file_at c.args.temp.now c.args.file)) ≡ 8 * length c.requires.0 = ap (λ file. length (bytes_of file)) c.requires.1.bytes ∙ length-rows c.requires.0 in
    let at : c.from.result * c.from-2.result ≡ 8 * c.args.place = ap (λ n. c.from.result * n) c.from-2.ensures ∙ omega (arith, c.from.ensures) in
    omega (arith, len, c.requires.2, at)

pub returns : goal.returns
returns c = λ rows has below.
    let d : Row = c.row_of.result in
    let row : Row = get_or rows c.args.place d in
    let at : c.from.result * c.from-2.result ≡ 8 * c.args.place = ap (λ n. c.from.result * n) c.from-2.ensures ∙ omega (arith, c.from.ensures) in
    let read : c.read.new.out ≡ row_bytes row = c.read.ensures ∙ ap (λ n. take 8 (drop n (bytes_of (file_at c.args.temp.now c.args.file)))) at ∙ ap (λ file. take 8 (drop (8 * c.args.place) (bytes_of file))) has.bytes ∙ bytes_at rows c.args.place d below in
    slice_get-at rows c.args.place d below ∙ ap Some (sym (c.row_of.ensures row (has.numbers c.args.place d below) read))
