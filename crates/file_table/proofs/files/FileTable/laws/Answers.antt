use Rattle.std.proofs.Common.{◌≡◌, ℕ, length, cond, nat_eq, subst}
use Rattle.std.specs.Set.{distinct_count}
use Rattle.file_table.specs.Descriptors.{is_among}
use Rattle.file_table.specs.Files.{Files, opens}
use Rattle.file_table.proofs.FileCounts.{times_once, alike_length, different_length}
use Rattle.file_table.proofs.files.FileTable.laws.Goals as goal

pub returns-clause-open : goal.returns-clause-open
returns-clause-open c = λ file.
    let P : Files → Type 0 = λ t. opens t file ≡ cond (is_among file t.opened) 1 0 in
    subst P c.self.view_is (times_once file c.self.inside.opened.files c.self.invariant.distinct)

pub returns-clause-different : goal.returns-clause-different
returns-clause-different c = λ files.
    let P : Files → Type 0 = λ t. ((file : ℕ) → is_among file files ≡ is_among file t.opened) → length t.opened ≡ distinct_count nat_eq files in
    subst P c.self.view_is (different_length c.self.inside.opened.files files c.self.invariant.distinct)

pub returns-clause-length : goal.returns-clause-length
returns-clause-length c = λ files alike. alike_length c.args.self.now.opened files alike
