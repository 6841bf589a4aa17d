use Rattle.std.proofs.Common.{ap, length, ◌∙◌}
use Rattle.file_table.specs.Kept.{KeptFiles}
use Rattle.file_table.proofs.KeptLemmas.{kept_length}
use Rattle.file_table.proofs.opened.OpenedFiles.len.Goals as goal

pub returns : goal.returns
returns c = c.len.ensures.len ∙ kept_length c.self.inside.files.keys c.self.inside.order.files c.self.invariant c.len.ensures.unique ∙ ap (λ (k : KeptFiles). length k.files) c.self.view_is
