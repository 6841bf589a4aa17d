use Rattle.std.proofs.Common.{◌≡◌, false, sym, ap, ◌∙◌}
use Rattle.std.proofs.lemmas.Bool.{OnFalse_from}
use Rattle.file_table.specs.Descriptors.{is_among}
use Rattle.file_table.specs.Kept.{KeptFiles}
use Rattle.file_table.proofs.FileLists.{without_missing}
use Rattle.file_table.proofs.KeptLemmas.{kept_closed}
use Rattle.file_table.proofs.opened.OpenedFiles.remove.Goals as goal

pub invariant_of-self : goal.invariant_of-self
invariant_of-self c = rw c.but-order.ensures (kept_closed c.self.inside.files.keys c.remove-had.new.self.keys c.self.inside.order.files c.args.file c.self.invariant c.remove-had.ensures.updates.0)

pub returns-clause-kept : goal.returns-clause-kept
returns-clause-kept c = OnFalse_from _ _ (λ no.
    let none : is_among c.args.file c.self.inside.order.files ≡ false = sym (c.self.invariant.same c.args.file) ∙ sym c.remove-had.ensures.test ∙ no in
    c.but-order.ensures ∙ without_missing c.args.file c.self.inside.order.files none ∙ ap (λ (k : KeptFiles). k.files) c.self.view_is)
