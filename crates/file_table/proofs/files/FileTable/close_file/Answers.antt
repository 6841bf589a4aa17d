use Rattle.std.proofs.Common.{◌≡◌, ℕ, ◌+◌, List, cond, nat_eq, ap, sym, subst, ◌∙◌}
use Rattle.file_table.specs.Files.{Files, opens}
use Rattle.file_table.proofs.FileCounts.{times, times_without}
use Rattle.file_table.proofs.Sound.{table, IsSound_closed, IsSound_at}
use Rattle.file_table.proofs.files.FileTable.close_file.Goals as goal

pub invariant_of-self-2 : goal.invariant_of-self-2
invariant_of-self-2 g c = IsSound_at _ _ _ _ c.take_back.ensures.after c.remove.ensures.removed (IsSound_closed (table c.self.inside.descriptors c.self.inside.opened.files) c.args.file c.self.invariant)

pub returns-clause-counts : goal.returns-clause-counts
returns-clause-counts g c = λ f.
    let P : Files → Type 0 = λ t. times f c.remove.new.self.files + cond (nat_eq c.args.file f) 1 0 ≡ opens t f in
    subst P c.self.view_is (ap (λ (xs : List ℕ). times f xs + cond (nat_eq c.args.file f) 1 0) c.remove.ensures.removed ∙ times_without f c.args.file c.self.inside.opened.files (sym c.remove.ensures.had ∙ c.if-not-remove.false))
