use Rattle.std.proofs.Common.{◌≡◌, ℕ, List, false, ◌++◌, ◌∷◌, [], ◌∙◌, ap, sym}
use Rattle.file_table.specs.Descriptors.{is_among}
use Rattle.file_table.specs.Files.{Files}
use Rattle.file_table.proofs.Sound.{table, IsSound_opened, IsSound_at}
use Rattle.file_table.proofs.files.FileTable.open_file.Goals as goal

pub invariant_of-self-in-Ok : goal.invariant_of-self-in-Ok
invariant_of-self-in-Ok g c =
    let new : is_among c.args.file c.self.inside.opened.files ≡ false = ap (λ (f : Files). is_among c.args.file f.opened) c.self.view_is ∙ sym c.is_open.ensures ∙ c.if-is_open.false in
    let items : c.push.new.self.files ≡ c.self.inside.opened.files ++ c.args.file ∷ [] = c.push.ensures ∙ ap (λ (os : List ℕ). os ++ c.args.file ∷ []) c.reserve.ensures.files in
    IsSound_at _ _ _ _ c.in-Ok.ensures.given items
    (IsSound_opened (table c.self.inside.descriptors c.self.inside.opened.files) c.args.file c.self.invariant new (λ full. c.if-len-eq-MAX_FILES.false (c.len.ensures ∙ full)))
