use Rattle.std.proofs.Common.{◌≡◌, false, true, ◌∙◌, ap, sym, refl}
use Rattle.file_table.specs.Descriptors.{is_among}
use Rattle.file_table.specs.Files.{Files}
use Rattle.file_table.proofs.Sound.{table, IsSound_in_front, IsSound_at, IsSound_used, not_in_front}
use Rattle.file_table.proofs.files.FileTable.touch.Goals as goal
use Rattle.file_table.proofs.files.FileTable.touch.Goals.{in-Ok, in-Err}

pub invariant_of-self : goal.invariant_of-self
invariant_of-self g c = IsSound_at _ _ _ _ c.touch.ensures.after refl (IsSound_in_front (table c.self.inside.descriptors c.self.inside.opened.files) c.args.file c.self.invariant)

pub invariant_of-self-2 : goal.invariant_of-self-2
invariant_of-self-2 g c =
    let here : is_among c.args.file c.self.inside.opened.files ≡ true = ap (λ (f : Files). is_among c.args.file f.opened) c.self.view_is ∙ sym c.is_open.ensures ∙ c.if-not-is_open.false in
    let none : is_among c.args.file c.self.inside.descriptors.recent ≡ false = sym c.touch.ensures.had ∙ c.if-touch.false in
    let same : c.touch.new.self ≡ c.self.inside.descriptors = not_in_front c.self.inside.descriptors c.touch.new.self c.args.file c.touch.ensures.after none in
    elim c.match-give.branch [
      | in-Ok w ↦ IsSound_used c.self.inside.descriptors c.touch.new.self c.give.new.self c.self.inside.opened.files c.args.file c.self.invariant here none same w.in-Ok.ensures.given
      | in-Err w ↦ IsSound_at c.self.inside.descriptors c.give.new.self c.self.inside.opened.files c.self.inside.opened.files (w.in-Err.ensures.err ∙ same) refl c.self.invariant
    ]
