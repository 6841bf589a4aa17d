use Rattle.std.proofs.Common.{ap, sym, ◌∙◌}
use Rattle.std.specs.Prelude.{position}
use Rattle.pin_table.proofs.Places.{is_entry, remove_placed, remove_missed}
use Rattle.pin_table.proofs.private.free_place.Goals as goal

pub returns-in-Some : goal.returns-in-Some
returns-in-Some c =
    c.remove.ensures.items
    ∙ remove_placed c.args.buffer c.args.few.now.items c.place_of.result (c.place_of.ensures ∙ ap (position (is_entry c.args.buffer)) c.as_slice.ensures.value) c.in-Some.at c.in-Some.is

pub returns-in_default : goal.returns-in_default
returns-in_default c =
    sym (remove_missed c.args.buffer c.args.few.now.items c.place_of.result (c.place_of.ensures ∙ ap (position (is_entry c.args.buffer)) c.as_slice.ensures.value) c.in_default.is)
