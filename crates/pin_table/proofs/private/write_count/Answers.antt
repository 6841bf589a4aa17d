use Rattle.std.proofs.Common.{ap, sym, ◌∙◌, ℕ, set}
use Rattle.std.specs.Prelude.{position}
use Rattle.pin_table.proofs.Places.{is_entry, set_placed, set_missed}
use Rattle.pin_table.proofs.private.write_count.Goals as goal

pub returns-in-Some-get_mut : goal.returns-in-Some-get_mut
returns-in-Some-get_mut c =
    ap (λ (e : ℕ × ℕ). set c.args.few.now.items c.in-Some.at (e.0, c.args.count)) c.in-Some-get_mut.ensures.value
    ∙ set_placed c.args.buffer c.args.few.now.items c.place_of.result (c.place_of.ensures ∙ ap (position (is_entry c.args.buffer)) c.as_slice.ensures.value) c.in-Some.at c.in-Some-get_mut.entry.now c.args.count c.in-Some.is

pub returns-in_default : goal.returns-in_default
returns-in_default c =
    sym (set_missed c.args.buffer c.args.few.now.items c.place_of.result (c.place_of.ensures ∙ ap (position (is_entry c.args.buffer)) c.as_slice.ensures.value) c.args.count c.in_default.is)
