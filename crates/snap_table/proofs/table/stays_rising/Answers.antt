use Rattle.std.proofs.Common.{◌≡◌, ◌-◌, ◌≤◌, Some, length, sym, ap, ◌∙◌, arith}
use Rattle.std.specs.List.{slice_get}
use Rattle.std.specs.Option.{option_copied}
use Rattle.std.proofs.lemmas.Bool.Decides.{nat_tests}
use Rattle.std.proofs.lemmas.Option.{get_or_from_slice_get}
use Rattle.snap_table.specs.declared.active.Active.{Active}
use Rattle.snap_table.proofs.StackLemmas.{rising_pushed}
use Rattle.snap_table.proofs.table.stays_rising.Goals as goal

pub returns-then-rising : goal.returns-then-rising
returns-then-rising c snapshot known =
    let newest : Active = c.in-Some.newest.now in
    let read : slice_get c.args.stack.now (length c.args.stack.now - 1) ≡ Some c.in-Some.newest.now = sym c.last.ensures.value ∙ ap option_copied c.in-Some.is in
    let low : c.in-Some.newest.now.level ≤ c.args.level = grind (arith, nat_tests, known) in
    rising_pushed c.args.stack.now (record { snapshot = snapshot; level = c.args.level }) newest (c.requires c.if-rising.true) (get_or_from_slice_get c.args.stack.now (length c.args.stack.now - 1) newest newest read) low
