use Rattle.std.proofs.Common.{◌≡◌, Some, None, [], arith, ap, ◌∙◌, get_or}
use Rattle.temp_store.specs.Temp.{held, size_of}
use Rattle.temp_store.proofs.Sums.{IsSound-added, sum_by-changed, size_of-none, size_of-file}
use Rattle.temp_store.proofs.store.TempStore.make.Goals as goal

pub invariant_of-self-2 : goal.invariant_of-self-2
invariant_of-self-2 c =
    let made = c.in-Some.ensures in
    IsSound-added c.self.inside.files.slots c.admit.new.files.slots c.in-Some.file c.self.inside.held c.self.inside.limit made.fresh (made.stored ∙ ap Some c.empty.ensures) made.others c.self.invariant

pub returns-clause-held : goal.returns-clause-held
unfolding held
returns-clause-held c =
    let old = c.self.inside.files.slots in
    let new = c.admit.new.files.slots in
    let made = c.in-Some.ensures in
    let now : get_or new c.in-Some.file None ≡ Some [] = made.stored ∙ ap Some c.empty.ensures in
    omega (arith, ap held c.self.view_is, sum_by-changed size_of size_of-none old new c.in-Some.file made.others, ap size_of made.fresh, ap size_of now, size_of-none, size_of-file (Some []))
