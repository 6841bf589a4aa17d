use Rattle.std.proofs.Common.{◌-◌, None, arith}
use Rattle.std.proofs.lemmas.Grind.{common_steps}
use Rattle.temp_store.proofs.Sums.{length-le-held, IsSound-set, held-dropped}
use Rattle.temp_store.proofs.store.TempStore.drop_file.Goals as goal

pub overflow_sub-self : goal.overflow_sub-self
overflow_sub-self c =
    omega (arith, c.self.invariant.total, c.len.ensures, length-le-held c.self.inside.files.slots c.args.file c.remove-gone.result c.remove-gone.ensures.value)

pub invariant_of-self : goal.invariant_of-self
invariant_of-self c =
    let slots = c.self.inside.files.slots in
    let le = length-le-held slots c.args.file c.remove-gone.result c.remove-gone.ensures.value in
    rw c.remove-gone.ensures.slots (IsSound-set slots c.args.file c.remove-gone.result c.remove-gone.ensures.value None c.self.inside.held (c.self.inside.held - c.len.result) c.self.inside.limit c.self.invariant
    (omega (arith, c.self.invariant.total, c.len.ensures, le)) (omega (arith, c.self.invariant.within)))

pub returns-clause-held : goal.returns-clause-held
returns-clause-held c = held-dropped c.args.self.now _ c.args.file (grind (arith, common_steps))
