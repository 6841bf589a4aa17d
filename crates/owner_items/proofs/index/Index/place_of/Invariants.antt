use Rattle.owner_items.specs.Index.{Passes}
use Rattle.owner_items.proofs.index.Index.place_of.Given as goal

abbrev pub invariant-loop-steps : goal.invariant-loop-steps
invariant-loop-steps l = Passes l.kind l.key l.slots.items l.steps
