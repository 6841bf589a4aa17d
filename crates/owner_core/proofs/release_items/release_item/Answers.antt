-- The warning leaves the table as it is, and the release follows it.
use Rattle.std.proofs.Common.{◌∷◌, refl}
use Rattle.pgs_step.specs.declared.events.What.TheVariants.{NotClosed}
use Rattle.owner_core.proofs.release_items.release_item.Goals as goal

pub returns-then-commit-clause-steps : goal.returns-then-commit-clause-steps
returns-then-commit-clause-steps g c =
    let done = c.give_back_item.ensures.steps in
    rw c.if-commit.true (
      NotClosed c.args.item c.args.owner ∷ done.0,
      g.met.R.Release.does_more _ _ _ _ _ _ _ _ _ (g.met.R.Release.does_said _ (NotClosed c.args.item c.args.owner)) done.1 refl refl,
      g.met.E.Emit.emits_more _ _ _ _ _ _ c.emit.ensures.emitted done.2 refl,
    )
