-- The event leaves the table as it is, and what `give_back` did follows it.
use Rattle.std.proofs.Common.{◌∷◌, refl}
use Rattle.pgs_step.specs.declared.events.What.TheVariants.{Release}
use Rattle.owner_core.proofs.release_items.give_back_item.Goals as goal

pub returns-clause-steps : goal.returns-clause-steps
returns-clause-steps g c =
    let done = c.give_back.ensures.done in (
      Release c.args.item c.args.owner ∷ done.0,
      g.met.R.Release.does_more _ _ _ _ _ _ _ _ _ (g.met.R.Release.does_said _ (Release c.args.item c.args.owner)) done.1 refl refl,
      g.met.E.Emit.emits_more _ _ _ _ _ _ c.emit.ensures.emitted done.2 refl,
    )
