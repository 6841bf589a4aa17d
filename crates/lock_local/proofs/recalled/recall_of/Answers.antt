use Rattle.lock_local.proofs.Base.{ap, Some, sym, ◌∙◌}
use Rattle.lock_local.proofs.Lemmas.{at_place, no_place}
use Rattle.lock_local.proofs.recalled.recall_of.Goals as goal

pub returns-in-Ok : goal.returns-in-Ok
returns-in-Ok c = at_place c.args.owner c.args.recalled.now.items c.in-Ok.at c.index.result.now c.requires c.in-Ok.ensures ∙ ap Some (sym c.index.ensures)

pub returns-in-Err : goal.returns-in-Err
returns-in-Err c = no_place c.args.owner c.args.recalled.now.items c.in-Err.field-0 c.in-Err.ensures
