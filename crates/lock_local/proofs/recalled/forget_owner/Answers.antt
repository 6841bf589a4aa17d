use Rattle.lock_local.proofs.Lemmas.{remembers_nothing}
use Rattle.lock_local.proofs.recalled.forget_owner.Goals as goal

pub returns-clause-remembers : goal.returns-clause-remembers
returns-clause-remembers c = λ xs ys h nothing. remembers_nothing c.args.recalled.now.items c.take_out.new.recalled.items xs ys c.args.owner h nothing c.take_out.ensures.left
