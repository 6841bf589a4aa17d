use Rattle.lock_local.proofs.Base.{arith, sym, ◌∙◌}
use Rattle.lock_local.proofs.Lemmas.{remembers_lowered}
use Rattle.lock_local.proofs.recalled.forget_last.Goals as goal

pub returns-then-count-eq1-clause-remembers : goal.returns-then-count-eq1-clause-remembers
returns-then-count-eq1-clause-remembers c = λ xs ys h is none less. c.forget.ensures.remembers xs ys h (less (omega (arith, c.if-count-eq1.true))) (sym is ∙ c.if-count-eq1.true)

pub returns-else-count-eq1-clause-remembers : goal.returns-else-count-eq1-clause-remembers
returns-else-count-eq1-clause-remembers c = λ xs ys h is none less. remembers_lowered c.args.recalled.now.items xs ys c.args.owner c.args.object c.args.mode c.args.count h is none less c.if-count-eq1.false
