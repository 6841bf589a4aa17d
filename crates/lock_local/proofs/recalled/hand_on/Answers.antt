use Rattle.lock_local.proofs.Base.{arith}
use Rattle.lock_local.proofs.Lemmas.{remembers_alone}
use Rattle.lock_local.proofs.recalled.hand_on.Goals as goal

pub returns-then-len-eq1-clause-remembers : goal.returns-then-len-eq1-clause-remembers
returns-then-len-eq1-clause-remembers c = λ xs ys h both.
    remembers_alone xs ys c.args.from c.args.to both c.args.recalled.now.items c.index_mut-only.result.now c.rename.new.self
    (omega (arith, c.len.ensures, c.if-len-eq1.true, c.args.recalled.now.ok.0)) c.index_mut-only.ensures.value c.rename.ensures h
