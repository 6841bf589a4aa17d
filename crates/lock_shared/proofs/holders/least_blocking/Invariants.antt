use Rattle.lock_shared.proofs.Base.{take}
use Rattle.lock_shared.proofs.Words.{IsLeastOf}
use Rattle.lock_shared.proofs.holders.least_blocking.Given as goal

abbrev pub invariant-loop-held : goal.invariant-loop-held
invariant-loop-held l = IsLeastOf (take l.held-index l.holdings) l.object l.wanted l.session l.least
