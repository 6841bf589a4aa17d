-- Portals are settled, and so many are left.
use Rattle.session_ends.proofs.Lemmas.{IsSettling}
use Rattle.session_ends.proofs.portals.settle_portals.Given as goal

abbrev pub invariant-loop-portal : goal.invariant-loop-portal
invariant-loop-portal g l =
    IsSettling _ (λ o events p. g.E.Emit.emits o events p) l.end l.level l.left l.initial.store l.store l.initial.space l.space l.initial.shelf l.shelf l.initial.out l.out

abbrev pub decreases-loop-portal : goal.decreases-loop-portal
decreases-loop-portal g l = l.left
