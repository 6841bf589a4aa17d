-- Portals are closed, and so many are left.
use Rattle.session_ends.proofs.Words.{portal_closed, none_left}
use Rattle.session_ends.proofs.Lemmas.{IsClosing}
use Rattle.session_ends.proofs.portals.close_portals.Given as goal

abbrev pub invariant-loop-portal : goal.invariant-loop-portal
invariant-loop-portal g l =
    IsClosing _ (λ o events p. g.E.Emit.emits o events p) portal_closed none_left l.left l.initial.store l.store l.initial.space l.space l.initial.shelf l.shelf l.initial.commons l.commons l.initial.out l.out

abbrev pub decreases-loop-portal : goal.decreases-loop-portal
decreases-loop-portal g l = l.left
