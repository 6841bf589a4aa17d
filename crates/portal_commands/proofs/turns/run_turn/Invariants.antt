use Rattle.portal_commands.proofs.Words.{Scan, now, IsAt, IsFetching}
use Rattle.portal_commands.proofs.Lemmas.{IsTurning, steps_left}
use Rattle.portal_commands.proofs.turns.run_turn.Given as goal

-- the portal is at its place, and what is done of the turn and what remains is all of it
abbrev pub invariant-loop-error : goal.invariant-loop-error
invariant-loop-error g l =
    IsAt l.portal.name l.portal.place l.store
    × ((first : Scan) → IsFetching l.portal.name first (now l.initial.store l.initial.shared) → IsTurning l.portal.name first l.begins (now l.initial.store l.initial.shared) (now l.store l.shared) (λ events. g.E.Emit.emits l.initial.out events l.out))

abbrev pub decreases-loop-error : goal.decreases-loop-error
decreases-loop-error g l = steps_left l.begins l.portal.name l.store
