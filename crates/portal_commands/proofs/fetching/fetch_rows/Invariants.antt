use Rattle.portal_commands.proofs.Base.{◌-◌}
use Rattle.portal_commands.proofs.Words.{Scan, now, IsAt, IsFetching}
use Rattle.portal_commands.proofs.Lemmas.{IsRunning}
use Rattle.portal_commands.proofs.fetching.fetch_rows.Given as goal

-- the portal is at its place, and the rows so far and those that remain are all
abbrev pub invariant-loop-rows : goal.invariant-loop-rows
invariant-loop-rows g l =
    IsAt l.portal.name l.portal.place l.store
    × ((first : Scan) → IsFetching l.portal.name first (now l.initial.store l.initial.shared)
    → IsRunning l.portal.name l.count l.rows first (now l.initial.store l.initial.shared) (now l.store l.shared) (λ events. g.E.Emit.emits l.initial.out events l.out))

abbrev pub decreases-loop-rows : goal.decreases-loop-rows
decreases-loop-rows g l = l.count - l.rows
