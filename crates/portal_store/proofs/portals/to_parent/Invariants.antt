use Rattle.portal_store.proofs.Base.{◌≡◌, ◌++◌, map, take, drop}
use Rattle.portal_store.proofs.Words.{to_parent}
use Rattle.portal_store.proofs.portals.to_parent.Given as goal

abbrev pub invariant-loop-portal : goal.invariant-loop-portal
invariant-loop-portal l = l.portals ≡ map (to_parent l.level) (take l.portal-index l.initial.portals) ++ drop l.portal-index l.initial.portals
