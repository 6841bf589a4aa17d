use Rattle.portal_store.proofs.Base.{◌≤◌, ◌-◌, length}
use Rattle.portal_store.proofs.reach.Reach.touched.Given as goal

abbrev pub invariant-loop-count : goal.invariant-loop-count
invariant-loop-count l = l.count ≤ length l.self.levels.items

abbrev pub decreases-loop-count : goal.decreases-loop-count
decreases-loop-count l = length l.self.levels.items - l.count
