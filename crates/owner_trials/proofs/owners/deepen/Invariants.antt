use Rattle.std.proofs.Common.{◌≡◌, ℕ, ◌+◌, ◌-◌, ◌≤◌}
use Rattle.pgs_step.specs.declared.ids.OwnerId.{OwnerId}
use Rattle.forest.specs.Forest.{parent_of}
use Rattle.owner_core.specs.Owners.{owners_of, IsLive}
use Rattle.owner_trials.proofs.owners.deepen.Given as goal

abbrev pub invariant-loop-made : goal.invariant-loop-made
invariant-loop-made l =
    record {
      live : IsLive l.session l.last;
      stays : (other : OwnerId) → IsLive l.fn.session other → IsLive l.session other;
      parents : (other : OwnerId) → IsLive l.fn.session other → parent_of other.number (owners_of l.session) ≡ parent_of other.number (owners_of l.fn.session);
      next : l.session.next_owner ≤ l.fn.session.next_owner + l.made;
    }

abbrev pub decreases-loop-made : goal.decreases-loop-made
decreases-loop-made l = l.times - l.made
