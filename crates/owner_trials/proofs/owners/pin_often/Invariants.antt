use Rattle.std.proofs.Common.{◌≡◌, ℕ, Some}
use Rattle.forest.specs.Forest.{at, parent_of}
use Rattle.owner_core.specs.Owners.{owners_of}
use Rattle.owner_trials.proofs.owners.pin_often.Given as goal

abbrev pub invariant-loop : goal.invariant-loop
invariant-loop l =
    record {
      places : l.session.places ≡ l.fn.session.places;
      parents : (n : ℕ) → parent_of n (owners_of l.session) ≡ parent_of n (owners_of l.fn.session);
    }
