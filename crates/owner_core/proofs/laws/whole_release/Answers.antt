use Rattle.owner_core.proofs.Phases.{nothing_left, own_nothing, no_lock}
use Rattle.owner_core.proofs.Below.{held_below}
use Rattle.owner_core.specs.Phases.{all_released}
use Rattle.owner_core.proofs.laws.whole_release.Goals as goal

pub returns : goal.returns
returns c = record {
  nothing = nothing_left;
  no_item = λ kinds n owners sound all. own_nothing n (all_released kinds n owners) (nothing_left kinds n owners sound all);
  below = held_below;
  no_lock = no_lock;
}
