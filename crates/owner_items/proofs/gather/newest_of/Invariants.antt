use Rattle.std.proofs.Common.{◌≡◌, ℕ, ◌<◌, ◌≤◌, false, length, get_or}
use Rattle.pgs_step.specs.declared.ids.Item.{Item}
use Rattle.owner_items.specs.ItemList.{is_of}
use Rattle.owner_items.proofs.gather.newest_of.Given as goal

abbrev pub invariant-loop-place : goal.invariant-loop-place
invariant-loop-place l =
    (k : ℕ) (d : Item) → l.place ≤ k → k < length l.items → is_of l.kind l.key (get_or l.items k d) ≡ false
