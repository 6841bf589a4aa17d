-- What is left of the owner's subtree is what is still to go.
use Rattle.std.proofs.Common.{◌≡◌, ℕ, true, List, ◌++◌, map}
use Rattle.pgs_step.specs.declared.events.What.{What}
use Rattle.pgs_step.specs.declared.events.What.TheVariants.{OwnerGone}
use Rattle.forest.specs.Forest.{Once, has, at, size, children, removed}
use Rattle.forest.specs.Forested.{IsPlaced}
use Rattle.forest.specs.Walk.{lead, order_at}
use Rattle.owner_core.proofs.discard_tree.discard_tree.Given as goal

abbrev pub invariant-loop-current : goal.invariant-loop-current
invariant-loop-current g l = record {
  once : Once l.nodes.forest;
  stands : has l.owner.number l.nodes.forest ≡ true;
  owner : IsPlaced l.nodes l.owner;
  placed : IsPlaced l.nodes l.current;
  first : l.current.number ≡ lead l.owner.number (children l.owner.number l.nodes.forest);
  rooms : removed l.owner.number l.nodes.forest ≡ removed l.owner.number l.initial.nodes.forest;
  stays : (other : ℕ) → has other (removed l.owner.number l.initial.nodes.forest) ≡ true → at other l.nodes.places ≡ at other l.initial.nodes.places;
  none_new : (other : ℕ) → has other l.nodes.places ≡ true → has other l.initial.nodes.places ≡ true;
  done : (events : List What) × g.E.Emit.emits l.initial.out events l.out
      × (events ++ map (λ n. OwnerGone n) (order_at l.owner.number l.nodes.forest) ≡ map (λ n. OwnerGone n) (order_at l.owner.number l.initial.nodes.forest));
}

abbrev pub decreases-loop-current : goal.decreases-loop-current
decreases-loop-current g l = size l.nodes.forest
