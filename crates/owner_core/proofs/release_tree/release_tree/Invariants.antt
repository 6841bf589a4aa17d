-- What was done so far, and then what the rest of the walk does, is the whole release.
use Rattle.std.proofs.Common.{◌≡◌, ◌⊎◌, ℕ, ◌+◌, ◌≤◌, true, List, ◌++◌, length, All}
use Rattle.std.specs.List.{flat_map}
use Rattle.pgs_step.specs.declared.ids.KindId.{KindId}
use Rattle.pgs_step.specs.declared.events.What.{What}
use Rattle.forest.specs.Forest.{Once, has, children}
use Rattle.forest.specs.Forested.{IsPlaced}
use Rattle.forest.specs.Walk.{todo, order_at}
use Rattle.owner_kinds.specs.KindTable.{IsKind}
use Rattle.owner_core.specs.Owners.{tree_of, held}
use Rattle.owner_core.specs.Released.{own_released}
use Rattle.owner_core.specs.Steps.{Step}
use Rattle.owner_core.proofs.Lists.{Each}
use Rattle.owner_core.proofs.Walking.{walked, walk_tree}
use Rattle.owner_core.proofs.Releasing.{visit_steps, visit_uses}
use Rattle.owner_core.proofs.release_tree.release_tree.Given as goal

abbrev pub invariant-loop-current : goal.invariant-loop-current
invariant-loop-current g l =
    let tbl = g.R.Release.kind_table l.initial.table in
    let f = own_released tbl l.how.phase in
    let t = tree_of l.nodes.forest in
    let t0 = tree_of l.initial.nodes.forest in
    let rest = walked f (todo l.owner.number l.current.number (children l.owner.number t)) t in
    record {
      once : Once l.nodes.forest;
      places : l.nodes.places ≡ l.initial.nodes.places;
      placed : IsPlaced l.nodes l.current;
      stands : has l.owner.number t ≡ true;
      place : (l.current.number ≡ l.owner.number) ⊎ (has l.current.number (children l.owner.number t) ≡ true);
      fit : g.R.Release.IsFit l.table;
      same : g.R.Release.kind_table l.table ≡ tbl;
      kinds : Each (λ v. All (λ item. IsKind tbl item.kind) v.value.items) rest;
      enough : (kind : KindId) (key : ℕ) → visit_uses kind key rest ≤ g.R.Release.counted l.table kind key;
      counted : (kind : KindId) (key : ℕ) → g.R.Release.counted l.table kind key + held kind key t0 ≡ g.R.Release.counted l.initial.table kind key + held kind key t;
      tree : walk_tree f (todo l.owner.number l.current.number (children l.owner.number t)) t ≡ walk_tree f (order_at l.owner.number t0) t0;
      done : (steps : List Step) × (events : List What) × g.R.Release.does l.initial.table steps events l.table × g.E.Emit.emits l.initial.out events l.out
          × (steps ++ flat_map (visit_steps tbl l.how.phase l.how.commit l.how.top l.owner.number) rest
          ≡ flat_map (visit_steps tbl l.how.phase l.how.commit l.how.top l.owner.number) (walked f (order_at l.owner.number t0) t0));
    }

abbrev pub decreases-loop-current : goal.decreases-loop-current
decreases-loop-current g l = length (todo l.owner.number l.current.number (children l.owner.number (tree_of l.nodes.forest)))
