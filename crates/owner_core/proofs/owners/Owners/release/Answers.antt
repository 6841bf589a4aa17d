use Rattle.std.proofs.Common.{◌≡◌, ℕ, sym, ap, ◌∙◌, subst, arith}
use Rattle.forest.specs.declared.id.NodeId.{NodeId}
use Rattle.forest.specs.Forest.{Forest, at}
use Rattle.owner_core.specs.Owners.{OwnerTree, AllAt, tree_of}
use Rattle.owner_core.specs.Released.{released, own_released}
use Rattle.owner_core.specs.Sound.{IsSound, AreGiven}
use Rattle.owner_core.proofs.Sounds.{sound_released}
use Rattle.owner_core.specs.Phases.{HasKinds}
use Rattle.owner_core.proofs.Phases.{still_kinds}
use Rattle.owner_core.proofs.Swept.{parent_swept}
use Rattle.owner_core.proofs.owners.Owners.release.Goals as goal
use Rattle.std.proofs.lemmas.Bool.Decides.{nat_tests}

pub invariant_of-self : goal.invariant_of-self
invariant_of-self g c =
    let forest = c.self.inside.nodes.forest in
    let tbl = g.R.Release.kind_table c.args.table.now in (
      subst (λ (x : OwnerTree). IsSound x c.self.inside.next_owner c.self.inside.next_serial) (sym c.release_tree.ensures.owners)
          (sound_released tbl c.args.phase c.node_at.result.number (tree_of forest) _ _ c.self.invariant.0),
      subst (λ (x : Forest ℕ). AreGiven c.self.inside.next_owner x) (sym c.release_tree.ensures.places) c.self.invariant.1,
    )

pub returns-clause-still_kinds : goal.returns-clause-still_kinds
returns-clause-still_kinds g c =
    let n = c.args.owner.number in
    let forest = c.self.inside.nodes.forest in
    let tbl = g.R.Release.kind_table c.args.table.now in
    let number : c.node_at.result.number ≡ n = ap (λ (i : NodeId). i.number) c.node_at.ensures in
    let owners : tree_of c.release_tree.new.nodes.forest ≡ released tbl c.args.phase n (tree_of forest) =
    c.release_tree.ensures.owners ∙ ap (λ (m : ℕ). released tbl c.args.phase m (tree_of forest)) number in
    let known : AllAt (HasKinds tbl) n (tree_of forest) = rw (← c.self.view_is) at c.requires.kinds in
    rw (c.release_tree.ensures.kinds, owners) (still_kinds tbl c.args.phase n (tree_of forest) known)

pub returns-clause-parents : goal.returns-clause-parents
returns-clause-parents g c n = grind (arith, nat_tests, parent_swept n (own_released (g.R.Release.kind_table c.args.table.now) c.args.phase) c.node_at.result.number (tree_of c.self.inside.nodes.forest), c.release_tree.ensures.owners, c.self.view_is)
