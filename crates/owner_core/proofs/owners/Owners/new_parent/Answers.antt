use Rattle.std.proofs.Common.{sym, ap, ◌∙◌, subst, arith}
use Rattle.forest.specs.Forest.{Forest}
use Rattle.owner_core.specs.Owners.{OwnerTree, Roomy, tree_of}
use Rattle.owner_core.specs.Sound.{IsSound}
use Rattle.owner_core.proofs.Sounds.{sound_moved}
use Rattle.owner_core.proofs.Tables.{tree_moved}
use Rattle.owner_core.proofs.Releasing.{inside_tree}
use Rattle.owner_core.proofs.Placed.{has_same}
use Rattle.owner_core.proofs.owners.Owners.new_parent.Goals as goal
use Rattle.std.proofs.lemmas.Bool.Decides.{nat_tests}

pub move_to-requires-clause-apart : goal.move_to-requires-clause-apart
move_to-requires-clause-apart g c = grind (arith, nat_tests, inside_tree c.args.owner.number c.args.parent.number c.self.inside.nodes.forest, c.node_at.ensures, c.node_at-2.ensures, c.self.view_is, c.requires.apart)

pub invariant_of-self : goal.invariant_of-self
invariant_of-self g c =
    let forest = c.self.inside.nodes.forest in (
      subst (λ (x : OwnerTree). IsSound x c.self.inside.next_owner c.self.inside.next_serial)
          (sym (ap (λ (x : Forest Roomy). tree_of x) c.move_to.ensures.forest ∙ tree_moved c.node_at.result.number c.node_at-2.result.number forest))
          (sound_moved c.node_at.result.number c.node_at-2.result.number (tree_of forest) _ _ c.self.invariant.0),
      λ m h. c.self.invariant.1 m (has_same m c.move_to.new.self.places c.self.inside.nodes.places (c.move_to.ensures.stays m) h),
    )

pub returns-clause-owners : goal.returns-clause-owners
returns-clause-owners g c = grind (arith, nat_tests, tree_moved c.node_at.result.number c.node_at-2.result.number c.self.inside.nodes.forest, c.move_to.ensures.forest, c.node_at.ensures, c.node_at-2.ensures, c.self.view_is)
