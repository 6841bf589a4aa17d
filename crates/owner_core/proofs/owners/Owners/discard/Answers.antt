use Rattle.std.proofs.Common.{sym, ap, ◌∙◌, subst, arith}
use Rattle.forest.specs.Forest.{Forest}
use Rattle.forest.proofs.Mapped.{mapped-has, mapped-removed}
use Rattle.owner_core.specs.Owners.{OwnerTree, Roomy, tree_of}
use Rattle.owner_core.specs.Sound.{IsSound}
use Rattle.owner_core.proofs.Sounds.{sound_removed}
use Rattle.owner_core.proofs.Tables.{tree_order}
use Rattle.owner_core.proofs.owners.Owners.discard.Goals as goal
use Rattle.std.proofs.lemmas.Bool.Decides.{nat_tests}

pub invariant_of-self : goal.invariant_of-self
invariant_of-self g c =
    let forest = c.self.inside.nodes.forest in (
      subst (λ (x : OwnerTree). IsSound x c.self.inside.next_owner c.self.inside.next_serial)
          (sym (ap (λ (x : Forest Roomy). tree_of x) c.discard_tree.ensures.rooms ∙ mapped-removed (λ (r : Roomy). r.owner) c.node_at.result.number forest))
          (sound_removed c.node_at.result.number (tree_of forest) _ _ c.self.invariant.0),
      λ m h. c.self.invariant.1 m (c.discard_tree.ensures.none_new m h),
    )

pub returns-clause-owners : goal.returns-clause-owners
returns-clause-owners g c = grind (arith, nat_tests, mapped-removed, c.discard_tree.ensures.rooms, c.node_at.ensures, c.self.view_is)

pub returns-clause-stays : goal.returns-clause-stays
returns-clause-stays g c other h = grind (arith, nat_tests, mapped-has, c.discard_tree.ensures.stays, c.discard_tree.ensures.rooms, c.self.view_is)

pub returns-clause-emits : goal.returns-clause-emits
returns-clause-emits g c = grind (arith, nat_tests, tree_order c.args.owner.number c.self.inside.nodes.forest, c.node_at.ensures, c.self.view_is, c.discard_tree.ensures.emits)
