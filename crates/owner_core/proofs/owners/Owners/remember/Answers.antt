use Rattle.std.proofs.Common.{◌≡◌, ◌+◌, Option, ◌∷◌, refl, sym, ap, ◌∙◌, subst, arith}
use Rattle.std.specs.Option.{option_map_or}
use Rattle.pgs_step.specs.declared.ids.Item.{Item}
use Rattle.forest.specs.declared.id.NodeId.{NodeId}
use Rattle.forest.specs.Forest.{Once, at, changed}
use Rattle.forest.proofs.Mapped.{at_changed}
use Rattle.owner_core.specs.Owners.{Owner, OwnerTree, OwnerTable, Roomy, tree_of, spare_of}
use Rattle.owner_core.specs.Sound.{IsSound}
use Rattle.owner_core.proofs.Sounds.{once_of, newest, sound_remembered}
use Rattle.owner_core.proofs.Tables.{spare_other, at_tree, once_rooms, changed_to}
use Rattle.owner_core.proofs.owners.Owners.remember.Goals as goal
use Rattle.std.proofs.lemmas.Bool.Decides.{nat_tests}

pub remember-requires-clause-newest : goal.remember-requires-clause-newest
remember-requires-clause-newest g c =
    let forest = c.self.inside.nodes.forest in
    newest c.node_at.result.number c.get_mut.result.now.owner (tree_of forest) _ _ c.self.invariant.0 (at_tree c.node_at.result.number forest c.get_mut.result.now c.get_mut.ensures.value)

pub invariant_of-self : goal.invariant_of-self
invariant_of-self g c =
    let forest = c.self.inside.nodes.forest in
    let o : Once forest = once_rooms forest (once_of _ _ _ c.self.invariant.0) in
    let item : Item = record { kind = c.args.kind; key = c.args.key; serial = c.self.inside.next_serial } in (
      subst (λ (x : OwnerTree). IsSound x c.self.inside.next_owner (c.self.inside.next_serial + 1))
          (sym (changed_to c.node_at.result.number (λ (x : Owner). record x { items = item ∷ x.items }) forest c.get_mut.result.now c.remember.new.self o c.get_mut.ensures.value c.remember.ensures.owner))
          (sound_remembered c.node_at.result.number c.get_mut.result.now.owner item (tree_of forest) _ _ c.self.invariant.0 (at_tree c.node_at.result.number forest c.get_mut.result.now c.get_mut.ensures.value) refl),
      c.self.invariant.1,
    )

pub returns-clause-owners : goal.returns-clause-owners
returns-clause-owners g c = grind (arith, nat_tests, once_rooms c.self.inside.nodes.forest (once_of _ _ _ c.self.invariant.0), once_of, changed_to c.node_at.result.number, c.self.invariant.0, c.get_mut.ensures.value, c.remember.ensures.owner, c.node_at.ensures, c.self.view_is)

pub returns-clause-others : goal.returns-clause-others
returns-clause-others g c other ne = grind (arith, nat_tests, spare_other c.node_at.result.number other c.remember.new.self c.self.inside.nodes.forest, c.node_at.ensures, c.self.view_is)

pub returns-clause-spare : goal.returns-clause-spare
returns-clause-spare g c =
    let forest = c.self.inside.nodes.forest in
    let now : spare_of c.args.owner.number c.args.self.now ≡ c.get_mut.result.now.spare =
    ap (λ (t : OwnerTable). spare_of c.args.owner.number t) (sym c.self.view_is)
    ∙ (ap (λ (x : NodeId). option_map_or (λ (r : Roomy). r.spare) (at x.number forest) 0) (sym c.node_at.ensures)
    ∙ ap (λ (x : Option Roomy). option_map_or (λ (r : Roomy). r.spare) x 0) c.get_mut.ensures.value) in
    let then : option_map_or (λ (r : Roomy). r.spare) (at c.args.owner.number (changed c.node_at.result.number (λ _. c.remember.new.self) forest)) 0 ≡ c.remember.new.self.spare =
    ap (λ (x : NodeId). option_map_or (λ (r : Roomy). r.spare) (at x.number (changed c.node_at.result.number (λ _. c.remember.new.self) forest)) 0) (sym c.node_at.ensures)
    ∙ ap (λ (x : Option Roomy). option_map_or (λ (r : Roomy). r.spare) x 0) (at_changed c.node_at.result.number (λ _. c.remember.new.self) forest c.get_mut.result.now c.get_mut.ensures.value) in
    omega (arith, now, then, c.remember.ensures.spare)
