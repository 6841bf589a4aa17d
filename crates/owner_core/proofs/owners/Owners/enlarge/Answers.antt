use Rattle.std.proofs.Common.{◌≡◌, ℕ, ◌≤◌, Option, Some, sym, ap, ◌∙◌, subst, arith}
use Rattle.std.specs.Option.{option_map_or}
use Rattle.forest.specs.declared.id.NodeId.{NodeId}
use Rattle.forest.specs.Forest.{Once, at, changed}
use Rattle.forest.proofs.Mapped.{at_changed}
use Rattle.owner_core.specs.Owners.{OwnerTable, Roomy}
use Rattle.owner_core.proofs.Sounds.{once_of}
use Rattle.owner_core.proofs.Tables.{spare_other, at_tree, once_rooms, changed_same, on_err, room_back}
use Rattle.std.specs.Result.{OnOk}
use Rattle.owner_core.proofs.owners.Owners.enlarge.Goals as goal
use Rattle.std.proofs.lemmas.Bool.Decides.{nat_tests}

pub invariant_of-self : goal.invariant_of-self
invariant_of-self c = grind (arith, nat_tests, once_rooms c.self.inside.nodes.forest (once_of _ _ _ c.self.invariant.0), once_of, changed_same c.node_at.result.number c.self.inside.nodes.forest c.get_mut.result.now c.enlarge.new.self (once_rooms c.self.inside.nodes.forest (once_of _ _ _ c.self.invariant.0)) c.get_mut.ensures.value c.enlarge.ensures.owner, c.self.invariant.0, c.get_mut.ensures.value, c.enlarge.ensures.owner, c.self.invariant.1)

pub returns-clause-spare : goal.returns-clause-spare
returns-clause-spare c =
    let forest = c.self.inside.nodes.forest in
    let new = c.enlarge.new.self in
    let lies : at c.args.owner.number (changed c.node_at.result.number (λ _. new) forest) ≡ Some new =
    ap (λ (x : NodeId). at x.number (changed c.node_at.result.number (λ _. new) forest)) (sym c.node_at.ensures)
    ∙ at_changed c.node_at.result.number (λ _. new) forest c.get_mut.result.now c.get_mut.ensures.value in
    subst (λ (k : ℕ). OnOk c.enlarge.result (1 ≤ k)) (sym (ap (λ (x : Option Roomy). option_map_or (λ (r : Roomy). r.spare) x 0) lies)) c.enlarge.ensures.spare

pub returns-clause-owners : goal.returns-clause-owners
returns-clause-owners c = grind (arith, nat_tests, once_rooms c.self.inside.nodes.forest (once_of _ _ _ c.self.invariant.0), once_of, changed_same c.node_at.result.number c.self.inside.nodes.forest c.get_mut.result.now c.enlarge.new.self (once_rooms c.self.inside.nodes.forest (once_of _ _ _ c.self.invariant.0)) c.get_mut.ensures.value c.enlarge.ensures.owner, c.self.invariant.0, c.get_mut.ensures.value, c.enlarge.ensures.owner, c.self.view_is)

pub returns-clause-releasing : goal.returns-clause-releasing
returns-clause-releasing c = grind (arith, nat_tests, at_tree c.node_at.result.number c.self.inside.nodes.forest c.get_mut.result.now c.get_mut.ensures.value, c.node_at.ensures, c.get_mut.ensures.value, c.self.view_is, c.enlarge.ensures.releasing)

pub returns-clause-refused : goal.returns-clause-refused
returns-clause-refused c =
    let forest = c.self.inside.nodes.forest in
    let o : Once forest = once_rooms forest (once_of _ _ _ c.self.invariant.0) in
    let table : OwnerTable = record { rooms = forest; places = c.self.inside.nodes.places; next_owner = c.self.inside.next_owner; next_serial = c.self.inside.next_serial } in
    on_err c.enlarge.result _ _
    (λ e. room_back c.node_at.result.number c.get_mut.result.now c.enlarge.new.self table o c.get_mut.ensures.value e ∙ c.self.view_is)
    c.enlarge.ensures.refused

pub returns-clause-others : goal.returns-clause-others
returns-clause-others c other ne = grind (arith, nat_tests, spare_other c.node_at.result.number other c.enlarge.new.self c.self.inside.nodes.forest, c.node_at.ensures, c.self.view_is)
