use Rattle.std.proofs.Common.{sym, subst, arith}
use Rattle.forest.specs.Forest.{Once}
use Rattle.owner_items.specs.ItemList.{is_of, without_newest}
use Rattle.owner_core.specs.Owners.{Owner, OwnerTree, tree_of}
use Rattle.owner_core.specs.Sound.{IsSound}
use Rattle.owner_core.proofs.Sounds.{once_of, sound_forgotten}
use Rattle.owner_core.proofs.Tables.{spare_other, at_tree, once_rooms, changed_to, changed_same}
use Rattle.owner_core.proofs.owners.Owners.forget.Goals as goal
use Rattle.owner_core.proofs.Tables.{room_back}
use Rattle.std.proofs.lemmas.Bool.Decides.{nat_tests}

pub invariant_of-self : goal.invariant_of-self
invariant_of-self g c = grind (arith, nat_tests, once_rooms c.self.inside.nodes.forest (once_of _ _ _ c.self.invariant.0), once_of, changed_same c.node_at.result.number c.self.inside.nodes.forest c.get_mut.result.now c.forget.new.self (once_rooms c.self.inside.nodes.forest (once_of _ _ _ c.self.invariant.0)) c.get_mut.ensures.value, c.self.invariant.0, c.get_mut.ensures.value, c.in-Err.ensures.refused, c.self.invariant.1)

pub returns-in-Err-clause-item : goal.returns-in-Err-clause-item
returns-in-Err-clause-item g c h = grind (arith, nat_tests, at_tree c.node_at.result.number c.self.inside.nodes.forest c.get_mut.result.now c.get_mut.ensures.value, c.self.view_is, c.node_at.ensures, c.get_mut.ensures.value, c.in-Err.ensures.item)

pub returns-in-Err-clause-releasing : goal.returns-in-Err-clause-releasing
returns-in-Err-clause-releasing g c h = grind (arith, nat_tests, at_tree c.node_at.result.number c.self.inside.nodes.forest c.get_mut.result.now c.get_mut.ensures.value, c.self.view_is, c.node_at.ensures, c.get_mut.ensures.value, c.in-Err.ensures.releasing)

pub returns-in-Err-clause-refused : goal.returns-in-Err-clause-refused
returns-in-Err-clause-refused g c = grind (arith, nat_tests, once_rooms c.self.inside.nodes.forest (once_of _ _ _ c.self.invariant.0), once_of, room_back c.node_at.result.number c.get_mut.result.now c.forget.new.self, c.self.invariant.0, c.get_mut.ensures.value, c.in-Err.ensures.refused, c.self.view_is)

pub invariant_of-self-2 : goal.invariant_of-self-2
invariant_of-self-2 g c =
    let forest = c.self.inside.nodes.forest in
    let o : Once forest = once_rooms forest (once_of _ _ _ c.self.invariant.0) in
    let test = is_of c.args.kind c.args.key in (
      subst (λ (x : OwnerTree). IsSound x c.self.inside.next_owner c.self.inside.next_serial)
          (sym (changed_to c.node_at.result.number (λ (x : Owner). record x { items = without_newest test x.items }) forest c.get_mut.result.now c.forget.new.self o c.get_mut.ensures.value c.in-Ok.ensures.rest))
          (sound_forgotten c.node_at.result.number c.get_mut.result.now.owner test (tree_of forest) _ _ c.self.invariant.0 (at_tree c.node_at.result.number forest c.get_mut.result.now c.get_mut.ensures.value)),
      c.self.invariant.1,
    )

pub returns-clause-item : goal.returns-clause-item
returns-clause-item g c h = grind (arith, nat_tests, at_tree c.node_at.result.number c.self.inside.nodes.forest c.get_mut.result.now c.get_mut.ensures.value, c.self.view_is, c.node_at.ensures, c.get_mut.ensures.value, c.in-Ok.ensures.item)

pub returns-clause-releasing : goal.returns-clause-releasing
returns-clause-releasing g c h = grind (arith, nat_tests, at_tree c.node_at.result.number c.self.inside.nodes.forest c.get_mut.result.now c.get_mut.ensures.value, c.self.view_is, c.node_at.ensures, c.get_mut.ensures.value, c.in-Ok.ensures.releasing)

pub returns-clause-owners : goal.returns-clause-owners
returns-clause-owners g c = grind (arith, nat_tests, once_rooms c.self.inside.nodes.forest (once_of _ _ _ c.self.invariant.0), once_of, changed_to c.node_at.result.number, c.self.invariant.0, c.get_mut.ensures.value, c.in-Ok.ensures.rest, c.node_at.ensures, c.self.view_is)

pub returns-in-Err-clause-others : goal.returns-in-Err-clause-others
returns-in-Err-clause-others g c other ne = grind (arith, nat_tests, spare_other c.node_at.result.number other c.forget.new.self c.self.inside.nodes.forest, c.node_at.ensures, c.self.view_is)

pub returns-clause-others : goal.returns-clause-others
returns-clause-others g c other ne = grind (arith, nat_tests, spare_other c.node_at.result.number other c.forget.new.self c.self.inside.nodes.forest, c.node_at.ensures, c.self.view_is)
