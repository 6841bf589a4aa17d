use Rattle.std.proofs.Common.{ℕ, sym, ap, ◌∙◌, arith}
use Rattle.slab.specs.Slab.{ContainsKey}
use Rattle.forest.specs.Forest.{Forest, Once, at, has, children, put, removed, moved}
use Rattle.forest.specs.Forested.{Forested}
use Rattle.forest.specs.Links.{entry_of, slots}
use Rattle.forest.proofs.Trees.{Moves}
use Rattle.forest.proofs.Numbers.{has_by, times_by, children_agreed}
use Rattle.forest.proofs.Moved.{at_moved}
use Rattle.forest.proofs.Seen.{contains, is_there}
use Rattle.forest.proofs.Calls.{Builds, sound_of, seen_built, moved_to, moved_agreed, forest_is, places_are, if_some_more, neighbours, Moving, moving}
use Rattle.forest.proofs.arena.LinkedForest.move_to.Goals as goal
use Rattle.forest.proofs.arena.LinkedForest.move_to.Given as given
use Rattle.std.proofs.lemmas.Bool.Decides.{nat_tests}

near_of : goal.index-node-requires
near_of g c = contains c.self.inside.nodes c.self.inside.first _ c.args.id c.self.invariant c.self.view_is c.requires.placed

pub index-node-requires : goal.index-node-requires
index-node-requires g c = near_of g c

pub skip-requires-clause-before : goal.skip-requires-clause-before
skip-requires-clause-before g c = grind (arith, nat_tests, neighbours c.self.inside.nodes c.self.inside.first, c.self.invariant, c.self.view_is, c.requires.placed, c.index-node.ensures)

pub skip-requires-clause-parent : goal.skip-requires-clause-parent
skip-requires-clause-parent g c =
    (neighbours c.self.inside.nodes c.self.inside.first _ c.args.id c.index-node.result.now c.self.invariant c.self.view_is c.requires.placed c.index-node.ensures).above

pub set_previous-requires : goal.set_previous-requires
set_previous-requires g c =
    if_some_more c.index-node.result.now.next (ContainsKey c.self.inside.nodes) (ContainsKey c.skip.new.nodes) c.skip.ensures.keys
    (neighbours c.self.inside.nodes c.self.inside.first _ c.args.id c.index-node.result.now c.self.invariant c.self.view_is c.requires.placed c.index-node.ensures).behind

pub index-requires : goal.index-requires
index-requires g c = grind (arith, nat_tests, contains c.self.inside.nodes c.self.inside.first, c.set_previous.ensures.keys, c.skip.ensures.keys, c.self.invariant, c.self.view_is, c.requires.parent)

pub set_previous-requires-2 : goal.set_previous-requires-2
set_previous-requires-2 g c =
    let w = moving c.self.inside.nodes c.skip.new.nodes c.set_previous.new.nodes c.self.inside.first _ c.args.id c.args.parent c.index-node.result.now c.self.invariant c.self.view_is
    c.requires.placed c.requires.parent c.requires.other c.requires.apart c.index-node.ensures c.skip.ensures c.set_previous.ensures in
    if_some_more c.index.result.now.first_child (ContainsKey c.set_previous.new.nodes) (ContainsKey c.set_place.new.nodes) c.set_place.ensures.keys
    (w.child_key c.index.result.now c.index.ensures)

pub set_first_child-requires : goal.set_first_child-requires
set_first_child-requires g c = grind (arith, contains, c.set_previous-2.ensures.keys, c.set_place.ensures.keys, c.set_previous.ensures.keys, c.skip.ensures.keys, c.self.invariant, c.self.view_is, c.requires.parent)

made : (g : given.Over) (c : goal.After-set_first_child g) → Builds c.set_first_child.new.nodes c.front_without-self-inside.result (put c.args.parent.slot c.args.id.slot (entry_of c.index-node.result.now) (children c.args.id.slot c.self.invariant.tree) (removed c.args.id.slot c.self.invariant.tree))
made g c =
    let w = moving c.self.inside.nodes c.skip.new.nodes c.set_previous.new.nodes c.self.inside.first _ c.args.id c.args.parent c.index-node.result.now c.self.invariant c.self.view_is
    c.requires.placed c.requires.parent c.requires.other c.requires.apart c.index-node.ensures c.skip.ensures c.set_previous.ensures in
    moved_to c.self.inside.nodes c.skip.new.nodes c.set_previous.new.nodes c.set_place.new.nodes c.set_previous-2.new.nodes c.set_first_child.new.nodes
    c.self.inside.first c.front_without-self-inside.result c.args.id.slot c.args.id.number c.args.parent.slot c.args.parent.number c.index-node.result.now c.index.result.now.first_child c.self.invariant
    w.agree w.numbers w.slot_moves c.index-node.ensures w.entry w.over c.skip.ensures c.set_previous.ensures
    c.front_without-self-inside.ensures.gone c.front_without-self-inside.ensures.stays
    (w.child c.index.result.now c.index.ensures) c.set_place.ensures c.set_previous-2.ensures c.set_first_child.ensures

known : (g : given.Over) (c : goal.After-set_first_child g) → Moving c.self.inside.nodes c.set_previous.new.nodes c.self.invariant.tree c.args.id c.args.parent c.index-node.result.now
known g c =
    moving c.self.inside.nodes c.skip.new.nodes c.set_previous.new.nodes c.self.inside.first _ c.args.id c.args.parent c.index-node.result.now c.self.invariant c.self.view_is
    c.requires.placed c.requires.parent c.requires.other c.requires.apart c.index-node.ensures c.skip.ensures c.set_previous.ensures

pub invariant_of-self : goal.invariant_of-self
invariant_of-self g c = sound_of _ _ _ (made g c)

pub returns-clause-forest : goal.returns-clause-forest
returns-clause-forest g c =
    let w = known g c in
    ap (λ (f : Forested g.row.T.Denot). f.forest) (seen_built _ _ _ (made g c))
    ∙ moved_agreed (λ x d. d.value) c.args.id.slot c.args.id.number c.args.parent.slot c.args.parent.number (entry_of c.index-node.result.now) c.self.invariant.tree w.agree w.over w.entry
    ∙ ap (λ (f : Forest g.row.T.Denot). moved c.args.id.number c.args.parent.number f) (forest_is c.self.inside.nodes c.self.inside.first _ c.self.invariant c.self.view_is)

pub returns-clause-places : goal.returns-clause-places
returns-clause-places g c =
    let w = known g c in
    ap (λ (f : Forested g.row.T.Denot). f.places) (seen_built _ _ _ (made g c))
    ∙ moved_agreed (λ x d. x) c.args.id.slot c.args.id.number c.args.parent.slot c.args.parent.number (entry_of c.index-node.result.now) c.self.invariant.tree w.agree w.over w.entry
    ∙ ap (λ (f : Forest ℕ). moved c.args.id.number c.args.parent.number f) (places_are c.self.inside.nodes c.self.inside.first _ c.self.invariant c.self.view_is)

pub returns-clause-stays : goal.returns-clause-stays
returns-clause-stays g c other =
    let w = known g c in
    let s = c.self.invariant in
    let n = c.args.id.number in
    let p = c.args.parent.number in
    let once : Once (slots s.tree) = record { once = λ m. rw (times_by (λ x d. x) m s.tree) (s.by_number.once m) } in
    let moves : Moves n p (slots s.tree) = record {
      node = has_by (λ x d. x) n s.tree ∙ w.numbers.node;
      parent = has_by (λ x d. x) p s.tree ∙ w.numbers.parent;
      other = w.numbers.other;
      apart =
          ap (λ (f : Forest ℕ). has p f) (sym (children_agreed (λ x d. x) c.args.id.slot n s.tree w.agree))
          ∙ has_by (λ x d. x) p (children c.args.id.slot s.tree)
          ∙ ap (λ (f : Forest g.row.T.Denot). has p f) (children_agreed (λ x d. d.value) c.args.id.slot n s.tree w.agree)
          ∙ w.numbers.apart;
    } in
    ap (λ (f : Forested g.row.T.Denot). at other f.places) (seen_built _ _ _ (made g c))
    ∙ ap (λ (f : Forest ℕ). at other f) (moved_agreed (λ x d. x) c.args.id.slot n c.args.parent.slot p (entry_of c.index-node.result.now) s.tree w.agree w.over w.entry)
    ∙ at_moved other n p (slots s.tree) once moves
    ∙ ap (λ (f : Forest ℕ). at other f) (places_are c.self.inside.nodes c.self.inside.first _ s c.self.view_is)

pub returns-clause-node_stands : goal.returns-clause-node_stands
returns-clause-node_stands g c = is_there c.self.inside.nodes c.self.inside.first _ c.args.id c.self.invariant c.self.view_is c.requires.placed

pub returns-clause-parent_stands : goal.returns-clause-parent_stands
returns-clause-parent_stands g c = is_there c.self.inside.nodes c.self.inside.first _ c.args.parent c.self.invariant c.self.view_is c.requires.parent
