use Rattle.std.proofs.Common.{ℕ, Some, ap, ◌∙◌, arith}
use Rattle.forest.specs.Forest.{Forest, Empty, Node}
use Rattle.forest.specs.Forested.{Forested}
use Rattle.forest.proofs.Trees.{has_first}
use Rattle.forest.proofs.Seen.{seen_slots, vacant_is, sound_slots}
use Rattle.forest.proofs.Calls.{Builds, sound_of, seen_built, insert_front, forest_is, places_are, if_some, key_in, entered, entered_keys}
use Rattle.forest.proofs.arena.LinkedForest.insert_root.Goals as goal
use Rattle.forest.proofs.arena.LinkedForest.insert_root.Given as given

pub invariant_of-self : goal.invariant_of-self
invariant_of-self g c = sound_slots c.self.inside.nodes c.vacant_slot.new.nodes c.self.inside.first c.vacant_slot.ensures.slots c.self.invariant

pub returns-in_default-clause-refused : goal.returns-in_default-clause-refused
returns-in_default-clause-refused g c = seen_slots c.self.inside.nodes c.vacant_slot.new.nodes c.self.inside.first c.vacant_slot.ensures.slots c.vacant_slot.ensures.vacant ∙ c.self.view_is

pub set_previous-requires : goal.set_previous-requires
set_previous-requires g c = grind (arith, entered, if_some, entered_keys, key_in, has_first, c.self.invariant, c.vacant_slot.ensures.slots, c.insert_reserved.ensures.key, c.in-Some.ensures.next, c.insert_reserved.ensures.was_vacant, c.insert_reserved.ensures.updates, c.insert_reserved.ensures.len, c.self.invariant.tree, c.self.invariant.linked, c.self.invariant.front)

made : (g : given.Over) (c : goal.After-self-1 g) → Builds c.set_previous.new.nodes (Some c.in-Some.slot) (Node c.in-Some.slot (record { number = c.args.number; value = c.args.value }) Empty c.self.invariant.tree)
made g c =
    let s = c.self.invariant in
    let w = entered c.self.inside.nodes c.vacant_slot.new.nodes c.insert_reserved.new.self c.in-Some.slot c.insert_reserved.result _ c.vacant_slot.ensures.slots (c.insert_reserved.ensures.key ∙ c.in-Some.ensures.next) c.insert_reserved.ensures.was_vacant c.insert_reserved.ensures.updates c.insert_reserved.ensures.len in
    insert_front c.self.inside.nodes c.insert_reserved.new.self c.set_previous.new.nodes c.self.inside.first c.in-Some.slot (record { number = c.args.number; value = c.args.value }) s
    w c.set_previous.ensures (rw (forest_is c.self.inside.nodes c.self.inside.first _ s c.self.view_is) c.requires)

pub invariant_of-self-2 : goal.invariant_of-self-2
invariant_of-self-2 g c = sound_of _ _ _ (made g c)

pub returns-clause-forest : goal.returns-clause-forest
returns-clause-forest g c =
    ap (λ (f : Forested g.row.T.Denot). f.forest) (seen_built _ _ _ (made g c))
    ∙ ap (λ (f : Forest g.row.T.Denot). Node c.args.number c.args.value Empty f) (forest_is c.self.inside.nodes c.self.inside.first _ c.self.invariant c.self.view_is)

pub returns-clause-places : goal.returns-clause-places
returns-clause-places g c =
    ap (λ (f : Forested g.row.T.Denot). f.places) (seen_built _ _ _ (made g c))
    ∙ ap (λ (f : Forest ℕ). Node c.args.number c.in-Some.slot Empty f) (places_are c.self.inside.nodes c.self.inside.first _ c.self.invariant c.self.view_is)

pub returns-clause-slot : goal.returns-clause-slot
returns-clause-slot g c = grind (arith, vacant_is, c.in-Some.ensures.next, c.vacant_slot.ensures.vacant, c.self.view_is)
