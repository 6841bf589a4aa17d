use Rattle.std.proofs.Common.{◌≡◌, ℕ, Some, None, sym, ap, ◌∙◌, arith}
use Rattle.slab.specs.Slab.{get, ContainsKey}
use Rattle.forest.specs.Forest.{Forest, Empty, put}
use Rattle.forest.specs.Forested.{Forested}
use Rattle.forest.proofs.Linking.{child_is}
use Rattle.forest.proofs.Numbers.{put_agreed}
use Rattle.forest.proofs.Seen.{seen_slots, vacant_is, sound_slots, stands_at, contains}
use Rattle.forest.proofs.Calls.{Builds, sound_of, seen_built, insert_below, forest_is, places_are, if_some_more, neighbours, entered, entered_keys}
use Rattle.forest.proofs.arena.LinkedForest.insert_child.Goals as goal
use Rattle.forest.proofs.arena.LinkedForest.insert_child.Given as given
use Rattle.std.proofs.lemmas.Bool.Decides.{nat_tests}

pub invariant_of-self : goal.invariant_of-self
invariant_of-self g c = sound_slots c.self.inside.nodes c.vacant_slot.new.nodes c.self.inside.first c.vacant_slot.ensures.slots c.self.invariant

pub returns-in_default-clause-refused : goal.returns-in_default-clause-refused
returns-in_default-clause-refused g c = seen_slots c.self.inside.nodes c.vacant_slot.new.nodes c.self.inside.first c.vacant_slot.ensures.slots c.vacant_slot.ensures.vacant ∙ c.self.view_is

pub index-requires : goal.index-requires
index-requires g c = grind (arith, nat_tests, contains c.self.inside.nodes c.self.inside.first, c.vacant_slot.ensures.slots, c.self.invariant, c.self.view_is, c.requires.parent)

pub set_previous-requires : goal.set_previous-requires
set_previous-requires g c =
    let w = entered c.self.inside.nodes c.vacant_slot.new.nodes c.insert_reserved.new.self c.in-Some.slot c.insert_reserved.result _ c.vacant_slot.ensures.slots (c.insert_reserved.ensures.key ∙ c.in-Some.ensures.next) c.insert_reserved.ensures.was_vacant c.insert_reserved.ensures.updates c.insert_reserved.ensures.len in
    if_some_more c.index.result.now.first_child (ContainsKey c.self.inside.nodes) (ContainsKey c.insert_reserved.new.self) (entered_keys _ _ _ _ w)
    (neighbours c.self.inside.nodes c.self.inside.first _ c.args.parent c.index.result.now c.self.invariant c.self.view_is c.requires.parent (rw c.vacant_slot.ensures.slots at c.index.ensures)).below

made : (g : given.Over) (c : goal.After-set_first_child g) → Builds c.set_first_child.new.nodes c.self.inside.first (put c.args.parent.slot c.in-Some.slot (record { number = c.args.number; value = c.args.value }) Empty c.self.invariant.tree)
made g c =
    let s = c.self.invariant in
    let nodes = c.self.inside.nodes in
    let look : get nodes c.args.parent.slot ≡ Some c.index.result.now = rw c.vacant_slot.ensures.slots at c.index.ensures in
    let p = stands_at nodes c.self.inside.first _ c.args.parent s c.self.view_is c.requires.parent in
    let w = entered c.self.inside.nodes c.vacant_slot.new.nodes c.insert_reserved.new.self c.in-Some.slot c.insert_reserved.result _ c.vacant_slot.ensures.slots (c.insert_reserved.ensures.key ∙ c.in-Some.ensures.next) c.insert_reserved.ensures.was_vacant c.insert_reserved.ensures.updates c.insert_reserved.ensures.len in
    insert_below nodes c.insert_reserved.new.self c.set_previous.new.nodes c.set_first_child.new.nodes c.self.inside.first c.args.parent.slot c.args.parent.number c.in-Some.slot
    (record { number = c.args.number; value = c.args.value }) c.index.result.now.first_child s p.stands p.agree
    (sym (child_is (get nodes) None None c.args.parent.slot c.index.result.now s.tree s.by_slot p.stands s.linked look))
    w c.set_previous.ensures c.set_first_child.ensures
    (rw (forest_is nodes c.self.inside.first _ s c.self.view_is) c.requires.fresh)

pub invariant_of-self-2 : goal.invariant_of-self-2
invariant_of-self-2 g c = sound_of _ _ _ (made g c)

pub returns-clause-forest : goal.returns-clause-forest
returns-clause-forest g c =
    let s = c.self.invariant in
    let p = stands_at c.self.inside.nodes c.self.inside.first _ c.args.parent s c.self.view_is c.requires.parent in
    ap (λ (f : Forested g.row.T.Denot). f.forest) (seen_built _ _ _ (made g c))
    ∙ put_agreed (λ x d. d.value) c.args.parent.slot c.args.parent.number c.in-Some.slot (record { number = c.args.number; value = c.args.value }) Empty s.tree p.agree
    ∙ ap (λ (f : Forest g.row.T.Denot). put c.args.parent.number c.args.number c.args.value Empty f) (forest_is c.self.inside.nodes c.self.inside.first _ s c.self.view_is)

pub returns-clause-places : goal.returns-clause-places
returns-clause-places g c =
    let s = c.self.invariant in
    let p = stands_at c.self.inside.nodes c.self.inside.first _ c.args.parent s c.self.view_is c.requires.parent in
    ap (λ (f : Forested g.row.T.Denot). f.places) (seen_built _ _ _ (made g c))
    ∙ put_agreed (λ x d. x) c.args.parent.slot c.args.parent.number c.in-Some.slot (record { number = c.args.number; value = c.args.value }) Empty s.tree p.agree
    ∙ ap (λ (f : Forest ℕ). put c.args.parent.number c.args.number c.in-Some.slot Empty f) (places_are c.self.inside.nodes c.self.inside.first _ s c.self.view_is)

pub returns-clause-slot : goal.returns-clause-slot
returns-clause-slot g c = grind (arith, vacant_is, c.in-Some.ensures.next, c.vacant_slot.ensures.vacant, c.self.view_is)
