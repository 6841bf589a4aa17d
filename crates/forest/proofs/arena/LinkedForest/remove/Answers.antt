use Rattle.std.proofs.Common.{◌≡◌, ℕ, Some, None, sym, ap, ◌∙◌, arith}
use Rattle.slab.specs.Slab.{get, ContainsKey}
use Rattle.forest.specs.Forest.{Forest, Empty, Once, at, children, removed}
use Rattle.forest.specs.Forested.{Forested}
use Rattle.forest.specs.Links.{Entry, entry_of, slots}
use Rattle.forest.specs.declared.links.Linked.{Linked}
use Rattle.forest.proofs.Trees.{at_removed}
use Rattle.forest.proofs.Numbers.{children_agreed, removed_agreed, at_agreed, empty_by, times_by}
use Rattle.forest.proofs.Neighbours.{node_is}
use Rattle.forest.proofs.Seen.{stands_at, contains}
use Rattle.forest.proofs.Calls.{Builds, sound_of, seen_built, taken_out, forest_is, places_are, if_some_more, neighbours, detached}
use Rattle.forest.proofs.arena.LinkedForest.remove.Goals as goal
use Rattle.forest.proofs.arena.LinkedForest.remove.Given as given
use Rattle.std.proofs.lemmas.Bool.Decides.{nat_tests}

pub index-node-requires : goal.index-node-requires
index-node-requires g c = contains c.self.inside.nodes c.self.inside.first _ c.args.id c.self.invariant c.self.view_is c.requires.placed

pub skip-requires-clause-before : goal.skip-requires-clause-before
skip-requires-clause-before g c = grind (arith, nat_tests, neighbours c.self.inside.nodes c.self.inside.first, c.self.invariant, c.self.view_is, c.requires.placed, c.index-node.ensures)

pub skip-requires-clause-parent : goal.skip-requires-clause-parent
skip-requires-clause-parent g c =
    (neighbours c.self.inside.nodes c.self.inside.first _ c.args.id c.index-node.result.now c.self.invariant c.self.view_is c.requires.placed c.index-node.ensures).above

pub set_previous-requires : goal.set_previous-requires
set_previous-requires g c =
    if_some_more c.index-node.result.now.next (ContainsKey c.self.inside.nodes) (ContainsKey c.skip.new.nodes) c.skip.ensures.keys
    (neighbours c.self.inside.nodes c.self.inside.first _ c.args.id c.index-node.result.now c.self.invariant c.self.view_is c.requires.placed c.index-node.ensures).behind

pub remove-value-requires : goal.remove-value-requires
remove-value-requires g c = grind (arith, contains, c.set_previous.ensures.keys, c.skip.ensures.keys, c.self.invariant, c.self.view_is, c.requires.placed)

made : (g : given.Over) (c : goal.After-remove-value g) → Builds c.remove-value.new.self c.front_without-self-inside.result (removed c.args.id.slot c.self.invariant.tree)
made g c =
    let s = c.self.invariant in
    let nodes = c.self.inside.nodes in
    let w = stands_at nodes c.self.inside.first _ c.args.id s c.self.view_is c.requires.placed in
    let leaf : children c.args.id.slot s.tree ≡ Empty =
    empty_by (λ x d. d.value) (children c.args.id.slot s.tree)
    (children_agreed (λ x d. d.value) c.args.id.slot c.args.id.number s.tree w.agree
    ∙ ap (λ (f : Forest g.row.T.Denot). children c.args.id.number f) (forest_is nodes c.self.inside.first _ s c.self.view_is) ∙ c.requires.leaf) in
    taken_out nodes c.skip.new.nodes c.set_previous.new.nodes c.remove-value.new.self c.self.inside.first c.front_without-self-inside.result c.args.id.slot c.args.id.number c.index-node.result.now s
    w.stands w.agree leaf c.index-node.ensures c.skip.ensures c.set_previous.ensures c.remove-value.ensures.updates c.remove-value.ensures.len
    c.front_without-self-inside.ensures.gone c.front_without-self-inside.ensures.stays

pub invariant_of-self : goal.invariant_of-self
invariant_of-self g c = sound_of _ _ _ (made g c)

pub returns-clause-value : goal.returns-clause-value
returns-clause-value g c =
    let s = c.self.invariant in
    let nodes = c.self.inside.nodes in
    let w = stands_at nodes c.self.inside.first _ c.args.id s c.self.view_is c.requires.placed in
    let l = c.index-node.result.now in
    let det = detached nodes c.skip.new.nodes c.set_previous.new.nodes s.tree c.args.id.slot l s.by_slot s.linked w.stands c.index-node.ensures c.skip.ensures c.set_previous.ensures in
    let same : Some c.remove-value.result ≡ Some l = sym c.remove-value.ensures.value ∙ det.own ∙ c.index-node.ensures in
    let value : c.remove-value.result.value ≡ l.value = let e : c.remove-value.result ≡ l = cc in ap (λ (m : Linked g.row.T.Denot). m.value) e in
    let node = node_is (get nodes) None None c.args.id.slot c.args.id.number l s.tree s.by_slot w.agree w.stands s.linked c.index-node.ensures in
    ap (λ (f : Forest g.row.T.Denot). at c.args.id.number f) (sym (forest_is nodes c.self.inside.first _ s c.self.view_is))
    ∙ (at_agreed (λ x d. d.value) c.args.id.slot c.args.id.number (entry_of l) s.tree w.agree node.entry).1
    ∙ ap (λ x. Some x) (sym value)

pub returns-clause-forest : goal.returns-clause-forest
returns-clause-forest g c =
    let s = c.self.invariant in
    let w = stands_at c.self.inside.nodes c.self.inside.first _ c.args.id s c.self.view_is c.requires.placed in
    ap (λ (f : Forested g.row.T.Denot). f.forest) (seen_built _ _ _ (made g c))
    ∙ removed_agreed (λ x d. d.value) c.args.id.slot c.args.id.number s.tree w.agree
    ∙ ap (λ (f : Forest g.row.T.Denot). removed c.args.id.number f) (forest_is c.self.inside.nodes c.self.inside.first _ s c.self.view_is)

pub returns-clause-places : goal.returns-clause-places
returns-clause-places g c =
    let s = c.self.invariant in
    let w = stands_at c.self.inside.nodes c.self.inside.first _ c.args.id s c.self.view_is c.requires.placed in
    ap (λ (f : Forested g.row.T.Denot). f.places) (seen_built _ _ _ (made g c))
    ∙ removed_agreed (λ x d. x) c.args.id.slot c.args.id.number s.tree w.agree
    ∙ ap (λ (f : Forest ℕ). removed c.args.id.number f) (places_are c.self.inside.nodes c.self.inside.first _ s c.self.view_is)

pub returns-clause-stays : goal.returns-clause-stays
returns-clause-stays g c other ne =
    let s = c.self.invariant in
    let nodes = c.self.inside.nodes in
    let w = stands_at nodes c.self.inside.first _ c.args.id s c.self.view_is c.requires.placed in
    let leaf : children c.args.id.slot s.tree ≡ Empty =
    empty_by (λ x d. d.value) (children c.args.id.slot s.tree)
    (children_agreed (λ x d. d.value) c.args.id.slot c.args.id.number s.tree w.agree
    ∙ ap (λ (f : Forest g.row.T.Denot). children c.args.id.number f) (forest_is nodes c.self.inside.first _ s c.self.view_is) ∙ c.requires.leaf) in
    let below : children c.args.id.number (slots s.tree) ≡ Empty =
    sym (children_agreed (λ x d. x) c.args.id.slot c.args.id.number s.tree w.agree) ∙ ap (λ (t : Forest (Entry g.row.T.Denot)). slots t) leaf in
    let once : Once (slots s.tree) = record { once = λ n. rw (times_by (λ x d. x) n s.tree) (s.by_number.once n) } in
    ap (λ (f : Forested g.row.T.Denot). at other f.places) (seen_built _ _ _ (made g c))
    ∙ ap (λ (f : Forest ℕ). at other f) (removed_agreed (λ x d. x) c.args.id.slot c.args.id.number s.tree w.agree)
    ∙ at_removed other c.args.id.number (slots s.tree) once ne below
    ∙ ap (λ (f : Forest ℕ). at other f) (places_are nodes c.self.inside.first _ s c.self.view_is)
