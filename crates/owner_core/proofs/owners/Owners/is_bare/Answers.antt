use Rattle.std.proofs.Common.{◌≡◌, None, List, [], arith, length, refl}
use Rattle.std.specs.Prelude.{◌∷◌}
use Rattle.std.proofs.lemmas.Bool.{eq-eqb, eqb-true}
use Rattle.pgs_step.specs.declared.ids.Item.{Item}
use Rattle.forest.specs.Forest.{Forest, Empty, Node, children, first}
use Rattle.forest.proofs.Mapped.{mapped-children}
use Rattle.owner_core.specs.Owners.{Roomy, tree_of}
use Rattle.owner_core.proofs.Tables.{at_tree}
use Rattle.owner_core.proofs.owners.Owners.is_bare.Goals as goal
use Rattle.std.proofs.lemmas.Bool.Decides.{nat_tests}

no_items : (items : List Item) → length items ≡ 0 → items ≡ []
no_items [] e = refl
no_items (item ∷ items) e = absurd (omega (arith, e))

none_first : (t : Forest Roomy) → first t ≡ None → t ≡ Empty
none_first Empty e = refl
none_first (Node k a below beside) e = absurd (cc)

pub returns-then-is_none-clause-items : goal.returns-then-is_none-clause-items
returns-then-is_none-clause-items c e = grind (arith, nat_tests, at_tree c.node_at-node.result.number c.self.inside.nodes.forest c.get.result.now c.get.ensures, no_items c.behind-self.inside.items.items, eqb-true c.len.result 0 e, c.node_at-node.ensures, c.get.ensures, c.behind-self.view_is, c.len.ensures.count, c.self.view_is)

pub returns-then-is_none-clause-below : goal.returns-then-is_none-clause-below
returns-then-is_none-clause-below c e = grind (arith, nat_tests, mapped-children, none_first (children c.node_at-node.result.number c.self.inside.nodes.forest), c.self.view_is, c.node_at-node.ensures)

no_forest : (t : Forest Roomy) → tree_of t ≡ Empty → t ≡ Empty
no_forest Empty e = refl
no_forest (Node k a below beside) e = absurd (cc)

pub returns-then-is_none-clause-whole : goal.returns-then-is_none-clause-whole
returns-then-is_none-clause-whole c empty alone = grind (arith, nat_tests, at_tree c.node_at-node.result.number c.self.inside.nodes.forest c.get.result.now c.get.ensures, eq-eqb c.len.result 0, c.node_at-node.ensures, c.get.ensures, c.self.view_is, c.behind-self.view_is, c.len.ensures.count)

pub returns-else-is_none-clause-whole : goal.returns-else-is_none-clause-whole
returns-else-is_none-clause-whole c empty alone = grind (arith, nat_tests, no_forest (children c.node_at-node.result.number c.self.inside.nodes.forest), mapped-children, c.node_at-node.ensures, c.self.view_is)
