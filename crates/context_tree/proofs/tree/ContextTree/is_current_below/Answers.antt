-- The current context lies where the tree says, since the tree isn't empty.
use Rattle.context_tree.proofs.Base.{◌≡◌, None, sym, ap, ◌∙◌, nat_tests, arith}
use Rattle.context_tree.proofs.Words.{NodeId, Forest, has, at, first, children, is_above, Kept, TreeState}
use Rattle.context_tree.proofs.Alone.{none_first}
use Rattle.context_tree.proofs.Lemmas.{above_stands}
use Rattle.context_tree.proofs.tree.ContextTree.is_current_below.Goals as goal

pub is_above-requires-clause-other : goal.is_above-requires-clause-other
is_above-requires-clause-other g c = grind (arith, nat_tests, c.node_at.ensures, c.self.invariant.current)

pub returns-in-Some : goal.returns-in-Some
returns-in-Some g c s = grind (arith, nat_tests, c.is_above.ensures, c.node_at-top.ensures, c.node_at.ensures, c.self.view_is, above_stands c.args.self.now s c.args.at.number c.args.self.now.current.number)

pub returns-in-None : goal.returns-in-None
returns-in-None g c s =
    let below : first (children c.args.at.number c.args.self.now.kept) ≡ None =
    ap (λ (t : TreeState). first (children c.args.at.number t.kept)) (sym c.self.view_is)
    ∙ ap (λ (x : NodeId). first (children x.number c.self.inside.nodes.forest)) (sym c.node_at-top.ensures) ∙ c.in-None.ensures in
    sym (above_stands c.args.self.now s c.args.at.number c.args.self.now.current.number
    ∙ ap (λ (f : Forest Kept). has c.args.self.now.current.number f) (none_first (children c.args.at.number c.args.self.now.kept) below))
