use Rattle.std.proofs.Common.{None, sym, ◌∙◌}
use Rattle.slab.specs.Slab.{get}
use Rattle.forest.proofs.Trees.{has_first}
use Rattle.forest.proofs.Neighbours.{names_first}
use Rattle.forest.proofs.Seen.{named_is}
use Rattle.forest.proofs.Calls.{forest_is}
use Rattle.forest.proofs.arena.LinkedForest.first.Goals as goal

pub returns : goal.returns
returns g c =
    let s = c.self.invariant in
    let nodes = c.self.inside.nodes in
    let names = names_first (get nodes) None None s.tree s.linked in
    named_is nodes c.self.inside.first _ s c.self.view_is c.self.inside.first _ c.named.result
    (rw (s.front, ← forest_is nodes c.self.inside.first _ s c.self.view_is) names)
    (λ x q. has_first x s.tree (sym s.front ∙ q))
    c.named.ensures.none c.named.ensures.some
