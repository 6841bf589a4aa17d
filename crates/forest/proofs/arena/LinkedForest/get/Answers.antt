use Rattle.std.proofs.Common.{None, sym, ap, ◌∙◌}
use Rattle.slab.specs.Slab.{get}
use Rattle.forest.specs.Forest.{Forest, at}
use Rattle.forest.specs.Links.{entry_of}
use Rattle.forest.proofs.Numbers.{at_agreed}
use Rattle.forest.proofs.Neighbours.{node_is}
use Rattle.forest.proofs.Seen.{stands_at, contains}
use Rattle.forest.proofs.Calls.{forest_is}
use Rattle.forest.proofs.arena.LinkedForest.get.Goals as goal

pub index-requires : goal.index-requires
index-requires g c = contains c.self.inside.nodes c.self.inside.first _ c.args.id c.self.invariant c.self.view_is c.requires

pub returns : goal.returns
returns g c =
    let s = c.self.invariant in
    let w = stands_at c.self.inside.nodes c.self.inside.first _ c.args.id s c.self.view_is c.requires in
    let node = node_is (get c.self.inside.nodes) None None c.args.id.slot c.args.id.number c.index.result.now s.tree s.by_slot w.agree w.stands s.linked c.index.ensures in
    ap (λ (t : Forest g.row.T.Denot). at c.args.id.number t) (sym (forest_is c.self.inside.nodes c.self.inside.first _ s c.self.view_is))
    ∙ (at_agreed (λ x d. d.value) c.args.id.slot c.args.id.number (entry_of c.index.result.now) s.tree w.agree node.entry).1
