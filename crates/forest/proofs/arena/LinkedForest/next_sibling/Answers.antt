use Rattle.std.proofs.Common.{None}
use Rattle.slab.specs.Slab.{get}
use Rattle.forest.proofs.Neighbours.{node_is}
use Rattle.forest.proofs.Seen.{stands_at, contains, named_is}
use Rattle.forest.proofs.Calls.{forest_is, neighbours, stand_all}
use Rattle.forest.proofs.arena.LinkedForest.next_sibling.Goals as goal

pub index-requires : goal.index-requires
index-requires g c = contains c.self.inside.nodes c.self.inside.first _ c.args.id c.self.invariant c.self.view_is c.requires

pub named-requires : goal.named-requires
named-requires g c = (neighbours c.self.inside.nodes c.self.inside.first _ c.args.id c.index.result.now c.self.invariant c.self.view_is c.requires c.index.ensures).behind

pub returns : goal.returns
returns g c =
    let s = c.self.invariant in
    let nodes = c.self.inside.nodes in
    let w = stands_at nodes c.self.inside.first _ c.args.id s c.self.view_is c.requires in
    let node = node_is (get nodes) None None c.args.id.slot c.args.id.number c.index.result.now s.tree s.by_slot w.agree w.stands s.linked c.index.ensures in
    named_is nodes c.self.inside.first _ s c.self.view_is c.index.result.now.next _ c.named.result
    (rw (← forest_is nodes c.self.inside.first _ s c.self.view_is) node.next)
    (stand_all nodes c.self.inside.first _ c.args.id c.index.result.now s c.self.view_is c.requires c.index.ensures).behind
    c.named.ensures.none c.named.ensures.some
