use Rattle.forest.proofs.Seen.{contains, named_is}
use Rattle.forest.proofs.Calls.{forest_is, neighbours, stand_all, names_parent}
use Rattle.forest.proofs.arena.LinkedForest.parent.Goals as goal

pub index-requires : goal.index-requires
index-requires g c = contains c.self.inside.nodes c.self.inside.first _ c.args.id c.self.invariant c.self.view_is c.requires

pub named-requires : goal.named-requires
named-requires g c = (neighbours c.self.inside.nodes c.self.inside.first _ c.args.id c.index.result.now c.self.invariant c.self.view_is c.requires c.index.ensures).above

pub returns : goal.returns
returns g c =
    let s = c.self.invariant in
    let nodes = c.self.inside.nodes in
    named_is nodes c.self.inside.first _ s c.self.view_is c.index.result.now.parent _ c.named.result
    (rw (← forest_is nodes c.self.inside.first _ s c.self.view_is) (names_parent nodes c.self.inside.first _ c.args.id c.index.result.now s c.self.view_is c.requires c.index.ensures))
    (stand_all nodes c.self.inside.first _ c.args.id c.index.result.now s c.self.view_is c.requires c.index.ensures).above
    c.named.ensures.none c.named.ensures.some
