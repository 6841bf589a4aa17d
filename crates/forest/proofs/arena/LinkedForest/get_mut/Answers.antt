use Rattle.std.proofs.Common.{Some, None, refl, sym, ap, ◌∙◌, arith}
use Rattle.slab.specs.Slab.{get}
use Rattle.forest.specs.Forest.{Forest, at}
use Rattle.forest.specs.Links.{entry_of}
use Rattle.forest.proofs.Numbers.{at_agreed}
use Rattle.forest.proofs.Neighbours.{node_is}
use Rattle.forest.proofs.Seen.{stands_at, contains}
use Rattle.forest.proofs.Calls.{sound_of, written, seen_written, forest_is}
use Rattle.forest.proofs.arena.LinkedForest.get_mut.Goals as goal
use Rattle.std.proofs.lemmas.Bool.Decides.{nat_tests}

pub index_mut-requires : goal.index_mut-requires
index_mut-requires g c = contains c.self.inside.nodes c.self.inside.first _ c.args.id c.self.invariant c.self.view_is c.requires

pub invariant_of-self-lent : goal.invariant_of-self-lent
invariant_of-self-lent g c w = grind (arith, nat_tests, stands_at c.self.inside.nodes c.self.inside.first, sound_of, written c.self.inside.nodes c.self.inside.first c.args.id.slot c.args.id.number w c.index_mut.result.now c.self.invariant (stands_at c.self.inside.nodes c.self.inside.first _ c.args.id c.self.invariant c.self.view_is c.requires).stands (stands_at c.self.inside.nodes c.self.inside.first _ c.args.id c.self.invariant c.self.view_is c.requires).agree c.index_mut.ensures.value, c.self.invariant, c.self.view_is, c.requires, c.index_mut.ensures.value)

pub returns : goal.returns
returns g c =
    let s = c.self.invariant in
    let nodes = c.self.inside.nodes in
    let p = stands_at nodes c.self.inside.first _ c.args.id s c.self.view_is c.requires in
    let node = node_is (get nodes) None None c.args.id.slot c.args.id.number c.index_mut.result.now s.tree s.by_slot p.agree p.stands s.linked c.index_mut.ensures.value in (
      (refl, λ w. seen_written nodes c.self.inside.first _ c.args.id.slot c.args.id.number w c.index_mut.result.now s c.self.view_is p.stands p.agree c.index_mut.ensures.value),
      record {
        lends = tt;
        value =
            ap (λ (f : Forest g.row.T.Denot). at c.args.id.number f) (sym (forest_is nodes c.self.inside.first _ s c.self.view_is))
            ∙ (at_agreed (λ x d. d.value) c.args.id.slot c.args.id.number (entry_of c.index_mut.result.now) s.tree p.agree node.entry).1
            ∙ ap (λ x. Some x) c.value_mut.ensures.value;
      },
    )
