use Rattle.context_tree.proofs.Base.{◌≡◌, ap, ◌∙◌, get}
use Rattle.context_tree.proofs.Words.{NodeId, at, children, Kept, same, TreeState, without_context}
use Rattle.context_tree.proofs.Lemmas.{leaf_kept}
use Rattle.context_tree.proofs.Seen.{hooks_count, hooks_words, drop_says, drop_did, drop_sound, node_agrees}
use Rattle.context_tree.proofs.tree.ContextTree.drop_one.Goals as goal

pub remove-node-requires-clause-leaf : goal.remove-node-requires-clause-leaf
remove-node-requires-clause-leaf g c =
    ap (λ (x : NodeId). children x.number c.self.inside.nodes.forest) c.node_at-id.ensures
    ∙ ap (λ (t : TreeState). children c.args.at.number t.kept) c.self.view_is
    ∙ leaf_kept c.args.self.now c.args.space.now c.args.at.number c.requires.leaf

pub end-requires-clause-agrees : goal.end-requires-clause-agrees
end-requires-clause-agrees g c = node_agrees c.self.view_is c.requires.agrees c.node_at-id.result.number c.remove-node.ensures.value

pub end-requires-clause-sound : goal.end-requires-clause-sound
end-requires-clause-sound g c = c.self.invariant.each c.node_at-id.result.number _ c.remove-node.ensures.value

pub end-requires-clause-count : goal.end-requires-clause-count
end-requires-clause-count g c =
    hooks_count c.self.view_is c.self.invariant c.requires.agrees (ap (λ (x : NodeId). x.number) c.node_at-id.ensures) c.remove-node.ensures.value c.requires.hooks

pub end-requires-clause-words : goal.end-requires-clause-words
end-requires-clause-words g c =
    hooks_words c.self.view_is c.self.invariant c.requires.agrees (ap (λ (x : NodeId). x.number) c.node_at-id.ensures) c.remove-node.ensures.value c.requires.hooks

pub invariant_of-self : goal.invariant_of-self
invariant_of-self g c =
    let same_node : c.get.result.now ≡ c.remove-node.result = cc (c.get.ensures, c.remove-node.ensures.value) in
    drop_sound c.self.view_is c.self.invariant c.requires.agrees (ap (λ (x : NodeId). x.number) c.node_at-id.ensures) c.remove-node.ensures.value c.requires.hooks c.requires.leaf c.end.ensures.went
    c.remove-node.new.self.forest c.remove-node.new.self.places c.remove-node.ensures.forest c.remove-node.ensures.places c.remove-node.ensures.stays
    (get same c.forget_name.new.names) (λ w. c.forget_name.ensures w ∙ ap (λ (k : Kept). without_context k.protected k.name (get same c.self.inside.names) w) same_node) c.requires.apart

pub returns-clause-did : goal.returns-clause-did
returns-clause-did g c =
    drop_did c.self.view_is c.self.invariant c.requires.agrees (ap (λ (x : NodeId). x.number) c.node_at-id.ensures) c.remove-node.ensures.value c.requires.hooks c.requires.leaf c.end.ensures.went
    c.remove-node.new.self.forest c.remove-node.new.self.places c.remove-node.ensures.forest c.remove-node.ensures.places c.remove-node.ensures.stays

pub returns-clause-emits : goal.returns-clause-emits
returns-clause-emits g c =
    g.met.E.Emit.emits_more _ _ _ _ _ _ c.end.ensures.emits c.tell_deleted.ensures
    (drop_says c.self.view_is c.self.invariant c.requires.agrees (ap (λ (x : NodeId). x.number) c.node_at-id.ensures) c.remove-node.ensures.value c.requires.hooks c.requires.leaf)
