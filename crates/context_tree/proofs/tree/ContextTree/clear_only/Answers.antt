use Rattle.context_tree.proofs.Base.{List, refl, sym, ap, ◌∙◌, subst}
use Rattle.context_tree.proofs.Words.{What, NodeId}
use Rattle.context_tree.proofs.Seen.{hooks_count, hooks_words, reset_says, reset_silent, reset_none, reset_did, reset_sound, node_agrees, back_sound}
use Rattle.context_tree.proofs.tree.ContextTree.clear_only.Goals as goal

pub reset-requires-clause-agrees : goal.reset-requires-clause-agrees
reset-requires-clause-agrees g c = node_agrees c.self.view_is c.requires.agrees c.node_at.result.number c.get_mut-node.ensures.value

pub reset-requires-clause-sound : goal.reset-requires-clause-sound
reset-requires-clause-sound g c = c.self.invariant.each c.node_at.result.number _ c.get_mut-node.ensures.value

pub reset-requires-clause-count : goal.reset-requires-clause-count
reset-requires-clause-count g c =
    hooks_count c.self.view_is c.self.invariant c.requires.agrees (ap (λ (x : NodeId). x.number) c.node_at.ensures) c.get_mut-node.ensures.value c.requires.hooks

pub reset-requires-clause-words : goal.reset-requires-clause-words
reset-requires-clause-words g c =
    hooks_words c.self.view_is c.self.invariant c.requires.agrees (ap (λ (x : NodeId). x.number) c.node_at.ensures) c.get_mut-node.ensures.value c.requires.hooks

pub invariant_of-self : goal.invariant_of-self
invariant_of-self g c =
    reset_sound c.self.view_is c.self.invariant c.requires.agrees (ap (λ (x : NodeId). x.number) c.node_at.ensures) c.get_mut-node.ensures.value c.requires.hooks c.reset.ensures.cleared

pub returns-then-is_used-clause-did : goal.returns-then-is_used-clause-did
returns-then-is_used-clause-did g c =
    reset_did c.self.view_is c.self.invariant c.requires.agrees (ap (λ (x : NodeId). x.number) c.node_at.ensures) c.get_mut-node.ensures.value c.requires.hooks c.reset.ensures.cleared
    (sym c.is_used.ensures ∙ c.if-is_used.true)

pub returns-then-is_used-clause-emits : goal.returns-then-is_used-clause-emits
returns-then-is_used-clause-emits g c =
    subst (λ (x : List What). g.E.Emit.emits c.args.out.now x c.reset.new.out)
    (reset_says c.self.view_is c.self.invariant c.requires.agrees (ap (λ (x : NodeId). x.number) c.node_at.ensures) c.get_mut-node.ensures.value c.requires.hooks (sym c.is_used.ensures ∙ c.if-is_used.true))
    c.reset.ensures.emits

pub invariant_of-self-else-is_used : goal.invariant_of-self-else-is_used
invariant_of-self-else-is_used g c = back_sound c.self.view_is c.self.invariant c.requires.agrees c.node_at.result.number c.get_mut-node.ensures.value refl

pub returns-else-is_used-clause-did : goal.returns-else-is_used-clause-did
returns-else-is_used-clause-did g c =
    reset_none c.self.view_is c.self.invariant c.requires.agrees (ap (λ (x : NodeId). x.number) c.node_at.ensures) c.get_mut-node.ensures.value c.requires.hooks (sym c.is_used.ensures ∙ c.if-is_used.false)

pub returns-else-is_used-clause-emits : goal.returns-else-is_used-clause-emits
returns-else-is_used-clause-emits g c =
    subst (λ (x : List What). g.E.Emit.emits c.args.out.now x c.args.out.now)
    (reset_silent c.self.view_is c.self.invariant c.requires.agrees (ap (λ (x : NodeId). x.number) c.node_at.ensures) c.get_mut-node.ensures.value c.requires.hooks (sym c.is_used.ensures ∙ c.if-is_used.false))
    (g.met.E.Emit.emits_none c.args.out.now)
