-- All below the context goes, and then it is reset itself.
use Rattle.context_tree.proofs.Base.{ap, sym, ◌∙◌}
use Rattle.context_tree.proofs.Words.{Ended}
use Rattle.context_tree.proofs.Lemmas.{now_hooks, cleared_is, cleared_did}
use Rattle.context_tree.proofs.tree.ContextTree.reset.Goals as goal

pub clear_children-requires-clause-apart : goal.clear_children-requires-clause-apart
clear_children-requires-clause-apart g c = sym (c.is_current_below.ensures c.args.space.now) ∙ c.if-is_current_below.false

pub clear_only-requires-clause-agrees : goal.clear_only-requires-clause-agrees
clear_only-requires-clause-agrees g c = c.clear_children.ensures.did.moves.agrees

pub clear_only-requires-clause-hooks : goal.clear_only-requires-clause-hooks
clear_only-requires-clause-hooks g c = now_hooks c.args.at _ _ _ _ _ _ c.clear_children.ensures.did

pub returns-clause-did : goal.returns-clause-did
returns-clause-did g c = cleared_did c.args.at _ _ _ _ _ _ c.clear_children.ensures.did _ _ _ c.clear_only.ensures.did

pub returns-clause-emits : goal.returns-clause-emits
returns-clause-emits g c =
    g.met.E.Emit.emits_more _ _ _ _ _ _ c.clear_children.ensures.emits c.clear_only.ensures.emits
    (ap (λ (e : Ended). e.events) (cleared_is c.args.at _ _ _ _ _ _ c.clear_children.ensures.did))
