-- All below the context goes, and then the context itself.
use Rattle.context_tree.proofs.Base.{[], ap, subst}
use Rattle.context_tree.proofs.Words.{Forest, Once, Ended, Kept, TreeState}
use Rattle.context_tree.proofs.Lemmas.{once_of, once_stands, apart_below, now_hooks, now_bare, now_apart, gone_is, gone_did}
use Rattle.context_tree.proofs.tree.ContextTree.gone.Goals as goal

pub clear_children-requires-clause-apart : goal.clear_children-requires-clause-apart
clear_children-requires-clause-apart g c =
    let s = c.args.space.now in
    apart_below c.args.at.number c.args.self.now.current.number _
    (once_stands c.args.self.now s (subst (λ (f : Forest Kept). Once f) (ap (λ (t : TreeState). t.kept) c.self.view_is) (once_of _ _ _ _ _ _ _ _ c.self.invariant s [])))
    c.requires.apart

pub drop_one-requires-clause-agrees : goal.drop_one-requires-clause-agrees
drop_one-requires-clause-agrees g c = c.clear_children.ensures.did.moves.agrees

pub drop_one-requires-clause-hooks : goal.drop_one-requires-clause-hooks
drop_one-requires-clause-hooks g c = now_hooks c.args.at _ _ _ _ _ _ c.clear_children.ensures.did

pub drop_one-requires-clause-leaf : goal.drop_one-requires-clause-leaf
drop_one-requires-clause-leaf g c = now_bare c.args.at _ _ _ _ _ _ c.clear_children.ensures.did

pub drop_one-requires-clause-apart : goal.drop_one-requires-clause-apart
drop_one-requires-clause-apart g c = now_apart c.args.at _ _ _ _ _ _ c.clear_children.ensures.did c.requires.apart

pub returns-clause-did : goal.returns-clause-did
returns-clause-did g c = gone_did c.args.at _ _ _ _ _ _ c.clear_children.ensures.did _ _ _ c.drop_one.ensures.did

pub returns-clause-emits : goal.returns-clause-emits
returns-clause-emits g c =
    g.met.E.Emit.emits_more _ _ _ _ _ _ c.clear_children.ensures.emits c.drop_one.ensures.emits
    (ap (λ (e : Ended). e.events) (gone_is c.args.at _ _ _ _ _ _ c.clear_children.ensures.did))
