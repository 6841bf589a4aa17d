use Rattle.context_tree.proofs.Base.{sym, subst}
use Rattle.context_tree.proofs.Words.{TreeState, no_contexts, Agrees, Moves}
use Rattle.context_tree.proofs.Lemmas.{tree_of, agrees_bare, moves_bare}
use Rattle.context_tree.proofs.tree.ContextTree.give_up.Goals as goal

pub give_all_back-requires-clause-agrees : goal.give_all_back-requires-clause-agrees
give_all_back-requires-clause-agrees g c =
    let a : TreeState = tree_of c.self.inside.nodes c.self.inside.account c.self.inside.current c.self.inside.next in
    (c.self.inside.account, agrees_bare a c.args.space.now (subst (λ (x : TreeState). Agrees x c.args.space.now) (sym c.self.view_is) c.requires))

pub returns-clause-moves : goal.returns-clause-moves
returns-clause-moves g c =
    let a : TreeState = tree_of c.self.inside.nodes c.self.inside.account c.self.inside.current c.self.inside.next in
    subst (λ (x : TreeState). Moves x (no_contexts x.account) c.args.space.now c.give_all_back.new.space) c.self.view_is
    (moves_bare a (no_contexts c.self.inside.account) c.args.space.now c.give_all_back.new.space
    (c.give_all_back.ensures.moves c.self.inside.account (agrees_bare a c.args.space.now (subst (λ (x : TreeState). Agrees x c.args.space.now) (sym c.self.view_is) c.requires))))
