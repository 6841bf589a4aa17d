use Rattle.context_tree.proofs.Base.{◌≡◌, ℕ, Err, IfErr, OnErr, sym, subst, err_from_is_err_and}
use Rattle.context_tree.proofs.Words.{Asks, Asks-more, TreeError, no_contexts, SameRegions, AsksPart, AsksPartInVain}
use Rattle.context_tree.proofs.Lemmas.{regions_back, opening_in_vain, topmost_in_vain, tree_more, regions_same}
use Rattle.context_tree.proofs.tree.ContextTree.new.Goals as goal

pub returns-in_err-tree-clause-err_space : goal.returns-in_err-tree-clause-err_space
returns-in_err-tree-clause-err_space g c =
    let e : TreeError = c.in_err-tree.field-0.0 in
    let p : c.from_residual.result ≡ Err e = (let q = err_from_is_err_and c.from_residual.result c.from_residual.ensures.1 in cc) in
    subst (λ r. OnErr r (SameRegions c.args.space.now c.topmost.new.space)) (sym p) (regions_back c.args.account c.args.space.now c.topmost.new.space c.in_err-tree.ensures.err_space)

pub returns-in-Ok-clause-moves : goal.returns-in-Ok-clause-moves
returns-in-Ok-clause-moves g c =
    tree_more (no_contexts c.args.account) c.in_ok-tree.tree c.open.new.self c.args.space.now c.topmost.new.space c.open.new.space c.in_ok-tree.ensures.moves c.open.ensures.moves

pub returns-in-Ok-clause-asked : goal.returns-in-Ok-clause-asked
returns-in-Ok-clause-asked g c =
    Asks-more c.args.account 8192 57344 c.args.space.now c.topmost.new.space c.open.new.space c.in_ok-tree.ensures.asked
    (subst (λ (a : ℕ). Asks a 57344 c.topmost.new.space c.open.new.space) c.in_ok-tree.ensures.account c.in-Ok.ensures.asked)

pub returns-in-Err-clause-err_space : goal.returns-in-Err-clause-err_space
returns-in-Err-clause-err_space g c =
    regions_same c.args.account c.open.new.self.account c.args.space.now c.give_up.new.space
    (tree_more (no_contexts c.args.account) c.open.new.self (no_contexts c.open.new.self.account) c.args.space.now c.open.new.space c.give_up.new.space
    (tree_more (no_contexts c.args.account) c.in_ok-tree.tree c.open.new.self c.args.space.now c.topmost.new.space c.open.new.space c.in_ok-tree.ensures.moves c.open.ensures.moves)
    c.give_up.ensures.moves)

pub returns-in_err-tree-clause-err_asked : goal.returns-in_err-tree-clause-err_asked
returns-in_err-tree-clause-err_asked g c =
    let e : TreeError = c.in_err-tree.field-0.0 in
    let p : c.from_residual.result ≡ Err e = (let q = err_from_is_err_and c.from_residual.result c.from_residual.ensures.1 in cc) in
    subst (λ r. IfErr r (λ x. AsksPartInVain x c.args.account 65536 c.args.space.now c.topmost.new.space)) (sym p)
    (topmost_in_vain e c.args.account c.args.space.now c.topmost.new.space c.in_err-tree.ensures.err_asked)

pub returns-in-Err-clause-err_asked : goal.returns-in-Err-clause-err_asked
returns-in-Err-clause-err_asked g c =
    opening_in_vain c.args.account c.args.space.now c.topmost.new.space c.open.new.space c.give_up.new.space c.in_ok-tree.ensures.asked
    (subst (λ (a : ℕ). AsksPart a 57344 c.topmost.new.space c.open.new.space) c.in_ok-tree.ensures.account c.in-Err.ensures.err_asked)
    (c.give_up.ensures.asked c.args.account)
