use Rattle.context_tree.proofs.Base.{◌≡◌, ℕ, OnErr, Err, refl, sym, ◌∙◌, subst, arith, err_from_is_err_and}
use Rattle.context_tree.proofs.Words.{Asks, Asks-more, TreeError, AsksPart}
use Rattle.context_tree.proofs.Lemmas.{part_more, tree_more}
use Rattle.context_tree.proofs.tree.ContextTree.open.Goals as goal

pub returns-in_err-add_own-2-clause-moves : goal.returns-in_err-add_own-2-clause-moves
returns-in_err-add_own-2-clause-moves g c =
    tree_more c.args.self.now c.add_own.new.self c.add_own-2.new.self c.args.space.now c.add_own.new.space c.add_own-2.new.space c.add_own.ensures.moves c.add_own-2.ensures.moves

pub returns-in_err-add_own-3-clause-moves : goal.returns-in_err-add_own-3-clause-moves
returns-in_err-add_own-3-clause-moves g c =
    tree_more c.args.self.now c.add_own-2.new.self c.add_own-3.new.self c.args.space.now c.add_own-2.new.space c.add_own-3.new.space
    (tree_more c.args.self.now c.add_own.new.self c.add_own-2.new.self c.args.space.now c.add_own.new.space c.add_own-2.new.space c.add_own.ensures.moves c.add_own-2.ensures.moves) c.add_own-3.ensures.moves

pub returns-in_err-add_own-4-clause-moves : goal.returns-in_err-add_own-4-clause-moves
returns-in_err-add_own-4-clause-moves g c =
    tree_more c.args.self.now c.add_own-3.new.self c.add_own-4.new.self c.args.space.now c.add_own-3.new.space c.add_own-4.new.space
    (tree_more c.args.self.now c.add_own-2.new.self c.add_own-3.new.self c.args.space.now c.add_own-2.new.space c.add_own-3.new.space
    (tree_more c.args.self.now c.add_own.new.self c.add_own-2.new.self c.args.space.now c.add_own.new.space c.add_own-2.new.space c.add_own.ensures.moves c.add_own-2.ensures.moves) c.add_own-3.ensures.moves) c.add_own-4.ensures.moves

pub returns-clause-moves : goal.returns-clause-moves
returns-clause-moves g c =
    tree_more c.args.self.now c.add_own-3.new.self c.add_own-4.new.self c.args.space.now c.add_own-3.new.space c.add_own-4.new.space
    (tree_more c.args.self.now c.add_own-2.new.self c.add_own-3.new.self c.args.space.now c.add_own-2.new.space c.add_own-3.new.space
    (tree_more c.args.self.now c.add_own.new.self c.add_own-2.new.self c.args.space.now c.add_own.new.space c.add_own-2.new.space c.add_own.ensures.moves c.add_own-2.ensures.moves) c.add_own-3.ensures.moves) c.add_own-4.ensures.moves

pub returns-clause-asked : goal.returns-clause-asked
returns-clause-asked g c =
    let account = c.args.self.now.account in
    let s = c.args.space.now in
    let t = c.add_own.new.space in
    let u = c.add_own-2.new.space in
    let v = c.add_own-3.new.space in
    let w = c.add_own-4.new.space in
    let one : c.add_own.new.self.account ≡ account = c.add_own.ensures.moves.account in
    let two : c.add_own-2.new.self.account ≡ account = c.add_own-2.ensures.moves.account ∙ one in
    let three : c.add_own-3.new.self.account ≡ account = c.add_own-3.ensures.moves.account ∙ two in
    let second : Asks account 8192 t u = subst (λ (a : ℕ). Asks a 8192 t u) one c.in_ok-add_own-2.ensures.asked in
    let third : Asks account 8192 u v = subst (λ (a : ℕ). Asks a 8192 u v) two c.in_ok-add_own-3.ensures.asked in
    let fourth : Asks account 32768 v w = subst (λ (a : ℕ). Asks a 32768 v w) three c.in_ok-add_own-4.ensures.asked in
    Asks-more account 24576 32768 s v w (Asks-more account 16384 8192 s u v (Asks-more account 8192 8192 s t u c.in_ok-add_own.ensures.asked second) third) fourth

pub returns-in_err-add_own-clause-err_asked : goal.returns-in_err-add_own-clause-err_asked
returns-in_err-add_own-clause-err_asked g c =
    let e : TreeError = c.in_err-add_own.field-0.0 in
    let p : c.from_residual.result ≡ Err e = (let q = err_from_is_err_and c.from_residual.result c.from_residual.ensures.1 in cc) in
    let account = c.args.self.now.account in
    let s = c.args.space.now in
    let t = c.add_own.new.space in
    subst (λ r. OnErr r (AsksPart account 57344 s t)) (sym p)
    (part_more account 0 8192 57344 s s t (omega arith) refl c.in_err-add_own.ensures.err_asked)

pub returns-in_err-add_own-2-clause-err_asked : goal.returns-in_err-add_own-2-clause-err_asked
returns-in_err-add_own-2-clause-err_asked g c =
    let e : TreeError = c.in_err-add_own-2.field-0.0 in
    let p : c.from_residual-in_err-add_own-2.result ≡ Err e = (let q = err_from_is_err_and c.from_residual-in_err-add_own-2.result c.from_residual-in_err-add_own-2.ensures.1 in cc) in
    let account = c.args.self.now.account in
    let s = c.args.space.now in
    let t = c.add_own.new.space in
    let u = c.add_own-2.new.space in
    let one : c.add_own.new.self.account ≡ account = c.add_own.ensures.moves.account in
    subst (λ r. OnErr r (AsksPart account 57344 s u)) (sym p)
    (part_more account 8192 8192 57344 s t u (omega arith) c.in_ok-add_own.ensures.asked (subst (λ (a : ℕ). AsksPart a 8192 t u) one c.in_err-add_own-2.ensures.err_asked))

pub returns-in_err-add_own-3-clause-err_asked : goal.returns-in_err-add_own-3-clause-err_asked
returns-in_err-add_own-3-clause-err_asked g c =
    let e : TreeError = c.in_err-add_own-3.field-0.0 in
    let p : c.from_residual-in_err-add_own-3.result ≡ Err e = (let q = err_from_is_err_and c.from_residual-in_err-add_own-3.result c.from_residual-in_err-add_own-3.ensures.1 in cc) in
    let account = c.args.self.now.account in
    let s = c.args.space.now in
    let t = c.add_own.new.space in
    let u = c.add_own-2.new.space in
    let v = c.add_own-3.new.space in
    let one : c.add_own.new.self.account ≡ account = c.add_own.ensures.moves.account in
    let two : c.add_own-2.new.self.account ≡ account = c.add_own-2.ensures.moves.account ∙ one in
    subst (λ r. OnErr r (AsksPart account 57344 s v)) (sym p)
    (part_more account 16384 8192 57344 s u v (omega arith) (Asks-more account 8192 8192 s t u c.in_ok-add_own.ensures.asked (subst (λ (a : ℕ). Asks a 8192 t u) one c.in_ok-add_own-2.ensures.asked)) (subst (λ (a : ℕ). AsksPart a 8192 u v) two c.in_err-add_own-3.ensures.err_asked))

pub returns-in_err-add_own-4-clause-err_asked : goal.returns-in_err-add_own-4-clause-err_asked
returns-in_err-add_own-4-clause-err_asked g c =
    let e : TreeError = c.in_err-add_own-4.field-0.0 in
    let p : c.from_residual-in_err-add_own-4.result ≡ Err e = (let q = err_from_is_err_and c.from_residual-in_err-add_own-4.result c.from_residual-in_err-add_own-4.ensures.1 in cc) in
    let account = c.args.self.now.account in
    let s = c.args.space.now in
    let t = c.add_own.new.space in
    let u = c.add_own-2.new.space in
    let v = c.add_own-3.new.space in
    let w = c.add_own-4.new.space in
    let one : c.add_own.new.self.account ≡ account = c.add_own.ensures.moves.account in
    let two : c.add_own-2.new.self.account ≡ account = c.add_own-2.ensures.moves.account ∙ one in
    let three : c.add_own-3.new.self.account ≡ account = c.add_own-3.ensures.moves.account ∙ two in
    subst (λ r. OnErr r (AsksPart account 57344 s w)) (sym p)
    (part_more account 24576 32768 57344 s v w (omega arith) (Asks-more account 16384 8192 s u v (Asks-more account 8192 8192 s t u c.in_ok-add_own.ensures.asked (subst (λ (a : ℕ). Asks a 8192 t u) one c.in_ok-add_own-2.ensures.asked))
    (subst (λ (a : ℕ). Asks a 8192 u v) two c.in_ok-add_own-3.ensures.asked)) (subst (λ (a : ℕ). AsksPart a 32768 v w) three c.in_err-add_own-4.ensures.err_asked))
