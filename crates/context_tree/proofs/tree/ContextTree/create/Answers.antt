use Rattle.context_tree.proofs.Base.{◌≡◌, ◌⊎◌, ℕ, [], ◌∷◌, Some, Result, Err, IfErr, sym, ap, subst, err_from_is_err_and}
use Rattle.context_tree.proofs.Words.{CtxId, Create, create_refusal, TreeError, Memory, first_size, AsksInVain, TreeState, place_of, stands_for, left_of}
use Rattle.context_tree.proofs.tree.ContextTree.create.Goals as goal

pub returns-in_err-id-clause-refused : goal.returns-in_err-id-clause-refused
returns-in_err-id-clause-refused g c =
    let e : TreeError = c.in_err-id.field-0.0 in
    let p : c.from_residual.result ≡ Err e = (let q = err_from_is_err_and c.from_residual.result c.from_residual.ensures.1 in cc) in
    subst (λ (r : Result CtxId TreeError). IfErr r (λ x. (x ≡ Memory) ⊎ (create_refusal (left_of c.args.self.now c.args.space.now) c.args.name c.args.kind c.args.protected (stands_for c.args.self.now c.args.space.now) ≡ Some x))) (sym p)
    c.in_err-id.ensures.refused

pub returns-in_err-id-clause-stays : goal.returns-in_err-id-clause-stays
returns-in_err-id-clause-stays g c n ne = ap (λ (x : TreeState). place_of x n) c.in_err-id.ensures.err

pub returns-in_err-id-clause-current : goal.returns-in_err-id-clause-current
returns-in_err-id-clause-current g c = ap (λ (x : TreeState). x.current) c.in_err-id.ensures.err

pub returns-clause-number : goal.returns-clause-number
returns-clause-number g c = c.in_ok-id.ensures.added.number

pub returns-clause-contexts : goal.returns-clause-contexts
returns-clause-contexts g c = c.in_ok-id.ensures.added.contexts

pub returns-clause-places : goal.returns-clause-places
returns-clause-places g c = c.in_ok-id.ensures.added.places

pub returns-clause-live : goal.returns-clause-live
returns-clause-live g c = c.in_ok-id.ensures.added.live

pub returns-clause-stays : goal.returns-clause-stays
returns-clause-stays g c = c.in_ok-id.ensures.added.stays

pub returns-clause-current : goal.returns-clause-current
returns-clause-current g c = c.in_ok-id.ensures.added.current

pub returns-clause-next : goal.returns-clause-next
returns-clause-next g c = c.in_ok-id.ensures.added.next

pub returns-clause-asked : goal.returns-clause-asked
returns-clause-asked g c = c.in_ok-id.ensures.added.asked

pub returns-clause-served : goal.returns-clause-served
returns-clause-served g c = c.in_ok-id.ensures.added.served

pub returns-clause-emits : goal.returns-clause-emits
returns-clause-emits g c =
    subst (λ (n : ℕ). g.E.Emit.emits c.args.out.now (Create n c.args.name c.args.parent.number ∷ []) c.emit.new.self) c.in_ok-id.ensures.added.number c.emit.ensures.emitted

pub returns-in_err-id-clause-err_asked : goal.returns-in_err-id-clause-err_asked
returns-in_err-id-clause-err_asked g c =
    let e : TreeError = c.in_err-id.field-0.0 in
    let p : c.from_residual.result ≡ Err e = (let q = err_from_is_err_and c.from_residual.result c.from_residual.ensures.1 in cc) in
    subst (λ (r : Result CtxId TreeError). IfErr r (λ x. AsksInVain x c.args.self.now.account (first_size c.args.kind) c.args.space.now c.add.new.space)) (sym p)
    c.in_err-id.ensures.err_asked
