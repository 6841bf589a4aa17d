use Rattle.context_tree.proofs.Base.{◌≡◌, Err, sym, ap, err_from_is_err_and}
use Rattle.context_tree.proofs.Words.{NodeId, at, written}
use Rattle.context_tree.proofs.Seen.{node_agrees, back_is, back_moves, back_sound, put_refused, put_answer, wrote_contexts, wrote_moves, wrote_sound, on_err_of}
use Rattle.context_tree.proofs.tree.ContextTree.put.Goals as goal

pub put-requires-clause-agrees : goal.put-requires-clause-agrees
put-requires-clause-agrees g c = node_agrees c.self.view_is c.requires.agrees c.node_at.result.number c.get_mut-node.ensures.value

pub invariant_of-self : goal.invariant_of-self
invariant_of-self g c = back_sound c.self.view_is c.self.invariant c.requires.agrees c.node_at.result.number c.get_mut-node.ensures.value c.in_err-put.ensures.err

pub returns-in_err-put-clause-moves : goal.returns-in_err-put-clause-moves
returns-in_err-put-clause-moves g c =
    back_moves c.self.view_is c.self.invariant c.requires.agrees c.node_at.result.number c.get_mut-node.ensures.value c.in_err-put.ensures.err c.in_err-put.ensures.err_space

pub returns-in_err-put-clause-err : goal.returns-in_err-put-clause-err
returns-in_err-put-clause-err g c = on_err_of _ (back_is c.self.view_is c.self.invariant c.requires.agrees c.node_at.result.number c.get_mut-node.ensures.value c.in_err-put.ensures.err)

pub returns-in_err-put-clause-answer : goal.returns-in_err-put-clause-answer
returns-in_err-put-clause-answer g c =
    let p : c.from_residual.result ≡ Err c.in_err-put.field-0.0 = (let q = err_from_is_err_and c.from_residual.result c.from_residual.ensures.1 in cc) in
    rw p
    (sym (put_refused c.self.view_is c.self.invariant c.requires.agrees c.in-Some.ensures.some (ap (λ (x : NodeId). x.number) c.node_at.ensures) c.get_mut-node.ensures.value c.put.new.self c.args.at c.args.bytes.now c.in_err-put.field-0.0 c.in_err-put.ensures.refused))

pub invariant_of-self-2 : goal.invariant_of-self-2
invariant_of-self-2 g c =
    wrote_sound c.self.view_is c.self.invariant c.requires.agrees c.in-Some.ensures.some (ap (λ (x : NodeId). x.number) c.node_at.ensures) c.get_mut-node.ensures.value c.in_ok-put.ensures.written

pub returns-clause-answer : goal.returns-clause-answer
returns-clause-answer g c =
    put_answer c.self.view_is c.self.invariant c.requires.agrees c.in-Some.ensures.some (ap (λ (x : NodeId). x.number) c.node_at.ensures) c.get_mut-node.ensures.value c.in_ok-put.ensures.written

pub returns-clause-contexts : goal.returns-clause-contexts
returns-clause-contexts g c =
    wrote_contexts c.self.view_is c.self.invariant c.requires.agrees c.in-Some.ensures.some (ap (λ (x : NodeId). x.number) c.node_at.ensures) c.get_mut-node.ensures.value c.in_ok-put.ensures.written

pub returns-clause-moves : goal.returns-clause-moves
returns-clause-moves g c =
    wrote_moves c.self.view_is c.self.invariant c.requires.agrees c.in-Some.ensures.some (ap (λ (x : NodeId). x.number) c.node_at.ensures) c.get_mut-node.ensures.value c.in_ok-put.ensures.written
