use Rattle.context_tree.proofs.Base.{ap}
use Rattle.context_tree.proofs.Words.{NodeId}
use Rattle.context_tree.proofs.Seen.{node_agrees, back_is, back_moves, back_sound, refit_contexts, refit_moves, refit_sound, on_err_of}
use Rattle.context_tree.proofs.tree.ContextTree.realloc.Goals as goal

pub realloc-requires-clause-agrees : goal.realloc-requires-clause-agrees
realloc-requires-clause-agrees g c = node_agrees c.self.view_is c.requires.agrees c.node_at.result.number c.get_mut-node.ensures.value

pub invariant_of-self : goal.invariant_of-self
invariant_of-self g c = back_sound c.self.view_is c.self.invariant c.requires.agrees c.node_at.result.number c.get_mut-node.ensures.value c.in_err-realloc.ensures.err

pub returns-in_err-realloc-clause-moves : goal.returns-in_err-realloc-clause-moves
returns-in_err-realloc-clause-moves g c =
    back_moves c.self.view_is c.self.invariant c.requires.agrees c.node_at.result.number c.get_mut-node.ensures.value c.in_err-realloc.ensures.err c.in_err-realloc.ensures.err_space

pub returns-in_err-realloc-clause-err : goal.returns-in_err-realloc-clause-err
returns-in_err-realloc-clause-err g c =
    on_err_of _ (back_is c.self.view_is c.self.invariant c.requires.agrees c.node_at.result.number c.get_mut-node.ensures.value c.in_err-realloc.ensures.err)

pub invariant_of-self-2 : goal.invariant_of-self-2
invariant_of-self-2 g c =
    refit_sound c.self.view_is c.self.invariant c.requires.agrees c.in-Some.ensures.some (ap (λ (x : NodeId). x.number) c.node_at.ensures) c.get_mut-node.ensures.value c.in_ok-realloc.ensures.refitted

pub returns-clause-contexts : goal.returns-clause-contexts
returns-clause-contexts g c =
    refit_contexts c.self.view_is c.self.invariant c.requires.agrees c.in-Some.ensures.some (ap (λ (x : NodeId). x.number) c.node_at.ensures) c.get_mut-node.ensures.value c.in_ok-realloc.ensures.refitted

pub returns-clause-moves : goal.returns-clause-moves
returns-clause-moves g c =
    refit_moves c.self.view_is c.self.invariant c.requires.agrees c.in-Some.ensures.some (ap (λ (x : NodeId). x.number) c.node_at.ensures) c.get_mut-node.ensures.value c.in_ok-realloc.ensures.refitted
