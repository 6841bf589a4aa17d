use Rattle.context_tree.proofs.Base.{ap, get}
use Rattle.context_tree.proofs.Words.{NodeId, freed, same}
use Rattle.context_tree.proofs.Seen.{node_agrees, back_is, back_moves, back_sound, freed_contexts, freed_moves, freed_sound, on_err_of}
use Rattle.context_tree.proofs.tree.ContextTree.free.Goals as goal

pub free-requires-clause-agrees : goal.free-requires-clause-agrees
free-requires-clause-agrees g c = node_agrees c.self.view_is c.requires.agrees c.node_at.result.number c.get_mut.ensures.value

pub invariant_of-self : goal.invariant_of-self
invariant_of-self g c = back_sound c.self.view_is c.self.invariant c.requires.agrees c.node_at.result.number c.get_mut.ensures.value c.in_err-free.ensures.err

pub returns-in_err-free-clause-moves : goal.returns-in_err-free-clause-moves
returns-in_err-free-clause-moves g c =
    back_moves c.self.view_is c.self.invariant c.requires.agrees c.node_at.result.number c.get_mut.ensures.value c.in_err-free.ensures.err c.in_err-free.ensures.err_space

pub returns-in_err-free-clause-err : goal.returns-in_err-free-clause-err
returns-in_err-free-clause-err g c = on_err_of _ (back_is c.self.view_is c.self.invariant c.requires.agrees c.node_at.result.number c.get_mut.ensures.value c.in_err-free.ensures.err)

pub invariant_of-self-2 : goal.invariant_of-self-2
invariant_of-self-2 g c =
    freed_sound c.self.view_is c.self.invariant c.requires.agrees c.in-Some.ensures.some (ap (λ (x : NodeId). x.number) c.node_at.ensures) c.get_mut.ensures.value c.in_ok-free.ensures.freed
    (get same c.remove.new.self) (λ q. c.remove.ensures.updates.0 q)

pub returns-clause-contexts : goal.returns-clause-contexts
returns-clause-contexts g c =
    freed_contexts c.self.view_is c.self.invariant c.requires.agrees c.in-Some.ensures.some (ap (λ (x : NodeId). x.number) c.node_at.ensures) c.get_mut.ensures.value c.in_ok-free.ensures.freed

pub returns-clause-moves : goal.returns-clause-moves
returns-clause-moves g c =
    freed_moves c.self.view_is c.self.invariant c.requires.agrees c.in-Some.ensures.some (ap (λ (x : NodeId). x.number) c.node_at.ensures) c.get_mut.ensures.value c.in_ok-free.ensures.freed
