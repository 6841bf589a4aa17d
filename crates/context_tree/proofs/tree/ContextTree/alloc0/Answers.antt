use Rattle.context_tree.proofs.Base.{◌≡◌, Err, ap, err_from_is_err_and, get}
use Rattle.context_tree.proofs.Words.{NodeId, at, same}
use Rattle.context_tree.proofs.Lemmas.{sound_names, entry_unplaced, unnamed}
use Rattle.context_tree.proofs.Seen.{still_moves, node_agrees, taken_none, back_is, back_moves, back_sound, took_none, took_contexts, took_moves, took_asked, took_served, sound_taken, on_err_of}
use Rattle.context_tree.proofs.tree.ContextTree.alloc0.Goals as goal

pub invariant_of-self : goal.invariant_of-self
invariant_of-self g c = sound_names _ _ _ _ _ _ _ _ c.self.invariant _ c.room_for_chunk.ensures.names

pub returns-in_err-room_for_chunk-clause-moves : goal.returns-in_err-room_for_chunk-clause-moves
returns-in_err-room_for_chunk-clause-moves g c = still_moves c.self.view_is c.requires.agrees

pub returns-in_err-room_for_chunk-clause-refused : goal.returns-in_err-room_for_chunk-clause-refused
returns-in_err-room_for_chunk-clause-refused g c =
    let p : c.from_residual.result ≡ Err c.in_err-room_for_chunk.field-0.0 = (let q = err_from_is_err_and c.from_residual.result c.from_residual.ensures.1 in cc) in
    rw p (taken_none c.self.view_is c.self.invariant c.requires.agrees c.args.at.number c.args.size c.args.chunk c.in_err-room_for_chunk.field-0.0 c.in_err-room_for_chunk.ensures.refused)

pub invariant_of-self-in_default : goal.invariant_of-self-in_default
invariant_of-self-in_default g c = sound_names _ _ _ _ _ _ _ _ c.self.invariant _ c.room_for_chunk.ensures.names

pub returns-in_default-clause-moves : goal.returns-in_default-clause-moves
returns-in_default-clause-moves g c = still_moves c.self.view_is c.requires.agrees

pub alloc0-requires-clause-agrees : goal.alloc0-requires-clause-agrees
alloc0-requires-clause-agrees g c = node_agrees c.self.view_is c.requires.agrees c.node_at.result.number c.get_mut-node.ensures.value

pub alloc0-requires-clause-unplaced : goal.alloc0-requires-clause-unplaced
alloc0-requires-clause-unplaced g c = entry_unplaced _ _ _ _ _ _ _ _ c.self.invariant c.node_at.result.number c.get_mut-node.result.now c.get_mut-node.ensures.value

pub invariant_of-self-in_err-entry : goal.invariant_of-self-in_err-entry
invariant_of-self-in_err-entry g c =
    back_sound c.self.view_is (sound_names _ _ _ _ _ _ _ _ c.self.invariant _ c.room_for_chunk.ensures.names) c.requires.agrees c.node_at.result.number c.get_mut-node.ensures.value c.in_err-entry.ensures.err

pub returns-in_err-entry-clause-moves : goal.returns-in_err-entry-clause-moves
returns-in_err-entry-clause-moves g c =
    back_moves c.self.view_is c.self.invariant c.requires.agrees c.node_at.result.number c.get_mut-node.ensures.value c.in_err-entry.ensures.err c.in_err-entry.ensures.err_space

pub returns-in_err-entry-clause-refused : goal.returns-in_err-entry-clause-refused
returns-in_err-entry-clause-refused g c =
    let p : c.from_residual-in_err-entry.result ≡ Err c.in_err-entry.field-0.0 = (let q = err_from_is_err_and c.from_residual-in_err-entry.result c.from_residual-in_err-entry.ensures.1 in cc) in
    rw p
    (took_none c.self.view_is c.self.invariant c.requires.agrees (ap (λ (x : NodeId). x.number) c.node_at.ensures) c.get_mut-node.ensures.value c.args.chunk c.args.size c.in_ok-room_for_chunk.ensures.unnamed c.in_err-entry.field-0.0 c.in_err-entry.ensures.refused)

pub returns-in_err-entry-clause-err : goal.returns-in_err-entry-clause-err
returns-in_err-entry-clause-err g c =
    on_err_of _ (back_is c.self.view_is c.self.invariant c.requires.agrees c.node_at.result.number c.get_mut-node.ensures.value c.in_err-entry.ensures.err)

pub invariant_of-self-2 : goal.invariant_of-self-2
invariant_of-self-2 g c =
    sound_taken c.self.view_is c.self.invariant c.requires.agrees (ap (λ (x : NodeId). x.number) c.node_at.ensures) c.get_mut-node.ensures.value c.args.chunk c.args.size
    c.in_ok-room_for_chunk.ensures.unnamed c.in_ok-entry.ensures.took
    c.args.at.slot c.requires.live (get same c.room_for_chunk.new.names) (get same c.enter_chunk.new.names) c.room_for_chunk.ensures.names c.in_ok-entry.entry.number c.in_ok-entry.ensures.number _
    c.in-Some.ensures.1 c.enter_chunk.ensures

pub returns-clause-contexts : goal.returns-clause-contexts
returns-clause-contexts g c =
    took_contexts c.self.view_is c.self.invariant c.requires.agrees (ap (λ (x : NodeId). x.number) c.node_at.ensures) c.get_mut-node.ensures.value c.args.chunk c.args.size
    c.in_ok-room_for_chunk.ensures.unnamed c.in_ok-entry.ensures.took

pub returns-clause-moves : goal.returns-clause-moves
returns-clause-moves g c =
    took_moves c.self.view_is c.self.invariant c.requires.agrees (ap (λ (x : NodeId). x.number) c.node_at.ensures) c.get_mut-node.ensures.value c.args.chunk c.args.size
    c.in_ok-room_for_chunk.ensures.unnamed c.in_ok-entry.ensures.took

pub returns-clause-asked : goal.returns-clause-asked
returns-clause-asked g c =
    took_asked c.self.view_is c.self.invariant c.requires.agrees (ap (λ (x : NodeId). x.number) c.node_at.ensures) c.get_mut-node.ensures.value c.args.chunk c.args.size
    c.in_ok-room_for_chunk.ensures.unnamed c.in_ok-entry.ensures.took

pub returns-clause-served : goal.returns-clause-served
returns-clause-served g c =
    took_served c.self.view_is c.self.invariant c.requires.agrees (ap (λ (x : NodeId). x.number) c.node_at.ensures) c.get_mut-node.ensures.value c.args.chunk c.args.size
    c.in_ok-room_for_chunk.ensures.unnamed c.in_ok-entry.ensures.took
