use Rattle.context_tree.proofs.Base.{◌≡◌, ◌<◌, false, Some, Err, refl, sym, ap, ◌∙◌, subst, inl, err_from_is_err_and, get}
use Rattle.context_tree.proofs.Words.{accounts, NodeId, at, has, Forested, Kept, same, IsSound, TreeState, stands_for}
use Rattle.context_tree.proofs.Lemmas.{sound_found, next_fresh, regions_back, name_refused, room_refused, fresh_stands}
use Rattle.context_tree.proofs.Seen.{add_back, add_moves, add_added, add_sound, still_moves}
use Rattle.context_tree.proofs.tree.ContextTree.add.Goals as goal

pub invariant_of-self : goal.invariant_of-self
invariant_of-self g c = sound_found _ _ _ _ _ _ _ _ c.self.invariant _ c.room_for_name.ensures.names

pub returns-in_err-room_for_name-clause-fresh : goal.returns-in_err-room_for_name-clause-fresh
returns-in_err-room_for_name-clause-fresh g c =
    subst (λ (x : TreeState). has x.next (stands_for x c.args.space.now) ≡ false) c.self.view_is
    (fresh_stands c.self.inside.nodes c.self.inside.account c.self.inside.current c.self.inside.next _ _ _ _ c.self.invariant c.args.space.now)

pub returns-in_err-room_for_name-clause-moves : goal.returns-in_err-room_for_name-clause-moves
returns-in_err-room_for_name-clause-moves g c = still_moves c.self.view_is c.requires.agrees

pub returns-in_err-room_for_name-clause-refused : goal.returns-in_err-room_for_name-clause-refused
returns-in_err-room_for_name-clause-refused g c =
    let p : c.from_residual.result ≡ Err c.in_err-room_for_name.field-0.0 = (let q = err_from_is_err_and c.from_residual.result c.from_residual.ensures.1 in cc) in
    rw (p, ← c.self.view_is)
    (name_refused c.self.inside.nodes c.self.inside.account c.self.inside.current c.self.inside.next _ _ _ _ c.self.invariant c.args.space.now c.args.protected c.args.name c.args.kind _ c.in_err-room_for_name.ensures.refused)

pub grow-requires-clause-account : goal.grow-requires-clause-account
grow-requires-clause-account g c = subst (λ (x : TreeState). x.account < accounts c.args.space.now) (sym c.self.view_is) c.requires.agrees.account

pub grow-requires-clause-parent : goal.grow-requires-clause-parent
grow-requires-clause-parent g c =
    subst (λ (i : NodeId). at i.number c.self.inside.nodes.places ≡ Some i.slot) (sym c.node_at.ensures)
    (ap (λ (t : TreeState). at c.args.parent.number t.places) c.self.view_is ∙ c.requires.live)

pub grow-requires-clause-fresh : goal.grow-requires-clause-fresh
grow-requires-clause-fresh g c = next_fresh _ _ _ _ _ _ _ _ c.self.invariant

pub invariant_of-self-in_err-node : goal.invariant_of-self-in_err-node
invariant_of-self-in_err-node g c =
    subst (λ (f : Forested Kept). IsSound f.forest f.places (get same c.room_for_name.new.names) (get same c.self.inside.chunk_names) c.self.inside.own c.self.inside.current c.self.inside.next c.self.inside.next_entry)
    (sym c.in_err-node.ensures.err) (sound_found _ _ _ _ _ _ _ _ c.self.invariant _ c.room_for_name.ensures.names)

pub returns-in_err-node-clause-fresh : goal.returns-in_err-node-clause-fresh
returns-in_err-node-clause-fresh g c =
    subst (λ (x : TreeState). has x.next (stands_for x c.args.space.now) ≡ false) c.self.view_is
    (fresh_stands c.self.inside.nodes c.self.inside.account c.self.inside.current c.self.inside.next _ _ _ _ c.self.invariant c.args.space.now)

pub returns-in_err-node-clause-moves : goal.returns-in_err-node-clause-moves
returns-in_err-node-clause-moves g c = add_back c.self.inside.nodes _ _ _ _ c.self.view_is c.requires.agrees c.in_err-node.ensures.err c.in_err-node.ensures.err_space

pub returns-in_err-node-clause-refused : goal.returns-in_err-node-clause-refused
returns-in_err-node-clause-refused g c =
    let p : c.from_residual-in_err-node.result ≡ Err c.in_err-node.field-0.0 = (let q = err_from_is_err_and c.from_residual-in_err-node.result c.from_residual-in_err-node.ensures.1 in cc) in
    rw (p, ← c.self.view_is)
    (room_refused c.self.inside.nodes c.self.inside.account c.self.inside.current c.self.inside.next _ _ _ _ c.self.invariant c.args.space.now c.args.protected c.args.name c.args.kind _
    c.in_ok-room_for_name.ensures.free c.in_err-node.ensures.refused)

pub returns-in_err-node-clause-err_space : goal.returns-in_err-node-clause-err_space
returns-in_err-node-clause-err_space g c =
    let p : c.from_residual-in_err-node.result ≡ Err c.in_err-node.field-0.0 = (let q = err_from_is_err_and c.from_residual-in_err-node.result c.from_residual-in_err-node.ensures.1 in cc) in
    rw p (regions_back _ _ _ c.in_err-node.ensures.err_space)

pub invariant_of-self-2 : goal.invariant_of-self-2
invariant_of-self-2 g c =
    add_sound c.self.inside.nodes _ _ _ c.self.view_is (sound_found _ _ _ _ _ _ _ _ c.self.invariant _ c.room_for_name.ensures.names) c.requires.agrees c.requires.live
    (ap (λ (x : NodeId). x.number) c.node_at.ensures) c.in_ok-node.ensures.grew refl _ c.note.new.self _ c.context_at-id.ensures c.enter_context.ensures
    (λ h. c.room_for_name.ensures.names c.args.name ∙ (c.in_ok-room_for_name.ensures.free h).1) c.note.ensures.top c.note.ensures.cache c.note.ensures.portals c.note.ensures.abort

pub returns-clause-added : goal.returns-clause-added
returns-clause-added g c =
    add_added c.self.inside.nodes _ _ _ c.self.view_is c.self.invariant c.requires.agrees c.requires.live (ap (λ (x : NodeId). x.number) c.node_at.ensures) c.in_ok-node.ensures.grew refl
    _ c.context_at-id.ensures c.in_ok-room_for_name.ensures.free

pub returns-clause-moves : goal.returns-clause-moves
returns-clause-moves g c =
    add_moves c.self.inside.nodes _ _ _ c.self.view_is c.self.invariant c.requires.agrees c.requires.live (ap (λ (x : NodeId). x.number) c.node_at.ensures) c.in_ok-node.ensures.grew refl

pub returns-clause-fresh : goal.returns-clause-fresh
returns-clause-fresh g c =
    subst (λ (x : TreeState). has x.next (stands_for x c.args.space.now) ≡ false) c.self.view_is
    (fresh_stands c.self.inside.nodes c.self.inside.account c.self.inside.current c.self.inside.next _ _ _ _ c.self.invariant c.args.space.now)

pub returns-in_err-room_for_name-clause-err_asked : goal.returns-in_err-room_for_name-clause-err_asked
returns-in_err-room_for_name-clause-err_asked g c =
    let p : c.from_residual.result ≡ Err c.in_err-room_for_name.field-0.0 = (let q = err_from_is_err_and c.from_residual.result c.from_residual.ensures.1 in cc) in
    rw p (inl refl)

pub returns-in_err-node-clause-err_asked : goal.returns-in_err-node-clause-err_asked
returns-in_err-node-clause-err_asked g c =
    let p : c.from_residual-in_err-node.result ≡ Err c.in_err-node.field-0.0 = (let q = err_from_is_err_and c.from_residual-in_err-node.result c.from_residual-in_err-node.ensures.1 in cc) in
    rw (p, ← c.self.view_is) c.in_err-node.ensures.err_asked
