use Rattle.context_tree.proofs.Base.{true, [], ◌∷◌, refl, sym, ap, ◌∙◌, subst, option_map}
use Rattle.context_tree.proofs.Words.{on_err, either_way, NodeId, at, Once, changed, registered, Entry, Kept, context_of, TreeState, stands_for, Agrees, Moves, SameChunks, same_sound}
use Rattle.context_tree.proofs.Waiting.{stands_still}
use Rattle.context_tree.proofs.Lemmas.{once_of, sound_same, tree_back, on_answer, moves_still}
use Rattle.context_tree.proofs.tree.ContextTree.register.Goals as goal
use Rattle.context_tree.proofs.tree.ContextTree.register.Given as given

same : (g : given.Over) (c : goal.After-self-1 g) → SameChunks c.get_mut.result.now c.register.new.self
same g c = either_way c.register.result
    (on_answer c.register.result (λ is. (true, g.H.ResetHook.hook_meaning c.args.hook ∷ c.get_mut.result.now.hooks, is)) c.register.ensures.ok)
    (on_err c.register.result (λ is. (c.get_mut.result.now.used, c.get_mut.result.now.hooks, is)) c.register.ensures.err)

pub invariant_of-self : goal.invariant_of-self
invariant_of-self g c =
    let is : SameChunks c.get_mut.result.now c.register.new.self = same g c in
    sound_same _ _ _ _ _ _ _ _ c.self.invariant c.node_at.result.number c.get_mut.result.now c.register.new.self c.get_mut.ensures.value
    (ap (λ (x : Kept). x.name) is.2) (ap (λ (x : Kept). x.protected) is.2) (same_sound _ _ is (c.self.invariant.each _ _ c.get_mut.ensures.value))
    (ap (λ (x : Kept). x.chunk_places) is.2) (λ n. ap (λ (x : Kept). option_map (λ (e : Entry). e.name) (at n x.chunks)) is.2)

pub returns-clause-contexts : goal.returns-clause-contexts
returns-clause-contexts g c =
    on_answer c.register.result
    (λ is s.
    let hook = g.H.ResetHook.hook_meaning c.args.hook in
    let o : Once c.self.inside.nodes.forest = once_of _ _ _ _ _ _ _ _ c.self.invariant s [] in
    let a : TreeState = record { kept = c.self.inside.nodes.forest; places = c.self.inside.nodes.places; account = c.self.inside.account; current = c.self.inside.current; next = c.self.inside.next } in
    stands_still a (record a { kept = changed c.node_at.result.number (λ _. c.register.new.self) a.kept }) s c.node_at.result.number c.get_mut.result.now c.register.new.self c.get_mut.ensures.value refl o
    (λ x. record x { used = true; hooks = hook ∷ x.hooks }) (ap (context_of s) (sym is))
    ∙ ap (λ (x : NodeId). registered x.number hook (stands_for a s)) c.node_at.ensures
    ∙ ap (λ (t : TreeState). registered c.args.at.number hook (stands_for t s)) c.self.view_is)
    c.register.ensures.ok

pub returns-clause-moves : goal.returns-clause-moves
returns-clause-moves g c s agrees =
    let o : Once c.self.inside.nodes.forest = once_of _ _ _ _ _ _ _ _ c.self.invariant s [] in
    let a : TreeState = record { kept = c.self.inside.nodes.forest; places = c.self.inside.nodes.places; account = c.self.inside.account; current = c.self.inside.current; next = c.self.inside.next } in
    let b : TreeState = record a { kept = changed c.node_at.result.number (λ _. c.register.new.self) a.kept } in
    subst (λ (x : TreeState). Moves x b s s) c.self.view_is
    (moves_still a b s c.node_at.result.number c.get_mut.result.now c.register.new.self c.get_mut.ensures.value refl o refl c.self.invariant.each (same g c)
    (subst (λ (x : TreeState). Agrees x s) (sym c.self.view_is) agrees))

pub returns-clause-err : goal.returns-clause-err
returns-clause-err g c =
    let o : Once c.self.inside.nodes.forest = once_of _ _ _ _ _ _ _ _ c.self.invariant (record { regions = []; taken = []; limit = 0 }) [] in
    let a : TreeState = record { kept = c.self.inside.nodes.forest; places = c.self.inside.nodes.places; account = c.self.inside.account; current = c.self.inside.current; next = c.self.inside.next } in
    on_err c.register.result (λ is. tree_back a c.node_at.result.number c.get_mut.result.now c.register.new.self c.get_mut.ensures.value o is ∙ c.self.view_is) c.register.ensures.err
