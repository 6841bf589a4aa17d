use Rattle.context_tree.proofs.Base.{◌≡◌, Bool, [], refl, sym, ap, ◌∙◌, subst, ◌==◌, or_parts}
use Rattle.context_tree.proofs.Words.{NodeId, Once, has, is_above, moved, placed_under, is_within, TreeState, stands_for, Agrees, Moves}
use Rattle.forest.proofs.Trees.{Moves as NodeMoves}
use Rattle.context_tree.proofs.Lemmas.{once_of, sound_moved, stands_moved, moves_moved, above_stands, may_move}
use Rattle.context_tree.proofs.tree.ContextTree.move_to.Goals as goal
use Rattle.context_tree.proofs.tree.ContextTree.move_to.Given as given

pub move_to-requires-clause-apart : goal.move_to-requires-clause-apart
move_to-requires-clause-apart g c =
    let n = c.args.at.number in
    let p = c.args.parent.number in
    let s = c.requires.apart.0 in
    ap (λ (x : NodeId). is_above x.number c.node_at-2.result.number c.self.inside.nodes.forest) c.node_at.ensures
    ∙ ap (λ (x : NodeId). is_above n x.number c.self.inside.nodes.forest) c.node_at-2.ensures
    ∙ ap (λ (t : TreeState). is_above n p t.kept) c.self.view_is
    ∙ sym (above_stands c.args.self.now s n p)
    ∙ (or_parts (p == n) (is_above n p (stands_for c.args.self.now s)) c.requires.apart.1).1

abbrev before : (g : given.Over) (c : goal.After-emit g) → TreeState
before g c = record {
  kept = c.self.inside.nodes.forest;
  places = c.self.inside.nodes.places;
  account = c.self.inside.account;
  current = c.self.inside.current;
  next = c.self.inside.next;
}

once : (g : given.Over) (c : goal.After-emit g) → Once c.self.inside.nodes.forest
once g c = once_of _ _ _ _ _ _ _ _ c.self.invariant c.requires.apart.0 []

forest : (g : given.Over) (c : goal.After-emit g) → c.move_to.new.self.forest ≡ moved c.args.at.number c.args.parent.number c.self.inside.nodes.forest
forest g c =
    c.move_to.ensures.forest
    ∙ ap (λ (x : NodeId). moved x.number c.node_at-2.result.number c.self.inside.nodes.forest) c.node_at.ensures
    ∙ ap (λ (x : NodeId). moved c.args.at.number x.number c.self.inside.nodes.forest) c.node_at-2.ensures

may : (g : given.Over) (c : goal.After-emit g) → NodeMoves c.args.at.number c.args.parent.number c.self.inside.nodes.forest
may g c =
    let s = c.requires.apart.0 in
    may_move (before g c) s c.args.at.number c.args.parent.number
    (ap (λ (x : NodeId). has x.number c.self.inside.nodes.forest) (sym c.node_at.ensures) ∙ c.move_to.ensures.node_stands)
    (ap (λ (x : NodeId). has x.number c.self.inside.nodes.forest) (sym c.node_at-2.ensures) ∙ c.move_to.ensures.parent_stands)
    (ap (λ (t : TreeState). is_within c.args.at.number c.args.parent.number (stands_for t s)) c.self.view_is ∙ c.requires.apart.1)

pub invariant_of-self : goal.invariant_of-self
invariant_of-self g c =
    sound_moved _ _ _ _ c.args.at.number c.args.parent.number (once g c) (may g c) (forest g c) c.move_to.ensures.stays _ _ _ _ _ _ c.self.invariant

pub returns-clause-contexts : goal.returns-clause-contexts
returns-clause-contexts g c s =
    stands_moved (before g c) (record (before g c) { kept = c.move_to.new.self.forest; places = c.move_to.new.self.places }) s c.args.at.number c.args.parent.number (once g c) (may g c) (forest g c) refl
    ∙ ap (λ (t : TreeState). moved c.args.at.number c.args.parent.number (stands_for t s)) c.self.view_is
    ∙ ap (λ (b : Bool). placed_under b c.args.at.number c.args.parent.number (stands_for c.args.self.now s)) (sym c.if-is_child.false ∙ c.is_child.ensures s)

pub returns-clause-moves : goal.returns-clause-moves
returns-clause-moves g c s agrees =
    subst (λ (x : TreeState). Moves x (record (before g c) { kept = c.move_to.new.self.forest; places = c.move_to.new.self.places }) s s) c.self.view_is
    (moves_moved (before g c) (record (before g c) { kept = c.move_to.new.self.forest; places = c.move_to.new.self.places }) s c.args.at.number c.args.parent.number (once g c) (may g c) (forest g c) refl
    (subst (λ (x : TreeState). Agrees x s) (sym c.self.view_is) agrees))
