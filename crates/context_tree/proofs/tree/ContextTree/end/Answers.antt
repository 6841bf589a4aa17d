-- Each turn takes out the first leaf of what is left.
use Rattle.context_tree.proofs.Base.{◌≡◌, ℕ, List, Some, refl, sym, ap, ◌∙◌, subst, arith}
use Rattle.context_tree.proofs.Words.{What, Forest, Empty, at, children, size, has_at, size_removed, Contexts, and_then, unchanged, gone, gone_events, waiting, handed_in, Hook, Kept, IsSoundContext, TreeState, stands_for, no_contexts, HooksFit, bare}
use Rattle.context_tree.proofs.Lemmas.{fits_of, words_of, leaf_events, leaf_bare, none_first, agrees_bare, moves_bare, Ending, stands_bare, ending_first, ending_hooks, alone, ending_next, end_events, end_hooks, end_moves, held_less}
use Rattle.context_tree.proofs.tree.ContextTree.end.Goals as goal

pub loop-root-init : goal.loop-root-init
loop-root-init g c =
    let a : TreeState = c.args.self in
    let s = c.args.space.now in
    let x = c.args.shelf.now in
    let kept : c.self.inside.nodes.forest ≡ a.kept = ap (λ (t : TreeState). t.kept) c.self.view_is in
    let hooks : HooksFit (stands_for (bare a.account a.kept) s) x = subst (λ (q : Contexts). HooksFit q x) (sym (stands_bare a s)) c.requires.hooks in
    let each : (n : ℕ) (k : Kept) → at n a.kept ≡ Some k → IsSoundContext k =
    subst (λ (f : Forest Kept). (n : ℕ) (k : Kept) → at n f ≡ Some k → IsSoundContext k) kept c.self.invariant.each in (
      unchanged (stands_for (bare a.account a.kept) s),
      subst (λ (f : Forest Kept). Ending (unchanged (stands_for (bare a.account a.kept) s)) a.account a.kept f s s x x) (sym kept)
          (ending_first a.account a.kept s x (agrees_bare a s c.requires.agrees) hooks each),
      g.met.E.Emit.emits_none _,
    )

pub remove-node-requires-clause-leaf : goal.remove-node-requires-clause-leaf
remove-node-requires-clause-leaf g c =
    ap (λ (n : ℕ). children n c.loop-root.nodes.forest) c.first_leaf-leaf.ensures.number
    ∙ leaf_bare c.in-Some.root.number c.loop-root.nodes.forest c.first_leaf-leaf.ensures.once c.first_leaf-leaf.ensures.stands

pub end-requires-clause-agrees : goal.end-requires-clause-agrees
end-requires-clause-agrees g c = c.loop-root.invariant.1.did.moves.agrees.each c.first_leaf-leaf.result.number c.remove-node.result c.remove-node.ensures.value

pub end-requires-clause-sound : goal.end-requires-clause-sound
end-requires-clause-sound g c = c.loop-root.invariant.1.each c.first_leaf-leaf.result.number c.remove-node.result c.remove-node.ensures.value

pub end-requires-clause-count : goal.end-requires-clause-count
end-requires-clause-count g c =
    fits_of (bare c.args.self.account c.loop-root.nodes.forest) _ _ _ c.first_leaf-leaf.ensures.once c.remove-node.ensures.value _ (ending_hooks _ _ _ _ _ _ _ _ c.loop-root.invariant.1)

pub end-requires-clause-words : goal.end-requires-clause-words
end-requires-clause-words g c =
    words_of (bare c.args.self.account c.loop-root.nodes.forest) _ _ _ c.first_leaf-leaf.ensures.once c.remove-node.ensures.value _ (ending_hooks _ _ _ _ _ _ _ _ c.loop-root.invariant.1)

pub loop-root-preserved : goal.loop-root-preserved
loop-root-preserved g c =
    let inv = c.loop-root.invariant in
    let a : TreeState = c.args.self in
    let n = c.first_leaf-leaf.result.number in
    let node : Kept = c.remove-node.result in
    let f : Forest Kept = c.loop-root.nodes.forest in
    let s = c.args.space.now in
    let t = c.loop-root.space in
    let x = c.args.shelf.now in
    let y = c.loop-root.shelf in
    let once = c.first_leaf-leaf.ensures.once in
    let here : at n f ≡ Some node = c.remove-node.ensures.value in
    let leaf : children n f ≡ Empty =
    ap (λ (i : ℕ). children i f) c.first_leaf-leaf.ensures.number ∙ leaf_bare c.in-Some.root.number f once c.first_leaf-leaf.ensures.stands in
    let says = leaf_events (bare a.account f) t n node once here (alone inv.0 a.account a.kept f s t x y inv.1 n leaf) in (
      and_then inv.0 (gone n (stands_for (bare a.account f) t)),
      ending_next inv.0 a.account a.kept f s t x y inv.1 c.in-Some.root.number n node c.in-Some.ensures.0 c.first_leaf-leaf.ensures.number once here leaf
          c.remove-node.new.self.forest c.end.new.space c.end.new.shelf _ _ c.remove-node.ensures.forest c.end.ensures.went,
      g.met.E.Emit.emits_more _ _ _ _ _ _ inv.2 (g.met.E.Emit.emits_more _ _ _ _ _ _ c.end.ensures.emits c.tell_deleted.ensures (sym says)) refl,
    )

pub loop-root-smaller : goal.loop-root-smaller
loop-root-smaller g c =
    let n = c.first_leaf-leaf.result.number in
    let f : Forest Kept = c.loop-root.nodes.forest in
    omega (
      arith,
      ap (λ (x : Forest Kept). size x) c.remove-node.ensures.forest,
      size_removed n f c.first_leaf-leaf.ensures.once (has_at n f c.remove-node.result c.remove-node.ensures.value),
    )

pub returns-clause-moves : goal.returns-clause-moves
returns-clause-moves g c = moves_bare _ _ _ _ (end_moves _ _ _ _ _ _ _ _ c.loop-root.invariant.1 (none_first _ c.in_default.ensures))

pub returns-clause-shelf : goal.returns-clause-shelf
returns-clause-shelf g c =
    c.loop-root.invariant.1.did.shelf ∙ ap (λ (hs : List Hook). handed_in hs c.args.shelf.now)
    (end_hooks _ _ _ _ _ _ _ _ c.loop-root.invariant.1 (none_first _ c.in_default.ensures) ∙ ap waiting (stands_bare c.args.self c.args.space.now))

pub returns-clause-emits : goal.returns-clause-emits
returns-clause-emits g c =
    subst (λ (xs : List What). g.E.Emit.emits c.args.out.now xs c.loop-root.out)
    (end_events _ _ _ _ _ _ _ _ c.loop-root.invariant.1 (none_first _ c.in_default.ensures) ∙ ap gone_events (stands_bare c.args.self c.args.space.now)) c.loop-root.invariant.2

pub returns-clause-asked : goal.returns-clause-asked
returns-clause-asked g c = c.loop-root.invariant.1.did.asked

pub returns-clause-held : goal.returns-clause-held
returns-clause-held g c = held_less _ _ _ (moves_bare c.args.self (no_contexts _) _ _ (end_moves _ _ _ _ _ _ _ _ c.loop-root.invariant.1 (none_first _ c.in_default.ensures)))
