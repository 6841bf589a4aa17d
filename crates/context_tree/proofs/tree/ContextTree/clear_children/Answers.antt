-- Each turn takes out the first of what is left.
use Rattle.context_tree.proofs.Base.{◌≡◌, ◌≢◌, true, Some, ◌++◌, arith, ap, refl, sym, ◌∙◌, subst, inl}
use Rattle.context_tree.proofs.Words.{NodeId, Forest, Once, has, at, size, children, removed, lead, follows, Contexts, Ended, and_then, unchanged, gone, Did, Kept, TreeState, stands_for, CtxId}
use Rattle.context_tree.proofs.Lemmas.{above_stands, once_stands, has_stands, lead_stands, left_first, left_hooks, left_turn, left_next, left_other, left_end, left_did}
use Rattle.context_tree.proofs.Seen.{next_so}
use Rattle.context_tree.proofs.tree.ContextTree.clear_children.Goals as goal

pub loop-leaf-init : goal.loop-leaf-init
loop-leaf-init g c =
    let a : TreeState = c.args.self.now in
    let s = c.args.space.now in
    let n = c.args.at.number in
    let kept : c.self.inside.nodes.forest ≡ a.kept = ap (λ (t : TreeState). t.kept) c.self.view_is in
    let stands : has n a.kept ≡ true =
    ap (has n) (sym kept) ∙ ap (λ (x : NodeId). has x.number c.self.inside.nodes.forest) (sym c.node_at-top.ensures) ∙ c.first_leaf-leaf.ensures.stands in
    let first : c.first_leaf-leaf.result.number ≡ lead n (children n a.kept) =
    c.first_leaf-leaf.ensures.number
    ∙ ap (λ (x : NodeId). lead x.number (children x.number c.self.inside.nodes.forest)) c.node_at-top.ensures
    ∙ ap (λ (f : Forest Kept). lead n (children n f)) kept in (
      unchanged (stands_for a s),
      left_first c.args.at c.first_leaf-leaf.result a s c.args.shelf.now c.requires.agrees c.requires.hooks
          (once_stands a s (subst (λ (f : Forest Kept). Once f) kept c.first_leaf-leaf.ensures.once))
          (has_stands a s n ∙ stands) c.requires.live
          (ap (λ (t : TreeState). at c.first_leaf-leaf.result.number t.places) (sym c.self.view_is) ∙ c.first_leaf-leaf.ensures.placed)
          (first ∙ sym (lead_stands a s n)) c.requires.apart,
      g.met.E.Emit.emits_none _,
    )

pub following-next-requires-clause-below : goal.following-next-requires-clause-below
following-next-requires-clause-below g c =
    let inv = c.loop-leaf.invariant in
    let id = c.args.at in
    let leaf = c.loop-leaf.leaf in
    let a : TreeState = c.args.self.now in
    let b : TreeState = c.loop-leaf.self in
    let t = c.loop-leaf.space in
    let ne : leaf.number ≢ id.number = λ e. omega arith in
    let next : NodeId = record { number = follows leaf.number id.number (children id.number (stands_for b t)); slot = 0 } in
    ap (λ (x : NodeId). has leaf.number (children x.number c.self-in-loop-leaf.inside.nodes.forest)) c.node_at-top.ensures
    ∙ ap (λ (x : TreeState). has leaf.number (children id.number x.kept)) c.self-in-loop-leaf.view_is
    ∙ sym (above_stands b t id.number leaf.number)
    ∙ (left_turn inv.0 id leaf a b c.args.space.now t c.args.shelf.now c.loop-leaf.shelf inv.1 next ne refl).inside

pub following-next-requires-clause-top : goal.following-next-requires-clause-top
following-next-requires-clause-top g c =
    let inv = c.loop-leaf.invariant in
    subst (λ (x : NodeId). at x.number c.self-in-loop-leaf.inside.nodes.places ≡ Some x.slot) (sym c.node_at-top.ensures)
    (ap (λ (x : TreeState). at c.args.at.number x.places) c.self-in-loop-leaf.view_is ∙ inv.1.live)

pub following-next-requires-clause-placed : goal.following-next-requires-clause-placed
following-next-requires-clause-placed g c =
    let inv = c.loop-leaf.invariant in
    ap (λ (x : TreeState). at c.loop-leaf.leaf.number x.places) c.self-in-loop-leaf.view_is ∙ inv.1.placed

pub drop_one-requires-clause-agrees : goal.drop_one-requires-clause-agrees
drop_one-requires-clause-agrees g c = c.loop-leaf.invariant.1.did.moves.agrees

pub drop_one-requires-clause-live : goal.drop_one-requires-clause-live
drop_one-requires-clause-live g c =
    subst (λ (x : CtxId). at x.number c.loop-leaf.self.places ≡ Some x.slot) (sym c.context_at.ensures) c.loop-leaf.invariant.1.placed

pub drop_one-requires-clause-hooks : goal.drop_one-requires-clause-hooks
drop_one-requires-clause-hooks g c = left_hooks _ _ _ _ _ _ _ _ _ c.loop-leaf.invariant.1

pub drop_one-requires-clause-leaf : goal.drop_one-requires-clause-leaf
drop_one-requires-clause-leaf g c =
    ap (λ (x : CtxId). children x.number (stands_for c.loop-leaf.self c.loop-leaf.space)) c.context_at.ensures ∙
    (left_turn _ _ _ _ _ _ _ _ _ c.loop-leaf.invariant.1 c.following-next.result (λ e. omega arith) (next_so c.self-in-loop-leaf.view_is c.loop-leaf.space c.loop-leaf.leaf.number c.following-next.ensures.number (ap (λ (x : NodeId). x.number) c.node_at-top.ensures))).leaf

pub drop_one-requires-clause-apart : goal.drop_one-requires-clause-apart
drop_one-requires-clause-apart g c =
    inl
    (λ e. left_other _ _ _ _ _ _ _ _ _ c.loop-leaf.invariant.1 c.following-next.result (λ e2. omega arith) (next_so c.self-in-loop-leaf.view_is c.loop-leaf.space c.loop-leaf.leaf.number c.following-next.ensures.number (ap (λ (x : NodeId). x.number) c.node_at-top.ensures)) (e ∙ ap (λ (x : CtxId). x.number) c.context_at.ensures))

pub loop-leaf-preserved : goal.loop-leaf-preserved
loop-leaf-preserved g c =
    let t = c.loop-leaf.space in
    let n = c.loop-leaf.leaf.number in
    let b : TreeState = c.loop-leaf.self in
    let did : Did (gone n (stands_for b t)) b c.drop_one.new.self t c.drop_one.new.space c.loop-leaf.shelf c.drop_one.new.shelf =
    subst (λ (x : CtxId). Did (gone x.number (stands_for b t)) b c.drop_one.new.self t c.drop_one.new.space c.loop-leaf.shelf c.drop_one.new.shelf) c.context_at.ensures c.drop_one.ensures.did in
    let placed : at c.following-next.result.number b.places ≡ Some c.following-next.result.slot =
    ap (λ (x : TreeState). at c.following-next.result.number x.places) (sym c.self-in-loop-leaf.view_is) ∙ c.following-next.ensures.placed in (
      and_then c.loop-leaf.invariant.0 (gone n (stands_for b t)),
      left_next _ _ _ _ _ _ _ _ _ c.loop-leaf.invariant.1 c.following-next.result (λ e. omega arith)
          (next_so c.self-in-loop-leaf.view_is c.loop-leaf.space c.loop-leaf.leaf.number c.following-next.ensures.number (ap (λ (x : NodeId). x.number) c.node_at-top.ensures)) c.drop_one.new.self _ _
          placed did,
      g.met.E.Emit.emits_more _ _ _ _ _ _ c.loop-leaf.invariant.2 c.drop_one.ensures.emits (ap (λ (x : CtxId). c.loop-leaf.invariant.0.events ++ (gone x.number (stands_for b t)).events) c.context_at.ensures),
    )

pub loop-leaf-smaller : goal.loop-leaf-smaller
loop-leaf-smaller g c =
    let w = left_turn _ _ _ _ _ _ _ _ _ c.loop-leaf.invariant.1 c.following-next.result (λ e. omega arith) (next_so c.self-in-loop-leaf.view_is c.loop-leaf.space c.loop-leaf.leaf.number c.following-next.ensures.number (ap (λ (x : NodeId). x.number) c.node_at-top.ensures)) in
    omega (arith, w.smaller, ap (λ (x : Contexts). size x) c.drop_one.ensures.did.contexts, ap (λ (x : CtxId). size (removed x.number (stands_for c.loop-leaf.self c.loop-leaf.space))) c.context_at.ensures)

pub returns-clause-did : goal.returns-clause-did
returns-clause-did g c = left_did _ _ _ _ _ _ _ _ _ c.loop-leaf.invariant.1 (omega arith)

pub returns-clause-emits : goal.returns-clause-emits
returns-clause-emits g c =
    subst (λ (x : Ended). g.E.Emit.emits c.args.out.now x.events c.loop-leaf.out) (left_end _ _ _ _ _ _ _ _ _ c.loop-leaf.invariant.1 (omega arith)) c.loop-leaf.invariant.2

pub returns-clause-live : goal.returns-clause-live
returns-clause-live g c = c.loop-leaf.invariant.1.live
