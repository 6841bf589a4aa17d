use Rattle.slab_ctx.proofs.Words.{◌≡◌, ◌+◌, ◌*◌, ◌<◌, ◌/◌, None, refl, ◌∙◌, arith, with_item, get_or_read, length-set, Tree}
use Rattle.slab_ctx.proofs.Lemmas.{raised, settled, node-other, lesser-read}
use Rattle.slab_ctx.proofs.tree.Tree.raise.Goals as goal

pub returns-then-is_same-clause-tree : goal.returns-then-is_same-clause-tree
returns-then-is_same-clause-tree c =
    let t = c.loop-index.self in
    let i = c.loop-index in
    let tree = i.invariant.2 in
    let under = i.invariant.1 in
    let left = get_or_read t.nodes.items (2 * (i.index / 2)) c.index.result.now (omega (arith, tree.long, under)) c.index.ensures None in
    let right = get_or_read t.nodes.items (2 * (i.index / 2) + 1) c.index-in-loop-index.result.now (omega (arith, tree.long, under)) c.index-in-loop-index.ensures None in
    let own = get_or_read t.nodes.items (i.index / 2) c.index-in-loop-index-2.result.now (omega (arith, tree.long, under)) c.index-in-loop-index-2.ensures None in
    let same : c.lesser-best.result ≡ c.index-in-loop-index-2.result.now = c.is_same.ensures c.if-is_same.true in
    settled t i.index (i.index / 2) tree (omega arith) (omega arith) (lesser-read c.lesser-best.ensures left right (same ∙ own))

pub loop-index-preserved : goal.loop-index-preserved
loop-index-preserved c =
    let t = c.loop-index.self in
    let i = c.loop-index in
    let tree = i.invariant.2 in
    let under = i.invariant.1 in
    let j = i.index / 2 in
    let left = get_or_read t.nodes.items (2 * (i.index / 2)) c.index.result.now (omega (arith, tree.long, under)) c.index.ensures None in
    let right = get_or_read t.nodes.items (2 * (i.index / 2) + 1) c.index-in-loop-index.result.now (omega (arith, tree.long, under)) c.index-in-loop-index.ensures None in
    let u : Tree = record { places = t.places; nodes = with_item t.nodes (i.index / 2) c.lesser-best.result } in
    let inner : i.index / 2 < t.places = omega (arith, under) in (
      i.invariant.0,
      omega (arith, under),
      raised t u (i.index / 2) c.lesser-best.result refl i.index tree (length-set t.nodes.items (i.index / 2) c.lesser-best.result) refl (omega arith) (omega arith) (omega (arith, c.loop-index-test.true)) inner (lesser-read c.lesser-best.ensures left right refl),
      λ k least. node-other t u (i.index / 2) c.lesser-best.result refl k (λ e. omega arith) ∙ i.invariant.3 k least,
    )
