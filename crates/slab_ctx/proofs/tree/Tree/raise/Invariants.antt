use Rattle.slab_ctx.proofs.Words.{◌≡◌, ℕ, ◌*◌, ◌<◌, ◌≤◌, IsTreeBut, node}
use Rattle.slab_ctx.proofs.tree.Tree.raise.Given as goal

abbrev pub invariant-loop-index : goal.invariant-loop-index
invariant-loop-index l = (l.self.places ≡ l.initial.self.places) × (l.index < 2 * l.self.places) × IsTreeBut l.self l.index × ((k : ℕ) → l.self.places ≤ k → node l.self k ≡ node l.initial.self k)

abbrev pub decreases-loop-index : goal.decreases-loop-index
decreases-loop-index l = l.index
