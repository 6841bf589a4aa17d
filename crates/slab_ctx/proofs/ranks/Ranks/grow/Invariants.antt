use Rattle.slab_ctx.proofs.Words.{◌≡◌, ℕ, ◌+◌, ◌*◌, nat_lt, None, if◌then◌else◌, IsTree, leaf}
use Rattle.slab_ctx.proofs.ranks.Ranks.grow.Given as goal

abbrev pub invariant-loop-place : goal.invariant-loop-place
invariant-loop-place l = IsTree l.tree × (l.tree.places ≡ 2 * l.len + 2) × ((p : ℕ) → leaf l.tree p ≡ (if nat_lt p l.place then leaf l.self.tree p else None))
