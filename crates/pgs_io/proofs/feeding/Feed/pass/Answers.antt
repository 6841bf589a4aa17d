use Rattle.std.proofs.Common.{◌≡◌, ℕ, List, ◌+◌, ◌≤◌, slice_range, refl, ◌∙◌, ap, arith}
use Rattle.pgs_io.specs.Feeding.{BeginWithLine}
use Rattle.pgs_io.proofs.LineLemmas.{drop-slice_range, length-slice_range-le}
use Rattle.pgs_io.proofs.FeedLemmas.{passed, begins_within}
use Rattle.pgs_io.proofs.feeding.Feed.pass.Goals as goal

behind : (chunk : List ℕ) (start end count : ℕ) → BeginWithLine count (slice_range chunk start end) → start + (count + 1) ≤ end
behind chunk start end count h = omega (arith, begins_within count (slice_range chunk start end) h, length-slice_range-le chunk start end)

pub overflow_add-newline : goal.overflow_add-newline
overflow_add-newline c = let inside = c.self.inside in omega (arith, behind inside.chunk inside.start inside.end c.args.count (rw (← c.self.view_is) at c.requires))

pub overflow_add-self : goal.overflow_add-self
overflow_add-self c = let inside = c.self.inside in omega (arith, behind inside.chunk inside.start inside.end c.args.count (rw (← c.self.view_is) at c.requires))

pub returns-clause-line : goal.returns-clause-line
returns-clause-line c left =
    let inside = c.self.inside in
    let begins = rw (← c.self.view_is) at c.requires in
    let more : inside.start + c.args.count + 1 ≡ inside.start + (c.args.count + 1) = omega arith in
    rw (← c.self.view_is)
    (passed left _ _ c.args.count begins (omega (arith, length-slice_range-le inside.chunk inside.start inside.end))
    (ap (λ k. slice_range inside.chunk k inside.end) more
    ∙ drop-slice_range inside.chunk inside.start inside.end (c.args.count + 1) (behind inside.chunk inside.start inside.end c.args.count begins)) refl refl)
