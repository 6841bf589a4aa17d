use Rattle.std.proofs.Common.{take, ◌+◌, ◌≤◌, ◌++◌, ◌∷◌, slice_range, ◌∙◌, ap, sym, refl, arith}
use Rattle.pgs_io.proofs.LineLemmas.{drop-slice_range, length-slice_range-le, not-fits}
use Rattle.pgs_io.specs.Lines.{newline}
use Rattle.pgs_io.proofs.feeding.Feed.take_part.Goals as goal

-- the part before the newline goes to the buffer, and what is behind it stays
pub returns-in-Some-clause-part : goal.returns-in-Some-clause-part
returns-in-Some-clause-part c =
    let inside = c.self.inside in
    let pending = slice_range inside.chunk inside.start inside.end in
    let part = take c.in-Some.at pending in
    let within : inside.start + (c.in-Some.at + 1) ≤ inside.end =
    omega (arith, c.in-Some.ensures.bound, length-slice_range-le inside.chunk inside.start inside.end) in
    rw (← c.self.view_is)
    record {
      part = part;
      pending = c.in-Some.ensures.split
          ∙ ap (λ rest. part ++ newline ∷ rest) (sym (drop-slice_range inside.chunk inside.start inside.end (c.in-Some.at + 1) within));
      no_newline = c.in-Some.ensures.first;
      same = refl;
      appended = c.extend-fits.ensures.appended;
      cut_off = not-fits c.extend-fits.result _ c.extend-fits.ensures.fits;
    }
