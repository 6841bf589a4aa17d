use Rattle.std.proofs.Common.{◌≢◌, All, sym, subst, ◌∙◌, arith}
use Rattle.std.specs.Fmt.{decimal}
use Rattle.pgnodes.specs.Lines.{space}
use Rattle.pgnodes.proofs.Cuts.{no_cut, no_space, same_cut}
use Rattle.pgnodes.proofs.lines.number_before.Goals as goal

pub returns-in_err-word-clause-none : goal.returns-in_err-word-clause-none
returns-in_err-word-clause-none c = rw c.from_residual.ensures (λ n rest low high same. no_cut (decimal n) rest (subst (All (λ b. b ≢ space)) same c.in_err-word.ensures.none))

pub returns-in_err-value-clause-none : goal.returns-in_err-value-clause-none
returns-in_err-value-clause-none c =
    rw c.from_residual-in_err-value.ensures (λ n rest low high same.
    let parts = c.in_ok-word.ensures.some in
    let ranges = c.ranges.most.fits in
    let cut = same_cut c.in_ok-word.word.now (decimal n) c.in_ok-word.behind.now rest parts.1 (no_space n (omega (arith, high))) (sym parts.0 ∙ same) in
    c.in_err-value.ensures.none n low high cut.0)
