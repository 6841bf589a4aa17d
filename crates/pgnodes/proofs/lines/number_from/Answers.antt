use Rattle.std.proofs.Common.{◌≡◌, sym, ◌∙◌, arith}
use Rattle.std.proofs.lemmas.Fmt.{decimal_injective}
use Rattle.pgnodes.proofs.lines.number_from.Goals as goal

pub returns-then-value-least-clause-none : goal.returns-then-value-least-clause-none
returns-then-value-least-clause-none c n low high is =
    let bound = c.in_ok-value.ensures.bound in
    let ranges = c.ranges.most.fits in
    let same : c.in_ok-value.value ≡ n = decimal_injective c.in_ok-value.value n (omega arith) (omega arith) (sym c.in_ok-value.ensures.read ∙ is) in
    omega (arith, same, low, c.if-value-least.true)
