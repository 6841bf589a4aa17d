use Rattle.std.proofs.Common.{List, ℕ, sym, subst, arith}
use Rattle.pgnodes.specs.Lines.{AsksFor}
use Rattle.pgnodes.proofs.Cuts.{not_skipped, short_line, kept_whole}
use Rattle.pgnodes.proofs.lines.read_asked.Goals as goal

pub returns-then-long-clause-bad : goal.returns-then-long-clause-bad
returns-then-long-clause-bad c line kept =
    (not_skipped line c.args.kept.now c.in-Some.first.now kept.front (sym c.in-Some.ensures.value) c.if-first-eq35.false, λ a asks. omega (arith, short_line line a asks, kept.cut.0 c.if-long.true))

pub returns-in-Some-read_aggregate-clause-aggregate : goal.returns-in-Some-read_aggregate-clause-aggregate
returns-in-Some-read_aggregate-clause-aggregate c line kept =
    subst (λ (bs : List ℕ). AsksFor bs c.in-Some-read_aggregate.aggregate) (kept_whole line c.args.kept.now c.args.long kept c.if-long.false) c.in-Some-read_aggregate.ensures.some

pub returns-in-None-clause-bad : goal.returns-in-None-clause-bad
returns-in-None-clause-bad c line kept = (
  not_skipped line c.args.kept.now c.in-Some.first.now kept.front (sym c.in-Some.ensures.value) c.if-first-eq35.false,
  λ a asks. c.in-None.ensures.none a (subst (λ (bs : List ℕ). AsksFor bs a) (sym (kept_whole line c.args.kept.now c.args.long kept c.if-long.false)) asks),
)
