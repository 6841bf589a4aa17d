use Rattle.std.proofs.Common.{sym, arith}
use Rattle.pgs_command.proofs.ValueLemmas.{number_between-some, number_between-none, number_between-low}
use Rattle.pgs_command.proofs.values.read_number.Goals as goal

pub returns-then-value-least-clause-read : goal.returns-then-value-least-clause-read
returns-then-value-least-clause-read c = sym (number_between-low c.args.least c.args.most c.args.word.now c.in-Some.value c.in-Some.ensures.read (omega arith) (omega (arith, c.in-Some.ensures.bound)))

pub returns-else-value-least-clause-read : goal.returns-else-value-least-clause-read
returns-else-value-least-clause-read c = sym (number_between-some c.args.least c.args.most c.args.word.now c.in-Some.value c.in-Some.ensures.read (omega arith) c.in-Some.ensures.bound (omega (arith, c.in-Some.ensures.bound)))

pub returns-in-None-clause-read : goal.returns-in-None-clause-read
returns-in-None-clause-read c = sym (number_between-none c.args.least c.args.most c.args.word.now (λ n low high e. c.in-None.ensures.none n high e))
