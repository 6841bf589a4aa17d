use Rattle.alloc_set.proofs.Base.{arith, class_of, count_leading_zeros, refl, sym, ◌-◌}
use Rattle.alloc_set.proofs.Lemmas.{class-bits, class_up_to-is}
use Rattle.alloc_set.proofs.classes.class_of.Goals as goal

pub returns-then-size-le8-clause-value : goal.returns-then-size-le8-clause-value
unfolding class_of
returns-then-size-le8-clause-value c = sym (class_up_to-is 10 c.args.size 0 (omega arith) (omega (arith, c.if-size-le8.true)) (λ lower below. omega (arith, below)))

pub overflow_sub-result-2 : goal.overflow_sub-result-2
overflow_sub-result-2 c =
    omega (arith, (class-bits c.args.size (count_leading_zeros 32 (c.args.size - 1)) (omega (arith, c.if-size-le8.false)) c.requires refl).0)

pub returns : goal.returns
unfolding class_of
returns c = grind (arith, class-bits, class_up_to-is, c.if-size-le8.false, c.requires)
