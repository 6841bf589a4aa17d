use Rattle.alloc_set.proofs.Base.{arith, chunk_limit, class_size}
use Rattle.alloc_set.proofs.Lemmas.{limit_class-pass, limit_class-stop}
use Rattle.alloc_set.proofs.classes.chunk_limit.Goals as goal

pub loop-class-preserved : goal.loop-class-preserved
loop-class-preserved c = grind (arith, limit_class-pass, c.loop-class.invariant.last, c.loop-class-test.true, c.class_size.ensures.value, c.if-class_size-most.true, c.loop-class.invariant.same)

pub returns-clause-value : goal.returns-clause-value
unfolding chunk_limit
returns-clause-value c = grind (arith, limit_class-stop, c.class_size-2.ensures.value, c.loop-class.invariant.same)
