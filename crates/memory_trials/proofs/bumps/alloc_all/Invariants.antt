use Rattle.addr_space.specs.Footprint.{Agrees}
use Rattle.bump_ctx.specs.State.{footprint}
use Rattle.memory_trials.proofs.bumps.alloc_all.Given as goal

abbrev pub invariant-loop-size : goal.invariant-loop-size
invariant-loop-size l = Agrees (footprint l.bump) l.space
