use Rattle.addr_space.specs.Footprint.{Agrees}
use Rattle.generation_ctx.specs.State.{footprint}
use Rattle.memory_trials.proofs.generations.perform_all.Given as goal

abbrev pub invariant-loop-step : goal.invariant-loop-step
invariant-loop-step l = Agrees (footprint l.context) l.space
