use Rattle.addr_space.specs.Footprint.{Agrees}
use Rattle.any_ctx.specs.Contexts.{footprint}
use Rattle.core_bench.proofs.chunks.Plan.pairs.Given as goal

abbrev pub invariant-loop : goal.invariant-loop
invariant-loop l = Agrees (footprint l.context) l.space
