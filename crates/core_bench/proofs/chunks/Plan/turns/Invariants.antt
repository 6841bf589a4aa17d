use Rattle.addr_space.specs.Footprint.{Agrees}
use Rattle.any_ctx.specs.Contexts.{footprint}
use Rattle.core_bench.specs.Held.{AreLive}
use Rattle.core_bench.proofs.chunks.Plan.turns.Given as goal

abbrev pub invariant-loop : goal.invariant-loop
invariant-loop l = Agrees (footprint l.context) l.space × AreLive (footprint l.context) l.self.size l.chunks.items
