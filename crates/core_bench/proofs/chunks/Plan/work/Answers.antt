use Rattle.any_ctx.specs.Contexts.{footprint}
use Rattle.core_bench.proofs.Held.{held-none}
use Rattle.core_bench.proofs.chunks.Plan.work.Goals as goal

pub fill-requires-clause-held : goal.fill-requires-clause-held
fill-requires-clause-held c = held-none (footprint c.args.context.now) c.args.self.size c.new-chunks.result.items c.new-chunks.ensures.items
