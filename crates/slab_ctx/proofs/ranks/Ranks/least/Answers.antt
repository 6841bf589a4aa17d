use Rattle.slab_ctx.proofs.Lemmas.{least-own}
use Rattle.slab_ctx.proofs.ranks.Ranks.least.Goals as goal

pub returns-clause-there : goal.returns-clause-there
returns-clause-there c = least-own c.args.self.now c.requires.ranked c.least.result c.lesser.result (rw c.current_entry.ensures at c.lesser.ensures) c.least.ensures.there
