use Rattle.slab_ctx.proofs.Words.{nat_eq_equiv, updates-with_value_at}
use Rattle.slab_ctx.proofs.Lemmas.{pair-at, entry-set}
use Rattle.slab_ctx.proofs.ranks.change.Goals as goal

pub returns-clause-places : goal.returns-clause-places
returns-clause-places c = λ p. entry-set c.args.entries.now.entries c.args.place p c.args.key c.requires.0.rank c.args.rank (pair-at c.args.entries.now.entries c.args.place c.args.key c.requires)

pub returns-clause-at : goal.returns-clause-at
returns-clause-at c = λ other. (updates-with_value_at c.args.entries.now c.args.place c.args.rank nat_eq_equiv c.get_index_mut.ensures.unique c.args.key c.requires.0.rank (pair-at c.args.entries.now.entries c.args.place c.args.key c.requires)).0 other
