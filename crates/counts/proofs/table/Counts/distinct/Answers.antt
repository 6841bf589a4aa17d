use Rattle.std.proofs.Common.{sym, ap, ◌∙◌, length}
use Rattle.counts.specs.Counts.{AreCounts}
use Rattle.counts.proofs.CountLemmas.{length-different}
use Rattle.counts.proofs.InOrder.{sorted_in_order, all_in_order, length-in_order}
use Rattle.counts.proofs.table.Counts.distinct.Goals as goal

pub returns-clause-entries : goal.returns-clause-entries
returns-clause-entries g c = c.len.ensures.len ∙ sym (length-in_order g.met.K.Ord.total g.met.K.Ord.matches_eq c.self.inside.counts.entries c.len.ensures.unique) ∙ ap length c.self.view_is

pub returns-clause-counts : goal.returns-clause-counts
returns-clause-counts g c = rw (← c.self.view_is) (record { ordered = sorted_in_order g.met.K.Ord.total c.self.inside.counts.entries; counted = all_in_order g.K.Ord.cmp c.self.inside.counts.entries c.self.invariant })

pub returns-clause-different : goal.returns-clause-different
returns-clause-different g c keys tallies =
    let counts : AreCounts g.K.Ord.cmp c.args.self.now = returns-clause-counts g c in
    returns-clause-entries g c ∙ length-different g.met.K.Ord.total keys c.args.self.now counts tallies
