use Rattle.node_trials.proofs.nodes.four_rows.Goals as goal

pub next-requires-clause-holds : goal.next-requires-clause-holds
next-requires-clause-holds c = c.finish.ensures.holds c.put_rows.new.space c.put_rows.new.temp c.in_ok-put_rows.ensures.holds
