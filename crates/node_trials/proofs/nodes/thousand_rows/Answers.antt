use Rattle.node_trials.proofs.nodes.thousand_rows.Goals as goal

pub each_has_one_row-requires-clause-holds : goal.each_has_one_row-requires-clause-holds
each_has_one_row-requires-clause-holds c = c.finish.ensures.holds c.put_rows.new.space c.put_rows.new.temp c.in_ok-put_rows.ensures.holds
