use Rattle.node_trials.proofs.nodes.sixteen_passes.Goals as goal

pub thousand_rows-requires-clause-holds : goal.thousand_rows-requires-clause-holds
thousand_rows-requires-clause-holds g c = c.in_ok-node.ensures.holds c.new-temp.result
