use Rattle.node_trials.proofs.nodes.two_groups_are_given.Goals as goal

pub four_rows-requires-clause-holds : goal.four_rows-requires-clause-holds
four_rows-requires-clause-holds g c = c.in_ok-node.ensures.holds c.new-temp.result
