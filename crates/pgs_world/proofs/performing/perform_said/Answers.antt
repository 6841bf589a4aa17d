use Rattle.pgs_world.proofs.performing.perform_said.Goals as goal

pub returns-then-wanted-clause-turn : goal.returns-then-wanted-clause-turn
returns-then-wanted-clause-turn g c line k = rw (← c.read_line.ensures.read line k) c.if-wanted.ensures.turn

pub returns-then-has_failed-clause-turn : goal.returns-then-has_failed-clause-turn
returns-then-has_failed-clause-turn g c line k = rw (← c.read_line.ensures.read line k) c.if-wanted.ensures.turn

pub returns-clause-turn : goal.returns-clause-turn
returns-clause-turn g c line k = rw (← c.read_line.ensures.read line k) c.if-wanted.ensures.turn
