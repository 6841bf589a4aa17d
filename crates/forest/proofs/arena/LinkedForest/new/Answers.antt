use Rattle.std.proofs.Common.{None, refl, ap}
use Rattle.forest.specs.Forest.{Empty}
use Rattle.forest.specs.Forested.{Forested}
use Rattle.forest.proofs.Seen.{seen_from}
use Rattle.forest.proofs.arena.LinkedForest.new.Goals as goal

empty : goal.returns-clause-forest
empty g c = ap (λ (f : Forested g.row.T.Denot). f.forest) (seen_from c.new.result None Empty tt refl (rw c.new.ensures.empty refl))

pub returns-clause-forest : goal.returns-clause-forest
returns-clause-forest g c = empty g c

pub returns-clause-places : goal.returns-clause-places
returns-clause-places g c = ap (λ (f : Forested g.row.T.Denot). f.places) (seen_from c.new.result None Empty tt refl (rw c.new.ensures.empty refl))
