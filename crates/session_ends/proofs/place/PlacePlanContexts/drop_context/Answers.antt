-- One context is gone, and the others can go as before.
use Rattle.session_ends.proofs.Base.{refl}
use Rattle.session_ends.proofs.Lemmas.{have_gone, others_go}
use Rattle.session_ends.proofs.place.PlacePlanContexts.drop_context.Goals as goal

pub returns-clause-others : goal.returns-clause-others
returns-clause-others g c other differ can =
    others_go c.args.self.now.tree.now c.gone.new.self c.args.self.now.space.now c.gone.new.space c.args.self.now.shelf.now c.gone.new.shelf c.args.at c.gone.ensures.did c.requires.may other differ can

pub returns-clause-went : goal.returns-clause-went
returns-clause-went g c =
    (refl, refl, refl, λ agrees. have_gone c.args.self.now.tree.now c.gone.new.self c.args.self.now.space.now c.gone.new.space c.args.self.now.shelf.now c.gone.new.shelf c.args.at c.gone.ensures.did)
