use Rattle.context_tree.proofs.Base.{◌∙◌, subst}
use Rattle.context_tree.proofs.Words.{nothing, footprint, Kept}
use Rattle.addr_space.specs.Footprint as foot
use Rattle.context_tree.proofs.Lemmas.{given_back}
use Rattle.context_tree.proofs.making.grow.Goals as goal

pub returns-in-Err-insert-clause-err_space : goal.returns-in-Err-insert-clause-err_space
returns-in-Err-insert-clause-err_space g c =
    given_back c.in-Ok.memory c.args.account c.in-Some.slot c.args.space.now c.create.new.space c.give_back.new.space c.in-Ok.ensures.moves
    (subst (λ (k : Kept). foot.Moves (footprint k.memory) (nothing (footprint k.memory).account (footprint k.memory).context) c.create.new.space c.give_back.new.space) (c.in-Err-insert.ensures.handed_back ∙ c.over.ensures) c.give_back.ensures.moves)
