use Rattle.pgs_world.proofs.Base.{◌∙◌, ap}
use Rattle.pgs_world.proofs.Words.{Space, held, limited_held}
use Rattle.pgs_world.proofs.Lemmas.{limited_plays}
use Rattle.pgs_world.proofs.program.play_lent.Goals as goal

pub play-outcome-requires-clause-empty : goal.play-outcome-requires-clause-empty
play-outcome-requires-clause-empty g c account =
    ap (λ (s : Space). held s account) (c.swap.ensures.y_after ∙ c.set_limit.ensures) ∙ limited_held c.args.space.now c.args.options.now.space account ∙ c.requires.empty account

pub play-outcome-requires-clause-kinds : goal.play-outcome-requires-clause-kinds
play-outcome-requires-clause-kinds g c = rw c.swap_kinds.ensures.swapped c.requires.sound

pub returns-clause-plays : goal.returns-clause-plays
returns-clause-plays g c =
    rw (c.swap-3.ensures.x_after, c.swap-4.ensures.x_after, c.swap_kinds-2.ensures.given)
    (limited_plays _ _ _ _ _ c.args.space.now _ c.args.options.now.space (rw (c.swap.ensures.y_after, c.swap-2.ensures.y_after, c.swap_kinds.ensures.swapped, c.set_limit.ensures) at c.play-outcome.ensures.plays))
