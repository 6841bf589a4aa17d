use Rattle.pgs_world.proofs.Base.{◌∙◌, ap}
use Rattle.pgs_world.proofs.Words.{Space, held, limited_held}
use Rattle.pgs_world.proofs.Lemmas.{in_some, limited_run}
use Rattle.pgs_world.proofs.sweeping.run_lent.Goals as goal

pub run_shared-ran-requires-clause-empty : goal.run_shared-ran-requires-clause-empty
run_shared-ran-requires-clause-empty g c account =
    ap (λ (s : Space). held s account) (c.swap.ensures.y_after ∙ c.set_limit.ensures) ∙ limited_held c.args.space.now c.args.options.now.space account ∙ c.requires.empty account

pub run_shared-ran-requires-clause-kinds : goal.run_shared-ran-requires-clause-kinds
run_shared-ran-requires-clause-kinds g c = rw c.swap_kinds.ensures.swapped c.requires.sound

pub returns-clause-ran : goal.returns-clause-ran
returns-clause-ran g c =
    rw (c.swap-3.ensures.x_after, c.swap-4.ensures.x_after, c.swap_kinds-2.ensures.given)
    (in_some _ _ c.run_shared-ran.result (λ ran r. limited_run _ _ ran _ _ c.args.space.now _ c.args.options.now.space r)
    (rw (c.swap.ensures.y_after, c.swap-2.ensures.y_after, c.swap_kinds.ensures.swapped, c.set_limit.ensures) at c.run_shared-ran.ensures.ran))
