use Rattle.lock_shared.proofs.Base.{sym, ap, ◌∙◌, Some}
use Rattle.lock_shared.proofs.Lemmas.{lesser_at, least_at}
use Rattle.lock_shared.proofs.holders.least_blocking.Goals as goal
use Rattle.lock_shared.proofs.holders.least_blocking.Goals.{then-blocks, else-blocks}

pub loop-held-preserved : goal.loop-held-preserved
loop-held-preserved c =
    elim c.if-blocks.branch [
      | then-blocks w ↦ lesser_at c.args.holdings.now c.loop-held.held-index _ _ _ _ _ _ c.loop-held-test.true c.loop-held.invariant (sym c.blocks-in-loop-held.ensures ∙ w.if-blocks.true) (w.least-is ∙ ap Some w.lesser.ensures)
      | else-blocks w ↦ least_at c.args.holdings.now c.loop-held.held-index _ _ _ _ _ _ c.loop-held-test.true c.loop-held.invariant (sym c.blocks-in-loop-held.ensures ∙ w.if-blocks.false) w.least-is
    ]
