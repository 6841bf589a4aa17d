use Rattle.owner_kinds.specs.KindTable.{IsBuiltIn}
use Rattle.owner_items.proofs.Order.{All-without}
use Rattle.owner_trials.proofs.items.more_than_thirty_two.Goals as goal

pub loop-half-preserved : goal.loop-half-preserved
loop-half-preserved g c =
    rw c.forget.ensures.rest (All-without (λ item. IsBuiltIn item.kind) _ c.loop-half.items.items c.loop-half.invariant)
