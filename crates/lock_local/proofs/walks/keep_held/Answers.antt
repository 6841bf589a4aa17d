use Rattle.lock_local.proofs.Base.{filter_same, has_owner, rules}
use Rattle.lock_local.proofs.walks.keep_held.Goals as goal

pub returns : goal.returns
returns c = filter_same _ has_owner _ (λ l b f k. search rules) _ _ c.retain.ensures.filtered
