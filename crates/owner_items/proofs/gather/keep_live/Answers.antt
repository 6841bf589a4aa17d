use Rattle.std.proofs.Common.{rules}
use Rattle.std.proofs.lemmas.Fn.{filter_same}
use Rattle.owner_items.proofs.gather.keep_live.Goals as goal

pub returns-clause-items : goal.returns-clause-items
returns-clause-items c = filter_same _ (λ e. e.live) _ (λ l b f k. search rules) _ _ c.retain.ensures.filtered
