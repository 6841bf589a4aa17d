use Rattle.lock_shared.proofs.Base.{not, rules}
use Rattle.lock_shared.proofs.Words.{filter-from_retain, is_holding}
use Rattle.lock_shared.proofs.holders.take_off.Goals as goal

pub returns : goal.returns
returns c = filter-from_retain _ (λ h. not (is_holding c.args.object c.args.mode c.args.session h)) _ (λ h b f k d. search rules) _ _ c.retain.ensures.filtered
