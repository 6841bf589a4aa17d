use Rattle.lock_local.proofs.Base.{ap, is_held, List, Lock, sym, ◌∙◌}
use Rattle.lock_local.proofs.Lemmas.{agrees_by}
use Rattle.lock_local.proofs.lock_table.LockTable.release_every.Goals as goal

pub release_each-requires-clause-agrees : goal.release_each-requires-clause-agrees
release_each-requires-clause-agrees g c = λ o m.
    agrees_by _ _ _ c.self.view_is c.requires o m ∙ ap (λ (zs : List Lock). is_held zs o m) (sym c.make_contiguous.ensures.value)
