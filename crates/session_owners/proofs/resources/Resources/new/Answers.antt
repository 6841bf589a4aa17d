use Rattle.session_owners.proofs.Base.{ap}
use Rattle.session_owners.proofs.Words.{Files, Snapshots}
use Rattle.session_owners.proofs.Lemmas.{counted_opening}
use Rattle.session_owners.proofs.resources.Resources.new.Goals as goal

pub invariant_of-result : goal.invariant_of-result
invariant_of-result c = counted_opening _ _ c.new.ensures c.in_ok-new.ensures.pins c.in_ok-new.ensures.references (ap (λ (f : Files). f.opened) c.in_ok-new.ensures.files) (ap (λ (t : Snapshots). t.registered) c.in_ok-new.ensures.snapshots) c.in_ok-new.ensures.plans
