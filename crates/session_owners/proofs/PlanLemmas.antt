-- What is proved of plans below the owners, for those above them.
pub use Rattle.session_owners.proofs.PlanSteps.{at_found}
