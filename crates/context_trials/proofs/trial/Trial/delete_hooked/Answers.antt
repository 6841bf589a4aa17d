use Rattle.std.proofs.Common.{true}
use Rattle.context_rules.specs.Ends.{gone}
use Rattle.context_trials.specs.Standing.{contexts_of}
use Rattle.context_trials.proofs.Standing.{stands_did}
use Rattle.context_trials.proofs.trial.Trial.delete_hooked.Goals as goal

pub returns-clause-stands : goal.returns-clause-stands
returns-clause-stands c = stands_did c.args.self.now (gone c.in_ok-id.id.number (contexts_of c.args.self.now)) c.delete.new.self c.delete.new.space c.delete.new.shelf c.delete.new.out true c.requires.stands c.in_ok-delete.ensures.did (λ e. absurd (cc e))
