use Rattle.std.proofs.Common.{ap, ◌∙◌}
use Rattle.session_owners.specs.Commons.{CommonState}
use Rattle.session_owners.specs.ResourceState.{ResourceState, owners_of}
use Rattle.session_owners.proofs.Balances.{few_none, serves_first}
use Rattle.owner_trials.proofs.session_resources.Session.new.Goals as goal

pub returns-clause-serves : goal.returns-clause-serves
returns-clause-serves c =
    serves_first c.in_ok-resources.resources c.swap_kinds.new.self (ap owners_of c.in_ok-resources.ensures.begins) c.names-names.ensures.sound (ap (λ (r : ResourceState). r.locks) c.in_ok-resources.ensures.begins)
    (ap (λ (z : CommonState). z.locks) c.swap_kinds.ensures.swapped ∙ ap (λ (z : CommonState). z.locks) c.in_ok-commons.ensures)
    (few_none c.swap_kinds.new.self.pins (ap (λ (z : CommonState). z.pins) c.swap_kinds.ensures.swapped ∙ ap (λ (z : CommonState). z.pins) c.in_ok-commons.ensures))
