use Rattle.std.proofs.Common.{ap, ◌∙◌}
use Rattle.std.specs.Prelude.{sum_by}
use Rattle.addr_space.specs.Space.{held, share}
use Rattle.embed_example.proofs.one_context.carried.Goals as goal

pub returns-clause-held : goal.returns-clause-held
unfolding held
returns-clause-held c account = c.carry.ensures.held account ∙ ap (sum_by (share account)) c.in-Ok.ensures.regions
