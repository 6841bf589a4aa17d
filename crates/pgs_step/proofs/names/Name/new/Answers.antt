use Rattle.std.proofs.Common.{rules}
use Rattle.pgs_step.proofs.KeptLemmas.{kept_name}
use Rattle.pgs_step.proofs.names.Name.new.Goals as goal

pub invariant_of-result : goal.invariant_of-result
invariant_of-result c = kept_name c.args.word.now _ (search rules) (search rules)
