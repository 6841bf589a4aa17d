use Rattle.pgs_command.proofs.ValueLemmas.{name_of-is}
use Rattle.pgs_command.proofs.values.read_name.Goals as goal

pub returns : goal.returns
returns c = name_of-is c.args.word.now c.new.result c.new.ensures.some c.new.ensures.value
