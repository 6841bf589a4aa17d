use Rattle.std.proofs.Common.{◌∙◌, ap}
use Rattle.std.specs.Prelude.{is_some}
use Rattle.file_table.proofs.Caches.{had, after_pop}
use Rattle.file_table.proofs.descriptors.Descriptors.take_back.Goals as goal

pub returns-clause-had : goal.returns-clause-had
returns-clause-had c = c.is_some.ensures ∙ ap is_some c.pop.ensures.value ∙ had c.args.file c.self.inside.files c.args.self.now c.self.view_is

pub returns-clause-after : goal.returns-clause-after
returns-clause-after c = after_pop c.args.file c.self.inside.files c.pop.new.self c.args.self.now c.self.view_is c.pop.ensures.entries
