use Rattle.std.proofs.Common.{◌∙◌}
use Rattle.file_table.proofs.Caches.{had, after_promote}
use Rattle.file_table.proofs.descriptors.Descriptors.touch.Goals as goal

pub returns-clause-had : goal.returns-clause-had
returns-clause-had c = c.promote.ensures.value ∙ had c.args.file c.self.inside.files c.args.self.now c.self.view_is

pub returns-clause-after : goal.returns-clause-after
returns-clause-after c = after_promote c.args.file c.self.inside.files c.promote.new.self c.args.self.now c.self.view_is c.promote.ensures.entries
