use Rattle.context_tree.proofs.Base.{sym, ◌∙◌}
use Rattle.context_tree.proofs.tree.ContextTree.delete_children.Goals as goal

pub clear_children-requires-clause-apart : goal.clear_children-requires-clause-apart
clear_children-requires-clause-apart g c = sym (c.is_current_below.ensures c.args.space.now) ∙ c.if-is_current_below.false
