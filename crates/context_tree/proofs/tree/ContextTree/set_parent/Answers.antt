use Rattle.context_tree.proofs.Base.{◌≡◌, true, false, [], sym, ◌∙◌}
use Rattle.context_tree.proofs.Words.{Space}
use Rattle.context_tree.proofs.tree.ContextTree.set_parent.Goals as goal

abbrev nothing : Space
nothing = record { regions = []; taken = []; limit = 0 }

pub move_to-requires-clause-apart : goal.move_to-requires-clause-apart
move_to-requires-clause-apart g c = (nothing, sym (c.is_within.ensures nothing) ∙ c.if-is_within.false)

pub move_to-requires-clause-protected : goal.move_to-requires-clause-protected
move_to-requires-clause-protected g c = (nothing, λ h. let own : false ≡ true = sym c.if-protected.false ∙ c.protected.ensures nothing ∙ h in absurd (cc own))
