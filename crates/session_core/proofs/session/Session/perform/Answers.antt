use Rattle.session_core.proofs.Base.{◌≤◌, length, ap, ◌∙◌, subst, arith}
use Rattle.session_core.proofs.Words.{first_of, StoreState, levels_of, most_steps, performed_more}
use Rattle.session_core.proofs.Lemmas.{aborted_block, block_of, lines_behind, rest_of_lines, steps_of_lines}
use Rattle.session_core.proofs.session.Session.perform.Goals as goal

pub perform_idle-requires-clause-between : goal.perform_idle-requires-clause-between
perform_idle-requires-clause-between g c = steps_of_lines _ c.requires.lines

pub perform_aborted-requires-clause-between : goal.perform_aborted-requires-clause-between
perform_aborted-requires-clause-between g c = steps_of_lines _ c.requires.lines

pub perform_aborted-requires-clause-block : goal.perform_aborted-requires-clause-block
perform_aborted-requires-clause-block g c = grind (arith, aborted_block c.args.self.now.levels c.in-Some.level, c.in-Some.ensures.level, c.self.view_is, c.if-level.true)

pub perform_in_block-requires-clause-between : goal.perform_in_block-requires-clause-between
perform_in_block-requires-clause-between g c = steps_of_lines _ c.requires.lines

pub perform_in_block-requires-clause-block : goal.perform_in_block-requires-clause-block
perform_in_block-requires-clause-block g c =
    block_of _ c.in-Some.level c.requires.lines (subst (λ (v : StoreState). length v.levels ≤ 1000) c.self.view_is c.in-Some.ensures.at_most) (c.in-Some.ensures.level ∙ ap (λ (a : StoreState). first_of (levels_of a.levels)) c.self.view_is) c.if-level.false

pub perform_idle-requires-clause-rest : goal.perform_idle-requires-clause-rest
perform_idle-requires-clause-rest g c = rest_of_lines _ c.requires.lines

pub perform_in_block-requires-clause-rest : goal.perform_in_block-requires-clause-rest
perform_in_block-requires-clause-rest g c = rest_of_lines _ c.requires.lines

pub returns-in-None-clause-lines : goal.returns-in-None-clause-lines
returns-in-None-clause-lines g c = lines_behind c.args.command.now _ _ _ c.perform_idle.result c.requires.lines c.perform_idle.ensures.performed

pub returns-in-Some-clause-lines : goal.returns-in-Some-clause-lines
returns-in-Some-clause-lines g c = lines_behind c.args.command.now _ _ _ c.perform_aborted.result c.requires.lines (performed_more 3 most_steps _ _ _ _ _ (omega arith) c.perform_aborted.ensures.performed)

pub returns-in-Some-2-clause-lines : goal.returns-in-Some-2-clause-lines
returns-in-Some-2-clause-lines g c = lines_behind c.args.command.now _ _ _ c.perform_in_block.result c.requires.lines c.perform_in_block.ensures.performed
