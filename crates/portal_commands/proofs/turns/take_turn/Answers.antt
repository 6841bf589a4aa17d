use Rattle.portal_commands.proofs.Words.{now}
use Rattle.portal_commands.proofs.Lemmas.{turn_as, turn_done, turn_failed}
use Rattle.portal_commands.proofs.turns.take_turn.Goals as goal

pub returns-in-Ok-clause-performed : goal.returns-in-Ok-clause-performed
returns-in-Ok-clause-performed g c scan h =
    turn_as c.args.portal.now.name scan 3 _ _ _ _ (turn_done c.args.portal.now.name 3 _ _ _ _ (c.in-Ok.ensures.performed scan h))

pub returns-in-Err-clause-performed : goal.returns-in-Err-clause-performed
returns-in-Err-clause-performed g c scan h =
    turn_as c.args.portal.now.name scan 3 _ _ _ _
    (turn_failed c.args.portal.now.name 3 _ _ (now c.run_turn.new.store c.run_turn.new.shared) c.fail_portal.new.store _ c.in-Err.error (c.in-Err.ensures.performed scan h)
    (c.fail_portal.ensures.acted c.run_turn.new.shared.space.now c.run_turn.new.shared.shelf.now c.run_turn.new.shared.commons.now) c.fail_portal.ensures.alone)
