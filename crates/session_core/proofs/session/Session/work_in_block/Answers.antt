use Rattle.session_core.proofs.Base.{refl, arith}
use Rattle.session_core.proofs.Words.{most_steps, most_work, handed, less_room}
use Rattle.session_core.proofs.Lemmas.{work_stopped, work_then_ok, working_block}
use Rattle.session_core.proofs.session.Session.work_in_block.Goals as goal

pub work-requires-clause-active : goal.work-requires-clause-active
work-requires-clause-active g c = working_block c.args.self.now.levels c.requires.block

pub work-requires-clause-room : goal.work-requires-clause-room
work-requires-clause-room g c = less_room most_work most_steps _ (omega arith) c.requires.room

pub returns-clause-performed : goal.returns-clause-performed
returns-clause-performed g c =
    work_then_ok _ _ _ _ _ _ c.requires.block c.in_ok-work.ensures.performed c.emit.ensures.emitted (λ us vs first second. g.met.E.Emit.emits_more _ _ _ _ _ _ first second refl)

pub returns-in_err-work-clause-performed : goal.returns-in_err-work-clause-performed
returns-in_err-work-clause-performed g c = handed _ _ c.from_residual.ensures.1 (work_stopped _ _ _ _ _ c.requires.block c.in_err-work.ensures.performed)
