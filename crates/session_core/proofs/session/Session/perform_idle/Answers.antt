use Rattle.session_core.proofs.Base.{arith}
use Rattle.session_core.proofs.Words.{Command, session_of, most_steps, performed_more, performed_none}
use Rattle.session_core.proofs.Lemmas.{in_idle}
use Rattle.session_core.proofs.session.Session.perform_idle.Goals as goal

pub returns-in-Nothing-clause-performed : goal.returns-in-Nothing-clause-performed
unfolding session_of
returns-in-Nothing-clause-performed g c =
    in_idle most_steps _ Command.Nothing _ _ _ _ c.in-Nothing.is c.requires.none
    (performed_more 0 most_steps _ _ _ _ _ (omega arith) (performed_none _ _ c.requires.between.keeps (g.met.E.Emit.emits_none c.args.out.now)))

pub returns-in-Transaction-clause-performed : goal.returns-in-Transaction-clause-performed
unfolding session_of
returns-in-Transaction-clause-performed g c =
    in_idle most_steps _ (Command.Transaction c.in-Transaction.command) _ _ _ _ c.in-Transaction.is c.requires.none c.transact_idle.ensures.performed

pub returns-in-Work-clause-performed : goal.returns-in-Work-clause-performed
unfolding session_of
returns-in-Work-clause-performed g c =
    in_idle most_steps _ (Command.Work c.in-Work.work) _ _ _ _ c.in-Work.is c.requires.none c.work_alone.ensures.performed
