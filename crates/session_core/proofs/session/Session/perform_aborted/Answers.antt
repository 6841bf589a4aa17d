use Rattle.session_core.proofs.Base.{ap, refl, arith}
use Rattle.session_core.proofs.Words.{Command, elements_of, session_of, performed_more, performed_none}
use Rattle.session_core.proofs.Lemmas.{as_elements, in_aborted, not_in_aborted, performed_refused}
use Rattle.session_core.proofs.session.Session.perform_aborted.Goals as goal

pub returns-in-Nothing-clause-performed : goal.returns-in-Nothing-clause-performed
unfolding session_of
returns-in-Nothing-clause-performed g c =
    in_aborted 3 _ Command.Nothing _ _ _ _ c.in-Nothing.is c.requires.block refl
    (performed_more 0 3 _ _ _ _ _ (omega arith) (performed_none _ _ c.requires.between.keeps (g.met.E.Emit.emits_none c.args.out.now)))

pub returns-in-Transaction-clause-performed : goal.returns-in-Transaction-clause-performed
returns-in-Transaction-clause-performed g c =
    as_elements 3 _ _ _ _ _ _ (ap (λ (x : Command). elements_of x (session_of c.args.self.now c.args.shared.now.space.now)) c.in-Transaction.is) c.transact_aborted.ensures.performed

pub returns-in-Work-clause-performed : goal.returns-in-Work-clause-performed
unfolding session_of
returns-in-Work-clause-performed g c =
    not_in_aborted 3 _ (Command.Work c.in-Work.field-0) _ _ _ _ c.in-Work.is c.requires.block refl
    (performed_refused 3 _ _ _ _ c.requires.between.keeps (g.met.E.Emit.emits_none c.args.out.now) refl)
