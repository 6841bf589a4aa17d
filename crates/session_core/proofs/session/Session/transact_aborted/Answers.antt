use Rattle.session_core.proofs.Base.{ap, refl, arith}
use Rattle.session_core.proofs.Words.{Command, TransactionCommand, session_of}
use Rattle.session_core.proofs.Lemmas.{ended_aborted, in_aborted, is_an_end, is_no_end, not_in_aborted, performed_refused, transacts}
use Rattle.session_core.proofs.session.Session.transact_aborted.Goals as goal

pub returns-in-Commit-clause-performed : goal.returns-in-Commit-clause-performed
unfolding session_of
returns-in-Commit-clause-performed g c =
    in_aborted 3 _ (Command.Transaction c.args.command.now) _ _ _ _ refl c.requires.block (is_an_end c.args.command.now c.in-Commit.is)
    (transacts 0 3 c.args.command.now _ _ _ _ _ _ (omega arith) (ended_aborted c.args.self.now.levels c.requires.block c.args.command.now c.in-Commit.is) c.roll_block_back.ensures.performed)

pub returns-in-RollbackTo-clause-performed : goal.returns-in-RollbackTo-clause-performed
unfolding session_of
returns-in-RollbackTo-clause-performed g c =
    in_aborted 3 _ (Command.Transaction (TransactionCommand.RollbackTo c.in-RollbackTo.name)) _ _ _ _ (ap Command.Transaction c.in-RollbackTo.is) c.requires.block refl c.return_to.ensures.performed

pub returns-in-Begin-clause-performed : goal.returns-in-Begin-clause-performed
unfolding session_of
returns-in-Begin-clause-performed g c =
    not_in_aborted 3 _ (Command.Transaction c.args.command.now) _ _ _ _ refl c.requires.block (is_no_end c.args.command.now c.in-Begin.is)
    (performed_refused 3 _ _ _ _ c.requires.between.keeps (g.met.E.Emit.emits_none c.args.out.now) refl)

pub returns-in-Begin-2-clause-performed : goal.returns-in-Begin-2-clause-performed
unfolding session_of
returns-in-Begin-2-clause-performed g c =
    not_in_aborted 3 _ (Command.Transaction c.args.command.now) _ _ _ _ refl c.requires.block (is_no_end c.args.command.now c.in-Begin.is)
    (performed_refused 3 _ _ _ _ c.requires.between.keeps (g.met.E.Emit.emits_none c.args.out.now) refl)

pub returns-in-Begin-3-clause-performed : goal.returns-in-Begin-3-clause-performed
unfolding session_of
returns-in-Begin-3-clause-performed g c =
    not_in_aborted 3 _ (Command.Transaction c.args.command.now) _ _ _ _ refl c.requires.block (is_no_end c.args.command.now c.in-Begin.is)
    (performed_refused 3 _ _ _ _ c.requires.between.keeps (g.met.E.Emit.emits_none c.args.out.now) refl)
