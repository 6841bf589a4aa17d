use Rattle.session_core.proofs.Base.{[], ap, refl, arith}
use Rattle.session_core.proofs.Words.{TransactionCommand, What, transaction_of, most_steps, less_room}
use Rattle.session_core.proofs.Lemmas.{ended_idle, performed_refused, performed_warned, savepoints_idle, transacts}
use Rattle.session_core.proofs.session.Session.transact_idle.Goals as goal

pub returns-in-Begin-clause-performed : goal.returns-in-Begin-clause-performed
returns-in-Begin-clause-performed g c =
    transacts 3 most_steps c.args.command.now [] _ _ _ _ _ (omega arith) (ap (λ (x : TransactionCommand). transaction_of x []) c.in-Begin.is) c.begin.ensures.performed

pub returns-in-Commit-clause-performed : goal.returns-in-Commit-clause-performed
returns-in-Commit-clause-performed g c =
    transacts 0 most_steps c.args.command.now [] _ _ _ _ _ (omega arith) (ended_idle c.args.command.now c.in-Commit.is)
    (performed_warned What.NotInTransaction _ _ c.requires.between.keeps c.warn_outside.ensures)

pub returns-in-Savepoint-clause-performed : goal.returns-in-Savepoint-clause-performed
returns-in-Savepoint-clause-performed g c =
    transacts 0 most_steps c.args.command.now [] _ _ _ _ _ (omega arith) (savepoints_idle c.args.command.now c.in-Savepoint.is)
    (performed_refused 0 _ _ _ _ c.requires.between.keeps (g.met.E.Emit.emits_none c.args.out.now) refl)

pub returns-in-Savepoint-2-clause-performed : goal.returns-in-Savepoint-2-clause-performed
returns-in-Savepoint-2-clause-performed g c =
    transacts 0 most_steps c.args.command.now [] _ _ _ _ _ (omega arith) (savepoints_idle c.args.command.now c.in-Savepoint.is)
    (performed_refused 0 _ _ _ _ c.requires.between.keeps (g.met.E.Emit.emits_none c.args.out.now) refl)

pub returns-in-Savepoint-3-clause-performed : goal.returns-in-Savepoint-3-clause-performed
returns-in-Savepoint-3-clause-performed g c =
    transacts 0 most_steps c.args.command.now [] _ _ _ _ _ (omega arith) (savepoints_idle c.args.command.now c.in-Savepoint.is)
    (performed_refused 0 _ _ _ _ c.requires.between.keeps (g.met.E.Emit.emits_none c.args.out.now) refl)

pub begin-requires-clause-room : goal.begin-requires-clause-room
begin-requires-clause-room g c = grind (arith, less_room 3 most_steps, c.requires.room)
