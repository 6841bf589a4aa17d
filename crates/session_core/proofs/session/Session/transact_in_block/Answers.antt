use Rattle.session_core.proofs.Base.{ap, arith}
use Rattle.session_core.proofs.Words.{TransactionCommand, What, transaction_of, levels_of, most_steps, less_room}
use Rattle.session_core.proofs.Lemmas.{begun_inside, committed_inside, performed_warned, rolled_back_inside, saved_inside, transacts}
use Rattle.session_core.proofs.session.Session.transact_in_block.Goals as goal

pub returns-in-Begin-clause-performed : goal.returns-in-Begin-clause-performed
returns-in-Begin-clause-performed g c =
    transacts 0 most_steps c.args.command.now _ _ _ _ _ _ (omega arith) (begun_inside c.args.self.now.levels c.requires.block c.args.command.now c.in-Begin.is)
    (performed_warned What.AlreadyInTransaction _ _ c.requires.between.keeps c.warn_inside.ensures)

pub returns-in-Commit-clause-performed : goal.returns-in-Commit-clause-performed
returns-in-Commit-clause-performed g c =
    transacts 0 most_steps c.args.command.now _ _ _ _ _ _ (omega arith) (committed_inside c.args.self.now.levels c.requires.block c.args.command.now c.in-Commit.is)
    c.commit_block.ensures.performed

pub returns-in-Rollback-clause-performed : goal.returns-in-Rollback-clause-performed
returns-in-Rollback-clause-performed g c =
    transacts 0 most_steps c.args.command.now _ _ _ _ _ _ (omega arith) (rolled_back_inside c.args.self.now.levels c.requires.block c.args.command.now c.in-Rollback.is)
    c.roll_block_back.ensures.performed

pub returns-in-Savepoint-clause-performed : goal.returns-in-Savepoint-clause-performed
returns-in-Savepoint-clause-performed g c =
    transacts 3 most_steps c.args.command.now _ _ _ _ _ _ (omega arith) (saved_inside c.args.self.now.levels c.requires.block c.args.command.now c.in-Savepoint.name c.in-Savepoint.is)
    c.begin.ensures.performed

pub returns-in-Release-clause-performed : goal.returns-in-Release-clause-performed
returns-in-Release-clause-performed g c =
    transacts 0 most_steps c.args.command.now _ _ _ _ _ _ (omega arith) (ap (λ (x : TransactionCommand). transaction_of x (levels_of c.args.self.now.levels)) c.in-Release.is)
    c.release.ensures.performed

pub returns-in-RollbackTo-clause-performed : goal.returns-in-RollbackTo-clause-performed
returns-in-RollbackTo-clause-performed g c =
    transacts 3 most_steps c.args.command.now _ _ _ _ _ _ (omega arith) (ap (λ (x : TransactionCommand). transaction_of x (levels_of c.args.self.now.levels)) c.in-RollbackTo.is)
    c.return_to.ensures.performed

pub begin-requires-clause-room : goal.begin-requires-clause-room
begin-requires-clause-room g c = grind (arith, less_room 3 most_steps, c.requires.room)

pub return_to-requires-clause-room : goal.return_to-requires-clause-room
return_to-requires-clause-room g c = grind (arith, less_room 3 most_steps, c.requires.room)
