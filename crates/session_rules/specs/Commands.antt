-- The elements of each command.
use Rattle.std.specs.Prelude.{ℕ, ◌+◌, ◌-◌, nat_lt, Bool, true, false, not, ◌&&◌, if◌then◌else◌, List, [], ◌∷◌, ◌++◌, length, replicate, Option, Some, None}
use Rattle.std.specs.Option.{option_map_or}
use Rattle.pgs_step.specs.declared.errors.Error.{Error}
use Rattle.pgs_step.specs.declared.errors.Error.TheVariants as error
use Rattle.pgs_step.specs.declared.events.What.TheVariants as what
use Rattle.pgs_command.specs.declared.commands.Command.{Command}
use Rattle.pgs_command.specs.declared.commands.Command.TheVariants as command
use Rattle.pgs_command.specs.declared.commands.TransactionCommand.{TransactionCommand}
use Rattle.pgs_command.specs.declared.commands.TransactionCommand.TheVariants as transaction
use Rattle.session_rules.specs.Elements as e
use Rattle.session_rules.specs.State.{is_aborted, LevelState, SessionState}
use Rattle.session_rules.specs.Elements.{Element, LevelContext, OfLevel, Text}
use Rattle.session_rules.specs.Lookup.{is_named}
use Rattle.session_rules.specs.Works.{work_of}

-- a level is started
abbrev pub start : Option Text → Bool → List Element
start name implicit = e.MakeLevel name implicit ∷ e.MakeContext LevelContext ∷ e.MakeOwner OfLevel ∷ e.LevelStands ∷ []

-- an error, and nothing more
abbrev pub refused : Error → List Element
refused error = e.Checks (e.Refuse error) ∷ []

-- the number of the deepest level of at least 2 that has this name
abbrev pub savepoint : Text → List LevelState → Option ℕ
savepoint name [] = None
savepoint name (level ∷ levels) = if nat_lt 0 (length levels) && is_named name level then Some (length levels + 1) else savepoint name levels

-- the levels from the deepest up to the one of this number are rolled back
abbrev pub rolled_back_to : ℕ → List LevelState → List Element
rolled_back_to n [] = []
rolled_back_to n (level ∷ levels) =
    if nat_lt (length levels + 1) n then []
    else (if level.aborted then e.Cleanup ∷ [] else e.Abort ∷ e.Cleanup ∷ []) ++ rolled_back_to n levels

-- the levels from the deepest up to the one of this number are committed, where that isn't 1
abbrev pub committed_to : ℕ → List LevelState → List Element
committed_to n levels = replicate (length levels + 1 - n) e.Subcommit

-- what is done at the savepoint of this name, where there is one
abbrev pub at_savepoint : Text → List LevelState → (ℕ → List Element) → List Element
at_savepoint name [] go_on = refused error.NoTransactionBlock
at_savepoint name (level ∷ levels) go_on = option_map_or go_on (savepoint name (level ∷ levels)) (refused error.NoSuchSavepoint)

-- all levels are committed; where the deepest is aborted, all are rolled back
abbrev pub commit : List LevelState → List Element
commit [] = e.Says what.NotInTransaction ∷ []
commit (level ∷ levels) =
    if level.aborted then rolled_back_to 1 (level ∷ levels) else committed_to 2 (level ∷ levels) ++ (e.CommitTop ∷ [])

abbrev pub rollback : List LevelState → List Element
rollback [] = e.Says what.NotInTransaction ∷ []
rollback (level ∷ levels) = rolled_back_to 1 (level ∷ levels)

-- What is done within a transaction: where there is no level, one is started for it alone.
abbrev pub in_transaction : List LevelState → List Element → List Element
in_transaction [] work = start None true ++ (work ++ (e.CommitTop ∷ e.Says what.Ok ∷ []))
in_transaction (level ∷ levels) work = work ++ (e.Says what.Ok ∷ [])

-- a savepoint is made in a transaction
abbrev pub save : Text → List LevelState → List Element
save name [] = refused error.NoTransactionBlock
save name (level ∷ levels) = start (Some name) false

abbrev pub begin : List LevelState → List Element
begin [] = start None false
begin (level ∷ levels) = e.Says what.AlreadyInTransaction ∷ []

-- a command on transactions is done
abbrev pub then_ok : List Element → List Element
then_ok elements = elements ++ (e.Says what.Ok ∷ [])

-- what begins and ends transactions and savepoints, where the deepest level is not aborted
abbrev pub transaction_of : TransactionCommand → List LevelState → List Element
transaction_of transaction.Begin levels = begin levels
transaction_of transaction.Commit levels = commit levels
transaction_of transaction.Rollback levels = rollback levels
transaction_of (transaction.Savepoint name) levels = save name levels
transaction_of (transaction.Release name) levels = at_savepoint name levels (λ n. committed_to n levels)
transaction_of (transaction.RollbackTo name) levels = at_savepoint name levels (λ n. rolled_back_to n levels ++ start (Some name) false)

-- the elements of a command where the deepest level is not aborted
abbrev pub unaborted : Command → SessionState → List Element
unaborted command.Nothing session = []
unaborted (command.Transaction c) session = then_ok (transaction_of c session.levels)
unaborted (command.Work w) session = in_transaction session.levels (work_of w session)

-- whether what ends a transaction, or goes back to a savepoint, is done in an aborted one too
abbrev pub ends_aborted : TransactionCommand → Bool
ends_aborted transaction.Commit = true
ends_aborted transaction.Rollback = true
ends_aborted (transaction.RollbackTo name) = true
ends_aborted other = false

-- whether the command is done in an aborted transaction too
abbrev pub is_end : Command → Bool
is_end command.Nothing = true
is_end (command.Transaction c) = ends_aborted c
is_end (command.Work w) = false

-- The elements of a command. In an aborted transaction each but the ends is refused.
unfoldable pub elements_of : Command → SessionState → List Element
elements_of command session =
    elim (is_aborted session.levels && not (is_end command)) as (λ _. List Element) [
      | true ↦ refused error.TransactionAborted
      | false ↦ unaborted command session
    ]
