-- Transactions, savepoints and errors, computed from the definitions.
use Rattle.std.proofs.Common.{◌≡◌, [], ◌∷◌, Some, refl, ◌++◌}
use Rattle.std.specs.Prelude.{codes, replicate}
use Rattle.session_rules.proofs.Setting.{options}
use Rattle.lifetime_rows.proofs.Setting.{told, told_wanting, gone, all_rules}

pub record LevelRows : Type 0 where
  pub nothing : told options ([]) ≡ gone
  pub a_pin_at_commit : told options (codes "begin" ∷ codes "pin 7" ∷ codes "commit" ∷ [])
      ≡ codes "1 begin level 1\n1 create c6 TopTransactionContext in c1\n1 owner o1\n1 ok\n1 acquire buffer pin 7 #1 o1\n1 ok\n1 commit level 1\n1 warning resource was not closed: buffer pin 7 #1 o1\n1 release buffer pin 7 #1 o1\n1 owner o1 gone\n1 delete c6\n1 ok\n" ++ gone
  pub a_pin_at_rollback : told options (codes "begin" ∷ codes "pin 7" ∷ codes "rollback" ∷ [])
      ≡ codes "1 begin level 1\n1 create c6 TopTransactionContext in c1\n1 owner o1\n1 ok\n1 acquire buffer pin 7 #1 o1\n1 ok\n1 abort level 1\n1 release buffer pin 7 #1 o1\n1 cleanup level 1\n1 owner o1 gone\n1 delete c6\n1 ok\n" ++ gone
  -- an error aborts the transaction, and only its end is taken then
  pub raised : told options (codes "begin" ∷ codes "raise" ∷ codes "pin 1" ∷ codes "commit" ∷ [])
      ≡ codes "1 begin level 1\n1 create c6 TopTransactionContext in c1\n1 owner o1\n1 ok\n1 ERROR P0001 raised\n1 abort level 1\n1 ERROR 25P02 transaction is aborted\n1 cleanup level 1\n1 owner o1 gone\n1 delete c6\n1 ok\n" ++ gone
  pub not_ended : told options (codes "begin" ∷ [])
      ≡ codes "1 begin level 1\n1 create c6 TopTransactionContext in c1\n1 owner o1\n1 ok\n1 abort level 1\n1 cleanup level 1\n1 owner o1 gone\n1 delete c6\n" ++ gone
  -- a comment of 512 bytes, and one of 513
  pub a_whole_comment : told options ((35 ∷ replicate 511 120) ∷ []) ≡ gone
  pub a_comment_too_long : told options ((35 ∷ replicate 512 120) ∷ []) ≡ codes "1 ERROR 42601 syntax error\n" ++ gone
  -- warnings, and a bad line in an aborted block
  pub warnings : told options (codes "commit" ∷ codes "rollback" ∷ codes "begin" ∷ codes "begin" ∷ codes "savepoint s" ∷ codes "bogus" ∷ codes "begin" ∷ codes "bogus" ∷ codes "rollback to t" ∷ codes "rollback to s" ∷ codes "commit" ∷ [])
      ≡ codes "1 warning there is no transaction in progress\n1 ok\n1 warning there is no transaction in progress\n1 ok\n1 begin level 1\n1 create c6 TopTransactionContext in c1\n1 owner o1\n1 ok\n1 warning there is already a transaction in progress\n1 ok\n1 begin level 2\n1 create c7 CurTransactionContext in c6\n1 owner o2 in o1\n1 ok\n1 ERROR 42601 syntax error\n1 abort level 2\n1 ERROR 25P02 transaction is aborted\n1 ERROR 42601 syntax error\n1 ERROR 3B001 no such savepoint\n1 cleanup level 2\n1 owner o2 gone\n1 delete c7\n1 begin level 2\n1 create c8 CurTransactionContext in c6\n1 owner o3 in o1\n1 ok\n1 commit level 2\n1 owner o3 gone\n1 delete c8\n1 commit level 1\n1 owner o1 gone\n1 delete c6\n1 ok\n" ++ gone
  -- commands without a transaction
  pub for_one_command : told options (codes "pin 7" ∷ codes "raise" ∷ codes "savepoint s" ∷ codes "release s" ∷ [])
      ≡ codes "1 begin level 1\n1 create c6 TopTransactionContext in c1\n1 owner o1\n1 acquire buffer pin 7 #1 o1\n1 commit level 1\n1 warning resource was not closed: buffer pin 7 #1 o1\n1 release buffer pin 7 #1 o1\n1 owner o1 gone\n1 delete c6\n1 ok\n1 begin level 1\n1 create c7 TopTransactionContext in c1\n1 owner o2\n1 ERROR P0001 raised\n1 abort level 1\n1 cleanup level 1\n1 owner o2 gone\n1 delete c7\n1 ERROR 25P01 no transaction block\n1 ERROR 25P01 no transaction block\n" ++ gone
  -- the context of a savepoint in which memory was taken stays with the level above
  pub a_context_stays : told options (codes "begin" ∷ codes "savepoint s" ∷ codes "alloc a 10" ∷ codes "release s" ∷ codes "commit" ∷ [])
      ≡ codes "1 begin level 1\n1 create c6 TopTransactionContext in c1\n1 owner o1\n1 ok\n1 begin level 2\n1 create c7 CurTransactionContext in c6\n1 owner o2 in o1\n1 ok\n1 ok\n1 commit level 2\n1 owner o2 gone\n1 ok\n1 commit level 1\n1 owner o1 gone\n1 delete c7\n1 delete c6\n1 ok\n" ++ gone
  pub no_savepoint : told options (codes "begin" ∷ codes "release t" ∷ [])
      ≡ codes "1 begin level 1\n1 create c6 TopTransactionContext in c1\n1 owner o1\n1 ok\n1 ERROR 3B001 no such savepoint\n1 abort level 1\n1 cleanup level 1\n1 owner o1 gone\n1 delete c6\n" ++ gone
  -- the deepest savepoint of a name is meant
  pub savepoints_of_one_name : told options (codes "begin" ∷ codes "savepoint s" ∷ codes "savepoint t" ∷ codes "savepoint s" ∷ codes "release s" ∷ codes "rollback to s" ∷ codes "release s" ∷ codes "commit" ∷ [])
      ≡ codes "1 begin level 1\n1 create c6 TopTransactionContext in c1\n1 owner o1\n1 ok\n1 begin level 2\n1 create c7 CurTransactionContext in c6\n1 owner o2 in o1\n1 ok\n1 begin level 3\n1 create c8 CurTransactionContext in c7\n1 owner o3 in o2\n1 ok\n1 begin level 4\n1 create c9 CurTransactionContext in c8\n1 owner o4 in o3\n1 ok\n1 commit level 4\n1 owner o4 gone\n1 delete c9\n1 ok\n1 abort level 3\n1 cleanup level 3\n1 owner o3 gone\n1 delete c8\n1 abort level 2\n1 cleanup level 2\n1 owner o2 gone\n1 delete c7\n1 begin level 2\n1 create c10 CurTransactionContext in c6\n1 owner o5 in o1\n1 ok\n1 commit level 2\n1 owner o5 gone\n1 delete c10\n1 ok\n1 commit level 1\n1 owner o1 gone\n1 delete c6\n1 ok\n" ++ gone
  -- a level that is being started when a call fails goes
  pub the_first_call_fails : told (record options { fail = 1 }) (codes "begin" ∷ []) ≡ codes "1 ERROR 53200 out of memory at call 1\n" ++ gone
  pub the_second_call_fails : told (record options { fail = 2 }) (codes "begin" ∷ [])
      ≡ codes "1 begin level 1\n1 ERROR 53200 out of memory at call 2\n1 abort level 1\n1 cleanup level 1\n" ++ gone
  pub the_third_call_fails : told (record options { fail = 3 }) (codes "begin" ∷ [])
      ≡ codes "1 begin level 1\n1 create c6 TopTransactionContext in c1\n1 ERROR 53200 out of memory at call 3\n1 abort level 1\n1 cleanup level 1\n1 delete c6\n" ++ gone
  pub the_fifth_call_fails : told (record options { fail = 5 }) (codes "begin" ∷ codes "pin 7" ∷ codes "savepoint s" ∷ codes "lock 5 ShareLock" ∷ codes "alloc a 100" ∷ codes "release s" ∷ codes "commit" ∷ [])
      ≡ codes "1 begin level 1\n1 create c6 TopTransactionContext in c1\n1 owner o1\n1 ok\n1 ERROR 53200 out of memory at call 5\n1 abort level 1\n1 ERROR 25P02 transaction is aborted\n1 ERROR 25P02 transaction is aborted\n1 ERROR 25P02 transaction is aborted\n1 ERROR 25P02 transaction is aborted\n1 cleanup level 1\n1 owner o1 gone\n1 delete c6\n1 ok\n" ++ gone
  -- a savepoint that fails while it is started leaves the level above aborted
  pub a_savepoint_fails : told (record options { fail = 5 }) (codes "begin" ∷ codes "savepoint s" ∷ codes "rollback" ∷ [])
      ≡ codes "1 begin level 1\n1 create c6 TopTransactionContext in c1\n1 owner o1\n1 ok\n1 begin level 2\n1 ERROR 53200 out of memory at call 5\n1 abort level 2\n1 cleanup level 2\n1 abort level 1\n1 cleanup level 1\n1 owner o1 gone\n1 delete c6\n1 ok\n" ++ gone
  -- a want of memory ends the script
  pub memory_is_wanted : told_wanting (Some 5) options (codes "begin" ∷ codes "acquire conn 1" ∷ codes "pin 3" ∷ [])
      ≡ codes "1 begin level 1\n1 create c6 TopTransactionContext in c1\n1 owner o1\n1 ok\n1 ERROR 53200 no memory at call 5\n1 abort level 1\n1 cleanup level 1\n1 owner o1 gone\n1 delete c6\n" ++ gone
  -- and all sessions end
  pub memory_is_wanted_in_one : told_wanting (Some 8) (record options { sessions = 2 }) (codes "@2 begin" ∷ codes "begin" ∷ codes "acquire conn 1" ∷ codes "pin 3" ∷ [])
      ≡ codes "2 begin level 1\n2 create c6 TopTransactionContext in c1\n2 owner o1\n2 ok\n1 begin level 1\n1 create c6 TopTransactionContext in c1\n1 owner o1\n1 ok\n1 ERROR 53200 no memory at call 8\n1 abort level 1\n1 cleanup level 1\n1 owner o1 gone\n1 delete c6\n1 delete c5\n1 delete c4\n1 delete c3\n1 delete c2\n1 delete c1\n1 exit\n2 abort level 1\n2 cleanup level 1\n2 owner o1 gone\n2 delete c6\n2 delete c5\n2 delete c4\n2 delete c3\n2 delete c2\n2 delete c1\n2 exit\n"

pub level_rows : LevelRows
unfolding all_rules
level_rows = record { nothing = refl; a_pin_at_commit = refl; a_pin_at_rollback = refl; raised = refl; not_ended = refl; a_whole_comment = refl; a_comment_too_long = refl; warnings = refl; for_one_command = refl; a_context_stays = refl; no_savepoint = refl; savepoints_of_one_name = refl; the_first_call_fails = refl; the_second_call_fails = refl; the_third_call_fails = refl; the_fifth_call_fails = refl; a_savepoint_fails = refl; memory_is_wanted = refl; memory_is_wanted_in_one = refl }
