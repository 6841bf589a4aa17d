-- Portals, computed from the definitions.
use Rattle.std.proofs.Common.{◌≡◌, [], ◌∷◌, refl, ◌++◌}
use Rattle.std.specs.Prelude.{codes}
use Rattle.session_rules.proofs.Setting.{options}
use Rattle.lifetime_rows.proofs.Setting.{told, gone, all_rules}

pub record PortalRows : Type 0 where
  pub a_bad_row : told options (codes "begin" ∷ codes "lock 9 AccessShareLock" ∷ codes "portal p 40 30 3" ∷ codes "savepoint s" ∷ codes "fetch p 5" ∷ codes "rollback to s" ∷ codes "rollback" ∷ [])
      ≡ codes "1 begin level 1\n1 create c6 TopTransactionContext in c1\n1 owner o1\n1 ok\n1 acquire lock 9 AccessShareLock o1\n1 ok\n1 create c7 PortalContext in c4\n1 owner o2 in o1\n1 acquire lock 40 AccessShareLock o2\n1 acquire relcache reference 40 #1 o2\n1 acquire snapshot reference 40 #2 o2\n1 create c8 ExprContext in c7\n1 ok\n1 begin level 2\n1 create c9 CurTransactionContext in c6\n1 owner o3 in o1\n1 ok\n1 acquire buffer pin 40 #3 o2\n1 row p 0 240\n1 reset c8\n1 row p 1 247\n1 reset c8\n1 row p 2 254\n1 reset c8\n1 ERROR 22012 bad row 3\n1 abort level 2\n1 owner o2 to o3\n1 release buffer pin 40 #3 o2\n1 release relcache reference 40 #1 o2\n1 release lock 40 AccessShareLock x1 o2\n1 release snapshot reference 40 #2 o2\n1 cleanup level 2\n1 owner o2 gone\n1 owner o3 gone\n1 delete c9\n1 begin level 2\n1 create c10 CurTransactionContext in c6\n1 owner o4 in o1\n1 ok\n1 abort level 2\n1 cleanup level 2\n1 owner o4 gone\n1 delete c10\n1 abort level 1\n1 delete c8\n1 release lock 9 AccessShareLock x1 o1\n1 cleanup level 1\n1 delete c7\n1 owner o1 gone\n1 delete c6\n1 ok\n" ++ gone
  pub a_whole_scan : told options (codes "begin" ∷ codes "portal q 3 12" ∷ codes "fetch q 20" ∷ codes "endportal q" ∷ codes "commit" ∷ [])
      ≡ codes "1 begin level 1\n1 create c6 TopTransactionContext in c1\n1 owner o1\n1 ok\n1 create c7 PortalContext in c4\n1 owner o2 in o1\n1 acquire lock 3 AccessShareLock o2\n1 acquire relcache reference 3 #1 o2\n1 acquire snapshot reference 3 #2 o2\n1 create c8 ExprContext in c7\n1 ok\n1 acquire buffer pin 3 #3 o2\n1 row q 0 93\n1 reset c8\n1 row q 1 100\n1 reset c8\n1 row q 2 107\n1 reset c8\n1 row q 3 114\n1 reset c8\n1 row q 4 121\n1 reset c8\n1 row q 5 128\n1 reset c8\n1 row q 6 135\n1 reset c8\n1 row q 7 142\n1 reset c8\n1 row q 8 149\n1 reset c8\n1 row q 9 156\n1 reset c8\n1 release buffer pin 3 #3 o2\n1 acquire buffer pin 4 #4 o2\n1 row q 10 163\n1 reset c8\n1 row q 11 170\n1 release buffer pin 4 #4 o2\n1 fetched q 12\n1 ok\n1 release relcache reference 3 #1 o2\n1 release snapshot reference 3 #2 o2\n1 pass lock 3 AccessShareLock x1 o2 to o1\n1 owner o2 gone\n1 delete c8\n1 delete c7\n1 ok\n1 commit level 1\n1 release lock 3 AccessShareLock x1 o1\n1 owner o1 gone\n1 delete c6\n1 ok\n" ++ gone
  -- owners of portals pass to the level above, and the one that passes last stands in front
  pub two_portals_pass : told options (codes "begin" ∷ codes "savepoint s" ∷ codes "portal p 1 5" ∷ codes "portal q 2 5" ∷ codes "release s" ∷ codes "rollback" ∷ [])
      ≡ codes "1 begin level 1\n1 create c6 TopTransactionContext in c1\n1 owner o1\n1 ok\n1 begin level 2\n1 create c7 CurTransactionContext in c6\n1 owner o2 in o1\n1 ok\n1 create c8 PortalContext in c4\n1 owner o3 in o2\n1 acquire lock 1 AccessShareLock o3\n1 acquire relcache reference 1 #1 o3\n1 acquire snapshot reference 1 #2 o3\n1 create c9 ExprContext in c8\n1 ok\n1 create c10 PortalContext in c4\n1 owner o4 in o2\n1 acquire lock 2 AccessShareLock o4\n1 acquire relcache reference 2 #3 o4\n1 acquire snapshot reference 2 #4 o4\n1 create c11 ExprContext in c10\n1 ok\n1 commit level 2\n1 owner o4 to o1\n1 owner o3 to o1\n1 owner o2 gone\n1 delete c7\n1 ok\n1 abort level 1\n1 delete c11\n1 delete c9\n1 release relcache reference 1 #1 o3\n1 release relcache reference 2 #3 o4\n1 release lock 1 AccessShareLock x1 o1\n1 release lock 2 AccessShareLock x1 o1\n1 release snapshot reference 1 #2 o3\n1 release snapshot reference 2 #4 o4\n1 cleanup level 1\n1 delete c10\n1 delete c8\n1 owner o3 gone\n1 owner o4 gone\n1 owner o1 gone\n1 delete c6\n1 ok\n" ++ gone
  -- a portal fails with its savepoint
  pub a_portal_of_a_savepoint : told options (codes "begin" ∷ codes "savepoint s" ∷ codes "portal p 1 3" ∷ codes "fetch p 2" ∷ codes "rollback to s" ∷ codes "fetch p 1" ∷ codes "rollback" ∷ [])
      ≡ codes "1 begin level 1\n1 create c6 TopTransactionContext in c1\n1 owner o1\n1 ok\n1 begin level 2\n1 create c7 CurTransactionContext in c6\n1 owner o2 in o1\n1 ok\n1 create c8 PortalContext in c4\n1 owner o3 in o2\n1 acquire lock 1 AccessShareLock o3\n1 acquire relcache reference 1 #1 o3\n1 acquire snapshot reference 1 #2 o3\n1 create c9 ExprContext in c8\n1 ok\n1 acquire buffer pin 1 #3 o3\n1 row p 0 31\n1 reset c9\n1 row p 1 38\n1 fetched p 2\n1 ok\n1 abort level 2\n1 delete c9\n1 release buffer pin 1 #3 o3\n1 release relcache reference 1 #1 o3\n1 release lock 1 AccessShareLock x1 o3\n1 release snapshot reference 1 #2 o3\n1 cleanup level 2\n1 delete c8\n1 owner o3 gone\n1 owner o2 gone\n1 delete c7\n1 begin level 2\n1 create c10 CurTransactionContext in c6\n1 owner o4 in o1\n1 ok\n1 ERROR 34000 no such portal\n1 abort level 2\n1 cleanup level 2\n1 owner o4 gone\n1 delete c10\n1 abort level 1\n1 cleanup level 1\n1 owner o1 gone\n1 delete c6\n1 ok\n" ++ gone
  -- portals that are open at commit end with it
  pub portals_at_commit : told options (codes "begin" ∷ codes "portal p 1 30" ∷ codes "fetch p 12" ∷ codes "portal q 2 2" ∷ codes "fetch q 2" ∷ codes "fetch q 2" ∷ codes "fetch q 2" ∷ codes "portal q 1 1" ∷ codes "rollback" ∷ codes "begin" ∷ codes "portal p 7 20 3" ∷ codes "savepoint s" ∷ codes "fetch p 2" ∷ codes "release s" ∷ codes "pin 7" ∷ codes "commit" ∷ codes "fetch p 1" ∷ [])
      ≡ codes "1 begin level 1\n1 create c6 TopTransactionContext in c1\n1 owner o1\n1 ok\n1 create c7 PortalContext in c4\n1 owner o2 in o1\n1 acquire lock 1 AccessShareLock o2\n1 acquire relcache reference 1 #1 o2\n1 acquire snapshot reference 1 #2 o2\n1 create c8 ExprContext in c7\n1 ok\n1 acquire buffer pin 1 #3 o2\n1 row p 0 31\n1 reset c8\n1 row p 1 38\n1 reset c8\n1 row p 2 45\n1 reset c8\n1 row p 3 52\n1 reset c8\n1 row p 4 59\n1 reset c8\n1 row p 5 66\n1 reset c8\n1 row p 6 73\n1 reset c8\n1 row p 7 80\n1 reset c8\n1 row p 8 87\n1 reset c8\n1 row p 9 94\n1 reset c8\n1 release buffer pin 1 #3 o2\n1 acquire buffer pin 2 #4 o2\n1 row p 10 101\n1 reset c8\n1 row p 11 108\n1 fetched p 12\n1 ok\n1 create c9 PortalContext in c4\n1 owner o3 in o1\n1 acquire lock 2 AccessShareLock o3\n1 acquire relcache reference 2 #5 o3\n1 acquire snapshot reference 2 #6 o3\n1 create c10 ExprContext in c9\n1 ok\n1 acquire buffer pin 2 #7 o3\n1 row q 0 62\n1 reset c10\n1 row q 1 69\n1 fetched q 2\n1 ok\n1 release buffer pin 2 #7 o3\n1 fetched q 0\n1 ok\n1 fetched q 0\n1 ok\n1 ERROR 42P03 portal is there\n1 abort level 1\n1 delete c10\n1 delete c8\n1 release relcache reference 2 #5 o3\n1 release buffer pin 2 #4 o2\n1 release relcache reference 1 #1 o2\n1 release lock 1 AccessShareLock x1 o1\n1 release lock 2 AccessShareLock x1 o1\n1 release snapshot reference 2 #6 o3\n1 release snapshot reference 1 #2 o2\n1 cleanup level 1\n1 delete c9\n1 delete c7\n1 owner o3 gone\n1 owner o2 gone\n1 owner o1 gone\n1 delete c6\n1 ok\n1 begin level 1\n1 create c11 TopTransactionContext in c1\n1 owner o4\n1 ok\n1 create c12 PortalContext in c4\n1 owner o5 in o4\n1 acquire lock 7 AccessShareLock o5\n1 acquire relcache reference 7 #8 o5\n1 acquire snapshot reference 7 #9 o5\n1 create c13 ExprContext in c12\n1 ok\n1 begin level 2\n1 create c14 CurTransactionContext in c11\n1 owner o6 in o4\n1 ok\n1 acquire buffer pin 7 #10 o5\n1 row p 0 217\n1 reset c13\n1 row p 1 224\n1 fetched p 2\n1 ok\n1 commit level 2\n1 owner o6 gone\n1 delete c14\n1 ok\n1 acquire buffer pin 7 #11 o4\n1 ok\n1 commit level 1\n1 release buffer pin 7 #10 o5\n1 release relcache reference 7 #8 o5\n1 release snapshot reference 7 #9 o5\n1 delete c13\n1 delete c12\n1 warning resource was not closed: buffer pin 7 #11 o4\n1 release buffer pin 7 #11 o4\n1 release lock 7 AccessShareLock x1 o4\n1 owner o5 gone\n1 owner o4 gone\n1 delete c11\n1 ok\n1 begin level 1\n1 create c15 TopTransactionContext in c1\n1 owner o7\n1 ERROR 34000 no such portal\n1 abort level 1\n1 cleanup level 1\n1 owner o7 gone\n1 delete c15\n" ++ gone
  -- a portal whose making fails
  pub a_portal_fails : told (record options { fail = 12 }) (codes "begin" ∷ codes "portal p 1 3" ∷ codes "rollback" ∷ [])
      ≡ codes "1 begin level 1\n1 create c6 TopTransactionContext in c1\n1 owner o1\n1 ok\n1 create c7 PortalContext in c4\n1 owner o2 in o1\n1 acquire lock 1 AccessShareLock o2\n1 acquire relcache reference 1 #1 o2\n1 acquire snapshot reference 1 #2 o2\n1 ERROR 53200 out of memory at call 12\n1 abort level 1\n1 release relcache reference 1 #1 o2\n1 release lock 1 AccessShareLock x1 o1\n1 release snapshot reference 1 #2 o2\n1 cleanup level 1\n1 delete c7\n1 owner o2 gone\n1 owner o1 gone\n1 delete c6\n1 ok\n" ++ gone

pub portal_rows : PortalRows
unfolding all_rules
portal_rows = record { a_bad_row = refl; a_whole_scan = refl; two_portals_pass = refl; a_portal_of_a_savepoint = refl; portals_at_commit = refl; a_portal_fails = refl }
