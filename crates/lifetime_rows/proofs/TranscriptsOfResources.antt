-- Items, locks, snapshots and plans, computed from the definitions.
use Rattle.std.proofs.Common.{◌≡◌, [], ◌∷◌, refl, ◌++◌}
use Rattle.std.specs.Prelude.{codes}
use Rattle.session_rules.proofs.Setting.{options}
use Rattle.lifetime_rows.proofs.Setting.{told, gone, all_rules}

pub record ResourceRows : Type 0 where
  -- a release goes by phases: before the locks, the locks, after the locks
  pub phases : told options (codes "begin" ∷ codes "pin 7" ∷ codes "open 3" ∷ codes "lock 5 AccessShareLock" ∷ codes "savepoint s" ∷ codes "pin 8" ∷ codes "acquire conn 4" ∷ codes "lock 6 RowExclusiveLock" ∷ codes "snapshot 9" ∷ codes "rollback" ∷ [])
      ≡ codes "1 begin level 1\n1 create c6 TopTransactionContext in c1\n1 owner o1\n1 ok\n1 acquire buffer pin 7 #1 o1\n1 ok\n1 descriptor opened 3\n1 acquire file 3 #2 o1\n1 ok\n1 acquire lock 5 AccessShareLock o1\n1 ok\n1 begin level 2\n1 create c7 CurTransactionContext in c6\n1 owner o2 in o1\n1 ok\n1 acquire buffer pin 8 #3 o2\n1 ok\n1 acquire conn 4 #4 o2\n1 ok\n1 acquire lock 6 RowExclusiveLock o2\n1 ok\n1 acquire snapshot reference 9 #5 o2\n1 ok\n1 abort level 2\n1 release buffer pin 8 #3 o2\n1 release conn 4 #4 o2\n1 release lock 6 RowExclusiveLock x1 o2\n1 release snapshot reference 9 #5 o2\n1 cleanup level 2\n1 owner o2 gone\n1 delete c7\n1 abort level 1\n1 release buffer pin 7 #1 o1\n1 release lock 5 AccessShareLock x1 o1\n1 release file 3 #2 o1\n1 descriptor closed 3\n1 cleanup level 1\n1 owner o1 gone\n1 delete c6\n1 ok\n" ++ gone
  pub a_lock_passes : told options (codes "begin" ∷ codes "lock 5 AccessShareLock" ∷ codes "savepoint s" ∷ codes "lock 5 AccessShareLock" ∷ codes "lock 5 AccessShareLock" ∷ codes "release s" ∷ codes "commit" ∷ [])
      ≡ codes "1 begin level 1\n1 create c6 TopTransactionContext in c1\n1 owner o1\n1 ok\n1 acquire lock 5 AccessShareLock o1\n1 ok\n1 begin level 2\n1 create c7 CurTransactionContext in c6\n1 owner o2 in o1\n1 ok\n1 acquire lock 5 AccessShareLock o2\n1 ok\n1 acquire lock 5 AccessShareLock o2\n1 ok\n1 commit level 2\n1 pass lock 5 AccessShareLock x2 o2 to o1\n1 owner o2 gone\n1 delete c7\n1 ok\n1 commit level 1\n1 release lock 5 AccessShareLock x3 o1\n1 owner o1 gone\n1 delete c6\n1 ok\n" ++ gone
  pub a_lock_goes_with_its_savepoint : told options (codes "begin" ∷ codes "lock 5 AccessShareLock" ∷ codes "savepoint s" ∷ codes "lock 5 AccessShareLock" ∷ codes "lock 5 AccessShareLock" ∷ codes "rollback to s" ∷ codes "commit" ∷ [])
      ≡ codes "1 begin level 1\n1 create c6 TopTransactionContext in c1\n1 owner o1\n1 ok\n1 acquire lock 5 AccessShareLock o1\n1 ok\n1 begin level 2\n1 create c7 CurTransactionContext in c6\n1 owner o2 in o1\n1 ok\n1 acquire lock 5 AccessShareLock o2\n1 ok\n1 acquire lock 5 AccessShareLock o2\n1 ok\n1 abort level 2\n1 release lock 5 AccessShareLock x2 o2\n1 cleanup level 2\n1 owner o2 gone\n1 delete c7\n1 begin level 2\n1 create c8 CurTransactionContext in c6\n1 owner o3 in o1\n1 ok\n1 commit level 2\n1 owner o3 gone\n1 delete c8\n1 commit level 1\n1 release lock 5 AccessShareLock x1 o1\n1 owner o1 gone\n1 delete c6\n1 ok\n" ++ gone
  pub a_conflict : told (record options { sessions = 2 }) (codes "begin" ∷ codes "lock 5 AccessShareLock" ∷ codes "@2 lock 5 AccessExclusiveLock" ∷ codes "commit" ∷ codes "@2 lock 5 AccessExclusiveLock" ∷ [])
      ≡ codes "1 begin level 1\n1 create c6 TopTransactionContext in c1\n1 owner o1\n1 ok\n1 acquire lock 5 AccessShareLock o1\n1 ok\n2 begin level 1\n2 create c6 TopTransactionContext in c1\n2 owner o1\n2 ERROR 55P03 lock is held by session 1 as AccessShareLock\n2 abort level 1\n2 cleanup level 1\n2 owner o1 gone\n2 delete c6\n1 commit level 1\n1 release lock 5 AccessShareLock x1 o1\n1 owner o1 gone\n1 delete c6\n1 ok\n2 begin level 1\n2 create c7 TopTransactionContext in c1\n2 owner o2\n2 acquire lock 5 AccessExclusiveLock o2\n2 commit level 1\n2 release lock 5 AccessExclusiveLock x1 o2\n2 owner o2 gone\n2 delete c7\n2 ok\n1 delete c5\n1 delete c4\n1 delete c3\n1 delete c2\n1 delete c1\n1 exit\n2 delete c5\n2 delete c4\n2 delete c3\n2 delete c2\n2 delete c1\n2 exit\n"
  pub no_conflict_with_oneself : told options (codes "begin" ∷ codes "lock 5 AccessExclusiveLock" ∷ codes "lock 5 AccessExclusiveLock" ∷ [])
      ≡ codes "1 begin level 1\n1 create c6 TopTransactionContext in c1\n1 owner o1\n1 ok\n1 acquire lock 5 AccessExclusiveLock o1\n1 ok\n1 acquire lock 5 AccessExclusiveLock o1\n1 ok\n1 abort level 1\n1 release lock 5 AccessExclusiveLock x2 o1\n1 cleanup level 1\n1 owner o1 gone\n1 delete c6\n" ++ gone
  pub more_than_an_array_of_pins : told options (codes "begin" ∷ codes "pin 0" ∷ codes "pin 1" ∷ codes "pin 2" ∷ codes "pin 3" ∷ codes "pin 4" ∷ codes "pin 5" ∷ codes "pin 6" ∷ codes "pin 7" ∷ codes "pin 8" ∷ codes "pin 9" ∷ codes "pin 10" ∷ codes "pin 11" ∷ codes "pin 12" ∷ codes "pin 13" ∷ codes "pin 14" ∷ codes "pin 15" ∷ codes "pin 16" ∷ codes "pin 17" ∷ codes "pin 18" ∷ codes "pin 19" ∷ codes "pin 20" ∷ codes "pin 21" ∷ codes "pin 22" ∷ codes "pin 23" ∷ codes "pin 24" ∷ codes "pin 25" ∷ codes "pin 26" ∷ codes "pin 27" ∷ codes "pin 28" ∷ codes "pin 29" ∷ codes "pin 30" ∷ codes "pin 31" ∷ codes "pin 32" ∷ codes "unpin 1" ∷ codes "unpin 3" ∷ codes "unpin 5" ∷ codes "unpin 7" ∷ codes "unpin 9" ∷ codes "unpin 11" ∷ codes "unpin 13" ∷ codes "unpin 15" ∷ codes "unpin 17" ∷ codes "unpin 19" ∷ codes "unpin 21" ∷ codes "unpin 23" ∷ codes "unpin 25" ∷ codes "unpin 27" ∷ codes "unpin 29" ∷ codes "unpin 31" ∷ codes "rollback" ∷ [])
      ≡ codes "1 begin level 1\n1 create c6 TopTransactionContext in c1\n1 owner o1\n1 ok\n1 acquire buffer pin 0 #1 o1\n1 ok\n1 acquire buffer pin 1 #2 o1\n1 ok\n1 acquire buffer pin 2 #3 o1\n1 ok\n1 acquire buffer pin 3 #4 o1\n1 ok\n1 acquire buffer pin 4 #5 o1\n1 ok\n1 acquire buffer pin 5 #6 o1\n1 ok\n1 acquire buffer pin 6 #7 o1\n1 ok\n1 acquire buffer pin 7 #8 o1\n1 ok\n1 acquire buffer pin 8 #9 o1\n1 ok\n1 acquire buffer pin 9 #10 o1\n1 ok\n1 acquire buffer pin 10 #11 o1\n1 ok\n1 acquire buffer pin 11 #12 o1\n1 ok\n1 acquire buffer pin 12 #13 o1\n1 ok\n1 acquire buffer pin 13 #14 o1\n1 ok\n1 acquire buffer pin 14 #15 o1\n1 ok\n1 acquire buffer pin 15 #16 o1\n1 ok\n1 acquire buffer pin 16 #17 o1\n1 ok\n1 acquire buffer pin 17 #18 o1\n1 ok\n1 acquire buffer pin 18 #19 o1\n1 ok\n1 acquire buffer pin 19 #20 o1\n1 ok\n1 acquire buffer pin 20 #21 o1\n1 ok\n1 acquire buffer pin 21 #22 o1\n1 ok\n1 acquire buffer pin 22 #23 o1\n1 ok\n1 acquire buffer pin 23 #24 o1\n1 ok\n1 acquire buffer pin 24 #25 o1\n1 ok\n1 acquire buffer pin 25 #26 o1\n1 ok\n1 acquire buffer pin 26 #27 o1\n1 ok\n1 acquire buffer pin 27 #28 o1\n1 ok\n1 acquire buffer pin 28 #29 o1\n1 ok\n1 acquire buffer pin 29 #30 o1\n1 ok\n1 acquire buffer pin 30 #31 o1\n1 ok\n1 acquire buffer pin 31 #32 o1\n1 ok\n1 acquire buffer pin 32 #33 o1\n1 ok\n1 release buffer pin 1 #2 o1\n1 ok\n1 release buffer pin 3 #4 o1\n1 ok\n1 release buffer pin 5 #6 o1\n1 ok\n1 release buffer pin 7 #8 o1\n1 ok\n1 release buffer pin 9 #10 o1\n1 ok\n1 release buffer pin 11 #12 o1\n1 ok\n1 release buffer pin 13 #14 o1\n1 ok\n1 release buffer pin 15 #16 o1\n1 ok\n1 release buffer pin 17 #18 o1\n1 ok\n1 release buffer pin 19 #20 o1\n1 ok\n1 release buffer pin 21 #22 o1\n1 ok\n1 release buffer pin 23 #24 o1\n1 ok\n1 release buffer pin 25 #26 o1\n1 ok\n1 release buffer pin 27 #28 o1\n1 ok\n1 release buffer pin 29 #30 o1\n1 ok\n1 release buffer pin 31 #32 o1\n1 ok\n1 abort level 1\n1 release buffer pin 32 #33 o1\n1 release buffer pin 30 #31 o1\n1 release buffer pin 28 #29 o1\n1 release buffer pin 26 #27 o1\n1 release buffer pin 24 #25 o1\n1 release buffer pin 22 #23 o1\n1 release buffer pin 20 #21 o1\n1 release buffer pin 18 #19 o1\n1 release buffer pin 16 #17 o1\n1 release buffer pin 14 #15 o1\n1 release buffer pin 12 #13 o1\n1 release buffer pin 10 #11 o1\n1 release buffer pin 8 #9 o1\n1 release buffer pin 6 #7 o1\n1 release buffer pin 4 #5 o1\n1 release buffer pin 2 #3 o1\n1 release buffer pin 0 #1 o1\n1 cleanup level 1\n1 owner o1 gone\n1 delete c6\n1 ok\n" ++ gone
  pub nine_buffers : told options (codes "begin" ∷ codes "pin 1" ∷ codes "pin 2" ∷ codes "pin 3" ∷ codes "pin 4" ∷ codes "pin 5" ∷ codes "pin 6" ∷ codes "pin 7" ∷ codes "pin 8" ∷ codes "pin 9" ∷ codes "unpin 1" ∷ codes "buffer 9" ∷ [])
      ≡ codes "1 begin level 1\n1 create c6 TopTransactionContext in c1\n1 owner o1\n1 ok\n1 acquire buffer pin 1 #1 o1\n1 ok\n1 acquire buffer pin 2 #2 o1\n1 ok\n1 acquire buffer pin 3 #3 o1\n1 ok\n1 acquire buffer pin 4 #4 o1\n1 ok\n1 acquire buffer pin 5 #5 o1\n1 ok\n1 acquire buffer pin 6 #6 o1\n1 ok\n1 acquire buffer pin 7 #7 o1\n1 ok\n1 acquire buffer pin 8 #8 o1\n1 ok\n1 acquire buffer pin 9 #9 o1\n1 ok\n1 release buffer pin 1 #1 o1\n1 ok\n1 buffer 9 pinned by 1\n1 ok\n1 abort level 1\n1 release buffer pin 9 #9 o1\n1 release buffer pin 8 #8 o1\n1 release buffer pin 7 #7 o1\n1 release buffer pin 6 #6 o1\n1 release buffer pin 5 #5 o1\n1 release buffer pin 4 #4 o1\n1 release buffer pin 3 #3 o1\n1 release buffer pin 2 #2 o1\n1 cleanup level 1\n1 owner o1 gone\n1 delete c6\n" ++ gone
  -- what an owner gives back it must hold itself
  pub not_held : told options (codes "begin" ∷ codes "unpin 2000" ∷ codes "rollback" ∷ codes "begin" ∷ codes "pin 1" ∷ codes "savepoint s" ∷ codes "unpin 1" ∷ codes "rollback" ∷ [])
      ≡ codes "1 begin level 1\n1 create c6 TopTransactionContext in c1\n1 owner o1\n1 ok\n1 ERROR 55000 not held by this owner\n1 abort level 1\n1 cleanup level 1\n1 owner o1 gone\n1 delete c6\n1 ok\n1 begin level 1\n1 create c7 TopTransactionContext in c1\n1 owner o2\n1 ok\n1 acquire buffer pin 1 #1 o2\n1 ok\n1 begin level 2\n1 create c8 CurTransactionContext in c7\n1 owner o3 in o2\n1 ok\n1 ERROR 55000 not held by this owner\n1 abort level 2\n1 cleanup level 2\n1 owner o3 gone\n1 delete c8\n1 abort level 1\n1 release buffer pin 1 #1 o2\n1 cleanup level 1\n1 owner o2 gone\n1 delete c7\n1 ok\n" ++ gone
  pub a_plan_goes_with_its_last_reference : told options (codes "begin" ∷ codes "plan 2" ∷ codes "planref 2" ∷ codes "plandrop 2" ∷ codes "rollback" ∷ [])
      ≡ codes "1 begin level 1\n1 create c6 TopTransactionContext in c1\n1 owner o1\n1 ok\n1 create c7 CachedPlan in c3\n1 ok\n1 acquire plan reference 2 #1 o1\n1 ok\n1 ok\n1 abort level 1\n1 release plan reference 2 #1 o1\n1 delete c7\n1 cleanup level 1\n1 owner o1 gone\n1 delete c6\n1 ok\n" ++ gone
  -- a plan that is discarded stands while a reference to it is held
  pub plans : told options (codes "begin" ∷ codes "plan 1" ∷ codes "plan 2" ∷ codes "planref 2" ∷ codes "plandrop 2" ∷ codes "plandrop 1" ∷ codes "planref 2" ∷ codes "rollback" ∷ codes "planunref 2" ∷ codes "plan 2" ∷ codes "plan 2" ∷ [])
      ≡ codes "1 begin level 1\n1 create c6 TopTransactionContext in c1\n1 owner o1\n1 ok\n1 create c7 CachedPlan in c3\n1 ok\n1 create c8 CachedPlan in c3\n1 ok\n1 acquire plan reference 2 #1 o1\n1 ok\n1 ok\n1 delete c7\n1 ok\n1 ERROR 42704 no such name\n1 abort level 1\n1 release plan reference 2 #1 o1\n1 delete c8\n1 cleanup level 1\n1 owner o1 gone\n1 delete c6\n1 ok\n1 begin level 1\n1 create c9 TopTransactionContext in c1\n1 owner o2\n1 ERROR 55000 not held by this owner\n1 abort level 1\n1 cleanup level 1\n1 owner o2 gone\n1 delete c9\n1 begin level 1\n1 create c10 TopTransactionContext in c1\n1 owner o3\n1 create c11 CachedPlan in c3\n1 commit level 1\n1 owner o3 gone\n1 delete c10\n1 ok\n1 begin level 1\n1 create c12 TopTransactionContext in c1\n1 owner o4\n1 ERROR 42710 name is taken\n1 abort level 1\n1 cleanup level 1\n1 owner o4 gone\n1 delete c12\n1 delete c5\n1 delete c4\n1 delete c11\n1 delete c3\n1 delete c2\n1 delete c1\n1 exit\n"
  pub descriptors : told (record options { descriptors = 8 }) (codes "begin" ∷ codes "open 1" ∷ codes "open 2" ∷ codes "open 3" ∷ codes "open 4" ∷ codes "open 5" ∷ codes "open 6" ∷ codes "open 7" ∷ codes "open 8" ∷ codes "open 9" ∷ codes "touch 1" ∷ [])
      ≡ codes "1 begin level 1\n1 create c6 TopTransactionContext in c1\n1 owner o1\n1 ok\n1 descriptor opened 1\n1 acquire file 1 #1 o1\n1 ok\n1 descriptor opened 2\n1 acquire file 2 #2 o1\n1 ok\n1 descriptor opened 3\n1 acquire file 3 #3 o1\n1 ok\n1 descriptor opened 4\n1 acquire file 4 #4 o1\n1 ok\n1 descriptor opened 5\n1 acquire file 5 #5 o1\n1 ok\n1 descriptor opened 6\n1 acquire file 6 #6 o1\n1 ok\n1 descriptor opened 7\n1 acquire file 7 #7 o1\n1 ok\n1 descriptor opened 8\n1 acquire file 8 #8 o1\n1 ok\n1 descriptor closed 1\n1 descriptor opened 9\n1 acquire file 9 #9 o1\n1 ok\n1 descriptor closed 2\n1 descriptor opened 1\n1 ok\n1 abort level 1\n1 release file 9 #9 o1\n1 descriptor closed 9\n1 release file 8 #8 o1\n1 descriptor closed 8\n1 release file 7 #7 o1\n1 descriptor closed 7\n1 release file 6 #6 o1\n1 descriptor closed 6\n1 release file 5 #5 o1\n1 descriptor closed 5\n1 release file 4 #4 o1\n1 descriptor closed 4\n1 release file 3 #3 o1\n1 descriptor closed 3\n1 release file 2 #2 o1\n1 release file 1 #1 o1\n1 descriptor closed 1\n1 cleanup level 1\n1 owner o1 gone\n1 delete c6\n" ++ gone
  pub a_kind_is_full : told options (codes "begin" ∷ codes "acquire conn 1" ∷ codes "acquire conn 1" ∷ codes "acquire conn 1" ∷ codes "acquire conn 1" ∷ codes "acquire conn 1" ∷ [])
      ≡ codes "1 begin level 1\n1 create c6 TopTransactionContext in c1\n1 owner o1\n1 ok\n1 acquire conn 1 #1 o1\n1 ok\n1 acquire conn 1 #2 o1\n1 ok\n1 acquire conn 1 #3 o1\n1 ok\n1 acquire conn 1 #4 o1\n1 ok\n1 ERROR 53400 limit of the kind is reached\n1 abort level 1\n1 release conn 1 #4 o1\n1 release conn 1 #3 o1\n1 release conn 1 #2 o1\n1 release conn 1 #1 o1\n1 cleanup level 1\n1 owner o1 gone\n1 delete c6\n" ++ gone
  -- the kinds of a phase go by their priorities, and the newest of one kind first
  pub kinds_in_order : told options (codes "begin" ∷ codes "ref relcache 1" ∷ codes "pin 2" ∷ codes "pin 1" ∷ codes "acquire conn 3" ∷ codes "open 4" ∷ codes "acquire handle 5" ∷ codes "ref catlist 6" ∷ codes "ref catcache 6" ∷ codes "ref tupdesc 6" ∷ codes "snapshot 7" ∷ codes "acquire file 3" ∷ codes "commit" ∷ [])
      ≡ codes "1 begin level 1\n1 create c6 TopTransactionContext in c1\n1 owner o1\n1 ok\n1 acquire relcache reference 1 #1 o1\n1 ok\n1 acquire buffer pin 2 #2 o1\n1 ok\n1 acquire buffer pin 1 #3 o1\n1 ok\n1 acquire conn 3 #4 o1\n1 ok\n1 descriptor opened 4\n1 acquire file 4 #5 o1\n1 ok\n1 acquire handle 5 #6 o1\n1 ok\n1 acquire catcache list reference 6 #7 o1\n1 ok\n1 acquire catcache reference 6 #8 o1\n1 ok\n1 acquire tuple descriptor reference 6 #9 o1\n1 ok\n1 acquire snapshot reference 7 #10 o1\n1 ok\n1 ERROR 42704 no such name\n1 abort level 1\n1 release buffer pin 1 #3 o1\n1 release buffer pin 2 #2 o1\n1 release relcache reference 1 #1 o1\n1 release conn 3 #4 o1\n1 release catcache reference 6 #8 o1\n1 release catcache list reference 6 #7 o1\n1 release handle 5 #6 o1\n1 release tuple descriptor reference 6 #9 o1\n1 release snapshot reference 7 #10 o1\n1 release file 4 #5 o1\n1 descriptor closed 4\n1 cleanup level 1\n1 owner o1 gone\n1 delete c6\n1 ok\n" ++ gone
  pub pinned_by_two : told (record options { sessions = 2 }) (codes "begin" ∷ codes "pin 7" ∷ codes "pin 7" ∷ codes "@2 begin" ∷ codes "@2 pin 7" ∷ codes "buffer 7" ∷ [])
      ≡ codes "1 begin level 1\n1 create c6 TopTransactionContext in c1\n1 owner o1\n1 ok\n1 acquire buffer pin 7 #1 o1\n1 ok\n1 acquire buffer pin 7 #2 o1\n1 ok\n2 begin level 1\n2 create c6 TopTransactionContext in c1\n2 owner o1\n2 ok\n2 acquire buffer pin 7 #1 o1\n2 ok\n1 buffer 7 pinned by 2\n1 ok\n1 abort level 1\n1 release buffer pin 7 #2 o1\n1 release buffer pin 7 #1 o1\n1 cleanup level 1\n1 owner o1 gone\n1 delete c6\n1 delete c5\n1 delete c4\n1 delete c3\n1 delete c2\n1 delete c1\n1 exit\n2 abort level 1\n2 release buffer pin 7 #1 o1\n2 cleanup level 1\n2 owner o1 gone\n2 delete c6\n2 delete c5\n2 delete c4\n2 delete c3\n2 delete c2\n2 delete c1\n2 exit\n"
  pub active_snapshots : told options (codes "begin" ∷ codes "push 4" ∷ codes "savepoint s" ∷ codes "push 5" ∷ codes "release s" ∷ codes "pop" ∷ codes "ref tupdesc 6" ∷ codes "stat" ∷ [])
      ≡ codes "1 begin level 1\n1 create c6 TopTransactionContext in c1\n1 owner o1\n1 ok\n1 push 4\n1 ok\n1 begin level 2\n1 create c7 CurTransactionContext in c6\n1 owner o2 in o1\n1 ok\n1 push 5\n1 ok\n1 commit level 2\n1 owner o2 gone\n1 delete c7\n1 ok\n1 pop 5\n1 ok\n1 acquire tuple descriptor reference 6 #1 o1\n1 ok\n1 stat pins 0 files 0 descriptors 0 locks 0 snapshots 1 plans 0 refs 1 owners 1 contexts 6\n1 ok\n1 abort level 1\n1 release tuple descriptor reference 6 #1 o1\n1 pop 4\n1 cleanup level 1\n1 owner o1 gone\n1 delete c6\n" ++ gone
  -- sessions of a run: one that there is not, and a lock that waits for no one
  pub two_sessions : told (record options { sessions = 2 }) (codes "@2 begin" ∷ codes "@3 begin" ∷ codes "@3 bogus" ∷ codes "@2 lock 1 ShareLock" ∷ codes "@1 lock 1 RowExclusiveLock" ∷ codes "begin" ∷ codes "lock 1 ShareLock" ∷ codes "@2 commit" ∷ codes "lock 1 AccessExclusiveLock" ∷ [])
      ≡ codes "2 begin level 1\n2 create c6 TopTransactionContext in c1\n2 owner o1\n2 ok\n3 ERROR 08003 no such session\n3 ERROR 42601 syntax error\n2 acquire lock 1 ShareLock o1\n2 ok\n1 begin level 1\n1 create c6 TopTransactionContext in c1\n1 owner o1\n1 ERROR 55P03 lock is held by session 2 as ShareLock\n1 abort level 1\n1 cleanup level 1\n1 owner o1 gone\n1 delete c6\n1 begin level 1\n1 create c7 TopTransactionContext in c1\n1 owner o2\n1 ok\n1 acquire lock 1 ShareLock o2\n1 ok\n2 commit level 1\n2 release lock 1 ShareLock x1 o1\n2 owner o1 gone\n2 delete c6\n2 ok\n1 acquire lock 1 AccessExclusiveLock o2\n1 ok\n1 abort level 1\n1 release lock 1 ShareLock x1 o2\n1 release lock 1 AccessExclusiveLock x1 o2\n1 cleanup level 1\n1 owner o2 gone\n1 delete c7\n1 delete c5\n1 delete c4\n1 delete c3\n1 delete c2\n1 delete c1\n1 exit\n2 delete c5\n2 delete c4\n2 delete c3\n2 delete c2\n2 delete c1\n2 exit\n"

pub resource_rows : ResourceRows
unfolding all_rules
resource_rows = record { phases = refl; a_lock_passes = refl; a_lock_goes_with_its_savepoint = refl; a_conflict = refl; no_conflict_with_oneself = refl; more_than_an_array_of_pins = refl; nine_buffers = refl; not_held = refl; a_plan_goes_with_its_last_reference = refl; plans = refl; descriptors = refl; a_kind_is_full = refl; kinds_in_order = refl; pinned_by_two = refl; active_snapshots = refl; two_sessions = refl }
