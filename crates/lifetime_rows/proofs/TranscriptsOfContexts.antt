-- Contexts and chunks, computed from the definitions.
use Rattle.std.proofs.Common.{◌≡◌, [], ◌∷◌, refl, ◌++◌}
use Rattle.std.specs.Prelude.{codes}
use Rattle.session_rules.proofs.Setting.{options}
use Rattle.lifetime_rows.proofs.Setting.{told, gone, all_rules}

pub record ContextRows : Type 0 where
  pub a_chunk_of_a_class : told options (codes "begin" ∷ codes "context w TopMemoryContext default" ∷ codes "switch w" ∷ codes "alloc a 100" ∷ codes "report" ∷ codes "free a" ∷ codes "report" ∷ codes "rollback" ∷ [])
      ≡ codes "1 begin level 1\n1 create c6 TopTransactionContext in c1\n1 owner o1\n1 ok\n1 create c7 w in c1\n1 ok\n1 ok\n1 ok\n1 c1 TopMemoryContext: 8192 total in 1 blocks; 7952 free (0 chunks); 240 used\n1   c7 w: 8192 total in 1 blocks; 7816 free (0 chunks); 376 used\n1   c6 TopTransactionContext: 8192 total in 1 blocks; 7952 free (0 chunks); 240 used\n1   c5 TransactionAbortContext: 32768 total in 1 blocks; 32528 free (0 chunks); 240 used\n1   c4 TopPortalContext: 8192 total in 1 blocks; 7952 free (0 chunks); 240 used\n1   c3 CacheMemoryContext: 8192 total in 1 blocks; 7952 free (0 chunks); 240 used\n1   c2 ErrorContext: 8192 total in 1 blocks; 7952 free (0 chunks); 240 used\n1 Grand total: 81920 bytes in 7 blocks; 80104 free (0 chunks); 1816 used\n1 ok\n1 ok\n1 c1 TopMemoryContext: 8192 total in 1 blocks; 7952 free (0 chunks); 240 used\n1   c7 w: 8192 total in 1 blocks; 7952 free (1 chunks); 240 used\n1   c6 TopTransactionContext: 8192 total in 1 blocks; 7952 free (0 chunks); 240 used\n1   c5 TransactionAbortContext: 32768 total in 1 blocks; 32528 free (0 chunks); 240 used\n1   c4 TopPortalContext: 8192 total in 1 blocks; 7952 free (0 chunks); 240 used\n1   c3 CacheMemoryContext: 8192 total in 1 blocks; 7952 free (0 chunks); 240 used\n1   c2 ErrorContext: 8192 total in 1 blocks; 7952 free (0 chunks); 240 used\n1 Grand total: 81920 bytes in 7 blocks; 80240 free (1 chunks); 1680 used\n1 ok\n1 abort level 1\n1 cleanup level 1\n1 owner o1 gone\n1 delete c6\n1 ok\n1 delete c7\n" ++ gone
  pub a_new_block : told options (codes "begin" ∷ codes "context w TopMemoryContext default" ∷ codes "switch w" ∷ codes "alloc a 8000" ∷ codes "report" ∷ codes "free a" ∷ codes "report" ∷ codes "rollback" ∷ [])
      ≡ codes "1 begin level 1\n1 create c6 TopTransactionContext in c1\n1 owner o1\n1 ok\n1 create c7 w in c1\n1 ok\n1 ok\n1 ok\n1 c1 TopMemoryContext: 8192 total in 1 blocks; 7952 free (0 chunks); 240 used\n1   c7 w: 24576 total in 2 blocks; 16096 free (7 chunks); 8480 used\n1   c6 TopTransactionContext: 8192 total in 1 blocks; 7952 free (0 chunks); 240 used\n1   c5 TransactionAbortContext: 32768 total in 1 blocks; 32528 free (0 chunks); 240 used\n1   c4 TopPortalContext: 8192 total in 1 blocks; 7952 free (0 chunks); 240 used\n1   c3 CacheMemoryContext: 8192 total in 1 blocks; 7952 free (0 chunks); 240 used\n1   c2 ErrorContext: 8192 total in 1 blocks; 7952 free (0 chunks); 240 used\n1 Grand total: 98304 bytes in 8 blocks; 88384 free (7 chunks); 9920 used\n1 ok\n1 ok\n1 c1 TopMemoryContext: 8192 total in 1 blocks; 7952 free (0 chunks); 240 used\n1   c7 w: 24576 total in 2 blocks; 24296 free (8 chunks); 280 used\n1   c6 TopTransactionContext: 8192 total in 1 blocks; 7952 free (0 chunks); 240 used\n1   c5 TransactionAbortContext: 32768 total in 1 blocks; 32528 free (0 chunks); 240 used\n1   c4 TopPortalContext: 8192 total in 1 blocks; 7952 free (0 chunks); 240 used\n1   c3 CacheMemoryContext: 8192 total in 1 blocks; 7952 free (0 chunks); 240 used\n1   c2 ErrorContext: 8192 total in 1 blocks; 7952 free (0 chunks); 240 used\n1 Grand total: 98304 bytes in 8 blocks; 96584 free (8 chunks); 1720 used\n1 ok\n1 abort level 1\n1 cleanup level 1\n1 owner o1 gone\n1 delete c6\n1 ok\n1 delete c7\n" ++ gone
  pub an_own_block : told options (codes "begin" ∷ codes "context w TopMemoryContext default" ∷ codes "switch w" ∷ codes "alloc a 8193" ∷ codes "report" ∷ codes "free a" ∷ codes "report" ∷ codes "rollback" ∷ [])
      ≡ codes "1 begin level 1\n1 create c6 TopTransactionContext in c1\n1 owner o1\n1 ok\n1 create c7 w in c1\n1 ok\n1 ok\n1 ok\n1 c1 TopMemoryContext: 8192 total in 1 blocks; 7952 free (0 chunks); 240 used\n1   c7 w: 16440 total in 2 blocks; 7952 free (0 chunks); 8488 used\n1   c6 TopTransactionContext: 8192 total in 1 blocks; 7952 free (0 chunks); 240 used\n1   c5 TransactionAbortContext: 32768 total in 1 blocks; 32528 free (0 chunks); 240 used\n1   c4 TopPortalContext: 8192 total in 1 blocks; 7952 free (0 chunks); 240 used\n1   c3 CacheMemoryContext: 8192 total in 1 blocks; 7952 free (0 chunks); 240 used\n1   c2 ErrorContext: 8192 total in 1 blocks; 7952 free (0 chunks); 240 used\n1 Grand total: 90168 bytes in 8 blocks; 80240 free (0 chunks); 9928 used\n1 ok\n1 ok\n1 c1 TopMemoryContext: 8192 total in 1 blocks; 7952 free (0 chunks); 240 used\n1   c7 w: 8192 total in 1 blocks; 7952 free (0 chunks); 240 used\n1   c6 TopTransactionContext: 8192 total in 1 blocks; 7952 free (0 chunks); 240 used\n1   c5 TransactionAbortContext: 32768 total in 1 blocks; 32528 free (0 chunks); 240 used\n1   c4 TopPortalContext: 8192 total in 1 blocks; 7952 free (0 chunks); 240 used\n1   c3 CacheMemoryContext: 8192 total in 1 blocks; 7952 free (0 chunks); 240 used\n1   c2 ErrorContext: 8192 total in 1 blocks; 7952 free (0 chunks); 240 used\n1 Grand total: 81920 bytes in 7 blocks; 80240 free (0 chunks); 1680 used\n1 ok\n1 abort level 1\n1 cleanup level 1\n1 owner o1 gone\n1 delete c6\n1 ok\n1 delete c7\n" ++ gone
  pub a_small_context : told options (codes "begin" ∷ codes "context w TopMemoryContext small" ∷ codes "switch w" ∷ codes "alloc a 1024" ∷ codes "report" ∷ codes "free a" ∷ codes "report" ∷ codes "rollback" ∷ [])
      ≡ codes "1 begin level 1\n1 create c6 TopTransactionContext in c1\n1 owner o1\n1 ok\n1 create c7 w in c1\n1 ok\n1 ok\n1 ok\n1 c1 TopMemoryContext: 8192 total in 1 blocks; 7952 free (0 chunks); 240 used\n1   c7 w: 3072 total in 2 blocks; 1760 free (2 chunks); 1312 used\n1   c6 TopTransactionContext: 8192 total in 1 blocks; 7952 free (0 chunks); 240 used\n1   c5 TransactionAbortContext: 32768 total in 1 blocks; 32528 free (0 chunks); 240 used\n1   c4 TopPortalContext: 8192 total in 1 blocks; 7952 free (0 chunks); 240 used\n1   c3 CacheMemoryContext: 8192 total in 1 blocks; 7952 free (0 chunks); 240 used\n1   c2 ErrorContext: 8192 total in 1 blocks; 7952 free (0 chunks); 240 used\n1 Grand total: 76800 bytes in 8 blocks; 74048 free (2 chunks); 2752 used\n1 ok\n1 ok\n1 c1 TopMemoryContext: 8192 total in 1 blocks; 7952 free (0 chunks); 240 used\n1   c7 w: 3072 total in 2 blocks; 2792 free (3 chunks); 280 used\n1   c6 TopTransactionContext: 8192 total in 1 blocks; 7952 free (0 chunks); 240 used\n1   c5 TransactionAbortContext: 32768 total in 1 blocks; 32528 free (0 chunks); 240 used\n1   c4 TopPortalContext: 8192 total in 1 blocks; 7952 free (0 chunks); 240 used\n1   c3 CacheMemoryContext: 8192 total in 1 blocks; 7952 free (0 chunks); 240 used\n1   c2 ErrorContext: 8192 total in 1 blocks; 7952 free (0 chunks); 240 used\n1 Grand total: 76800 bytes in 8 blocks; 75080 free (3 chunks); 1720 used\n1 ok\n1 abort level 1\n1 cleanup level 1\n1 owner o1 gone\n1 delete c6\n1 ok\n1 delete c7\n" ++ gone
  pub a_small_own_block : told options (codes "begin" ∷ codes "context w TopMemoryContext small" ∷ codes "switch w" ∷ codes "alloc a 1025" ∷ codes "report" ∷ codes "free a" ∷ codes "report" ∷ codes "rollback" ∷ [])
      ≡ codes "1 begin level 1\n1 create c6 TopTransactionContext in c1\n1 owner o1\n1 ok\n1 create c7 w in c1\n1 ok\n1 ok\n1 ok\n1 c1 TopMemoryContext: 8192 total in 1 blocks; 7952 free (0 chunks); 240 used\n1   c7 w: 2104 total in 2 blocks; 784 free (0 chunks); 1320 used\n1   c6 TopTransactionContext: 8192 total in 1 blocks; 7952 free (0 chunks); 240 used\n1   c5 TransactionAbortContext: 32768 total in 1 blocks; 32528 free (0 chunks); 240 used\n1   c4 TopPortalContext: 8192 total in 1 blocks; 7952 free (0 chunks); 240 used\n1   c3 CacheMemoryContext: 8192 total in 1 blocks; 7952 free (0 chunks); 240 used\n1   c2 ErrorContext: 8192 total in 1 blocks; 7952 free (0 chunks); 240 used\n1 Grand total: 75832 bytes in 8 blocks; 73072 free (0 chunks); 2760 used\n1 ok\n1 ok\n1 c1 TopMemoryContext: 8192 total in 1 blocks; 7952 free (0 chunks); 240 used\n1   c7 w: 1024 total in 1 blocks; 784 free (0 chunks); 240 used\n1   c6 TopTransactionContext: 8192 total in 1 blocks; 7952 free (0 chunks); 240 used\n1   c5 TransactionAbortContext: 32768 total in 1 blocks; 32528 free (0 chunks); 240 used\n1   c4 TopPortalContext: 8192 total in 1 blocks; 7952 free (0 chunks); 240 used\n1   c3 CacheMemoryContext: 8192 total in 1 blocks; 7952 free (0 chunks); 240 used\n1   c2 ErrorContext: 8192 total in 1 blocks; 7952 free (0 chunks); 240 used\n1 Grand total: 74752 bytes in 7 blocks; 73072 free (0 chunks); 1680 used\n1 ok\n1 abort level 1\n1 cleanup level 1\n1 owner o1 gone\n1 delete c6\n1 ok\n1 delete c7\n" ++ gone
  pub a_chunk_of_nothing : told options (codes "begin" ∷ codes "alloc z 0" ∷ codes "report" ∷ [])
      ≡ codes "1 begin level 1\n1 create c6 TopTransactionContext in c1\n1 owner o1\n1 ok\n1 ok\n1 c1 TopMemoryContext: 8192 total in 1 blocks; 7952 free (0 chunks); 240 used\n1   c6 TopTransactionContext: 8192 total in 1 blocks; 7936 free (0 chunks); 256 used\n1   c5 TransactionAbortContext: 32768 total in 1 blocks; 32528 free (0 chunks); 240 used\n1   c4 TopPortalContext: 8192 total in 1 blocks; 7952 free (0 chunks); 240 used\n1   c3 CacheMemoryContext: 8192 total in 1 blocks; 7952 free (0 chunks); 240 used\n1   c2 ErrorContext: 8192 total in 1 blocks; 7952 free (0 chunks); 240 used\n1 Grand total: 73728 bytes in 6 blocks; 72272 free (0 chunks); 1456 used\n1 ok\n1 abort level 1\n1 cleanup level 1\n1 owner o1 gone\n1 delete c6\n" ++ gone
  pub out_of_space : told options (codes "begin" ∷ codes "alloc a 1073741823" ∷ [])
      ≡ codes "1 begin level 1\n1 create c6 TopTransactionContext in c1\n1 owner o1\n1 ok\n1 ERROR 53200 out of space\n1 abort level 1\n1 cleanup level 1\n1 owner o1 gone\n1 delete c6\n" ++ gone
  pub too_big : told options (codes "begin" ∷ codes "alloc a 1073741824" ∷ [])
      ≡ codes "1 begin level 1\n1 create c6 TopTransactionContext in c1\n1 owner o1\n1 ok\n1 ERROR 54000 request is too big\n1 abort level 1\n1 cleanup level 1\n1 owner o1 gone\n1 delete c6\n" ++ gone
  pub a_slab : told options (codes "begin" ∷ codes "context s CurTransactionContext slab 64" ∷ codes "switch s" ∷ codes "alloc a 64" ∷ codes "report" ∷ codes "alloc b 65" ∷ codes "rollback" ∷ [])
      ≡ codes "1 begin level 1\n1 create c6 TopTransactionContext in c1\n1 owner o1\n1 ok\n1 create c7 s in c6\n1 ok\n1 ok\n1 ok\n1 c1 TopMemoryContext: 8192 total in 1 blocks; 7952 free (0 chunks); 240 used\n1   c6 TopTransactionContext: 8192 total in 1 blocks; 7952 free (0 chunks); 240 used\n1     c7 s: 8392 total in 1 blocks; 8064 free (112 chunks); 328 used\n1   c5 TransactionAbortContext: 32768 total in 1 blocks; 32528 free (0 chunks); 240 used\n1   c4 TopPortalContext: 8192 total in 1 blocks; 7952 free (0 chunks); 240 used\n1   c3 CacheMemoryContext: 8192 total in 1 blocks; 7952 free (0 chunks); 240 used\n1   c2 ErrorContext: 8192 total in 1 blocks; 7952 free (0 chunks); 240 used\n1 Grand total: 82120 bytes in 7 blocks; 80352 free (112 chunks); 1768 used\n1 ok\n1 ERROR 22023 wrong chunk size\n1 abort level 1\n1 cleanup level 1\n1 owner o1 gone\n1 delete c7\n1 delete c6\n1 ok\n" ++ gone
  pub a_bump : told options (codes "begin" ∷ codes "context s CurTransactionContext bump" ∷ codes "switch s" ∷ codes "alloc a 100" ∷ codes "report" ∷ codes "free a" ∷ [])
      ≡ codes "1 begin level 1\n1 create c6 TopTransactionContext in c1\n1 owner o1\n1 ok\n1 create c7 s in c6\n1 ok\n1 ok\n1 ok\n1 c1 TopMemoryContext: 8192 total in 1 blocks; 7952 free (0 chunks); 240 used\n1   c6 TopTransactionContext: 8192 total in 1 blocks; 7952 free (0 chunks); 240 used\n1     c7 s: 8192 total in 1 blocks; 7848 free (0 chunks); 344 used\n1   c5 TransactionAbortContext: 32768 total in 1 blocks; 32528 free (0 chunks); 240 used\n1   c4 TopPortalContext: 8192 total in 1 blocks; 7952 free (0 chunks); 240 used\n1   c3 CacheMemoryContext: 8192 total in 1 blocks; 7952 free (0 chunks); 240 used\n1   c2 ErrorContext: 8192 total in 1 blocks; 7952 free (0 chunks); 240 used\n1 Grand total: 81920 bytes in 7 blocks; 80136 free (0 chunks); 1784 used\n1 ok\n1 ERROR 0A000 not supported by this kind\n1 abort level 1\n1 cleanup level 1\n1 owner o1 gone\n1 delete c7\n1 delete c6\n" ++ gone
  pub a_generation : told options (codes "begin" ∷ codes "context s CurTransactionContext generation" ∷ codes "switch s" ∷ codes "alloc a 100" ∷ codes "alloc b 100" ∷ codes "free a" ∷ codes "report" ∷ codes "free b" ∷ codes "report" ∷ [])
      ≡ codes "1 begin level 1\n1 create c6 TopTransactionContext in c1\n1 owner o1\n1 ok\n1 create c7 s in c6\n1 ok\n1 ok\n1 ok\n1 ok\n1 ok\n1 c1 TopMemoryContext: 8192 total in 1 blocks; 7952 free (0 chunks); 240 used\n1   c6 TopTransactionContext: 8192 total in 1 blocks; 7952 free (0 chunks); 240 used\n1     c7 s: 8192 total in 1 blocks; 7728 free (1 chunks); 464 used\n1   c5 TransactionAbortContext: 32768 total in 1 blocks; 32528 free (0 chunks); 240 used\n1   c4 TopPortalContext: 8192 total in 1 blocks; 7952 free (0 chunks); 240 used\n1   c3 CacheMemoryContext: 8192 total in 1 blocks; 7952 free (0 chunks); 240 used\n1   c2 ErrorContext: 8192 total in 1 blocks; 7952 free (0 chunks); 240 used\n1 Grand total: 81920 bytes in 7 blocks; 80016 free (1 chunks); 1904 used\n1 ok\n1 ok\n1 c1 TopMemoryContext: 8192 total in 1 blocks; 7952 free (0 chunks); 240 used\n1   c6 TopTransactionContext: 8192 total in 1 blocks; 7952 free (0 chunks); 240 used\n1     c7 s: 8192 total in 1 blocks; 7952 free (0 chunks); 240 used\n1   c5 TransactionAbortContext: 32768 total in 1 blocks; 32528 free (0 chunks); 240 used\n1   c4 TopPortalContext: 8192 total in 1 blocks; 7952 free (0 chunks); 240 used\n1   c3 CacheMemoryContext: 8192 total in 1 blocks; 7952 free (0 chunks); 240 used\n1   c2 ErrorContext: 8192 total in 1 blocks; 7952 free (0 chunks); 240 used\n1 Grand total: 81920 bytes in 7 blocks; 80240 free (0 chunks); 1680 used\n1 ok\n1 abort level 1\n1 cleanup level 1\n1 owner o1 gone\n1 delete c7\n1 delete c6\n" ++ gone
  pub callbacks : told options (codes "begin" ∷ codes "context p CurTransactionContext default" ∷ codes "context x p default" ∷ codes "context y p default" ∷ codes "onreset p" ∷ codes "onreset x" ∷ codes "onreset p" ∷ codes "onreset y" ∷ codes "onreset p" ∷ codes "delete p" ∷ [])
      ≡ codes "1 begin level 1\n1 create c6 TopTransactionContext in c1\n1 owner o1\n1 ok\n1 create c7 p in c6\n1 ok\n1 create c8 x in c7\n1 ok\n1 create c9 y in c7\n1 ok\n1 hook 1 c7\n1 ok\n1 hook 2 c8\n1 ok\n1 hook 3 c7\n1 ok\n1 hook 4 c9\n1 ok\n1 hook 5 c7\n1 ok\n1 callback 4 c9\n1 delete c9\n1 callback 2 c8\n1 delete c8\n1 callback 5 c7\n1 callback 3 c7\n1 callback 1 c7\n1 delete c7\n1 ok\n1 abort level 1\n1 cleanup level 1\n1 owner o1 gone\n1 delete c6\n" ++ gone
  pub a_reset_of_nothing_is_silent : told options (codes "begin" ∷ codes "context p CurTransactionContext default" ∷ codes "context q p default" ∷ codes "reset p" ∷ codes "reset p" ∷ [])
      ≡ codes "1 begin level 1\n1 create c6 TopTransactionContext in c1\n1 owner o1\n1 ok\n1 create c7 p in c6\n1 ok\n1 create c8 q in c7\n1 ok\n1 delete c8\n1 ok\n1 ok\n1 abort level 1\n1 cleanup level 1\n1 owner o1 gone\n1 delete c7\n1 delete c6\n" ++ gone
  pub a_cycle : told options (codes "begin" ∷ codes "context p CurTransactionContext default" ∷ codes "context x p default" ∷ codes "reparent p x" ∷ [])
      ≡ codes "1 begin level 1\n1 create c6 TopTransactionContext in c1\n1 owner o1\n1 ok\n1 create c7 p in c6\n1 ok\n1 create c8 x in c7\n1 ok\n1 ERROR 42P17 cycle of contexts\n1 abort level 1\n1 cleanup level 1\n1 owner o1 gone\n1 delete c8\n1 delete c7\n1 delete c6\n" ++ gone
  pub another_parent : told options (codes "begin" ∷ codes "context w TopMemoryContext default" ∷ codes "reparent w CurTransactionContext" ∷ codes "rollback" ∷ [])
      ≡ codes "1 begin level 1\n1 create c6 TopTransactionContext in c1\n1 owner o1\n1 ok\n1 create c7 w in c1\n1 ok\n1 move c7 to c6\n1 ok\n1 abort level 1\n1 cleanup level 1\n1 owner o1 gone\n1 delete c7\n1 delete c6\n1 ok\n" ++ gone
  -- a context is in use for what would delete the current one, and not for a reset alone
  pub reset_alone : told options (codes "begin" ∷ codes "context p CurTransactionContext default" ∷ codes "context x p default" ∷ codes "switch x" ∷ codes "resetonly p" ∷ codes "reset x" ∷ codes "deletechildren p" ∷ [])
      ≡ codes "1 begin level 1\n1 create c6 TopTransactionContext in c1\n1 owner o1\n1 ok\n1 create c7 p in c6\n1 ok\n1 create c8 x in c7\n1 ok\n1 ok\n1 ok\n1 ok\n1 ERROR 55006 context is in use\n1 abort level 1\n1 cleanup level 1\n1 owner o1 gone\n1 delete c8\n1 delete c7\n1 delete c6\n" ++ gone
  -- the share of the space is held to the byte
  pub a_whole_share : told (record options { space = 131072 }) (codes "begin" ∷ codes "alloc a 57296" ∷ codes "alloc b 8193" ∷ codes "rollback" ∷ codes "begin" ∷ [])
      ≡ codes "1 begin level 1\n1 create c6 TopTransactionContext in c1\n1 owner o1\n1 ok\n1 ok\n1 ERROR 53200 out of space\n1 abort level 1\n1 cleanup level 1\n1 owner o1 gone\n1 delete c6\n1 ok\n1 begin level 1\n1 create c7 TopTransactionContext in c1\n1 owner o2\n1 ok\n1 abort level 1\n1 cleanup level 1\n1 owner o2 gone\n1 delete c7\n" ++ gone
  pub a_byte_more : told (record options { space = 131072 }) (codes "begin" ∷ codes "alloc a 57297" ∷ [])
      ≡ codes "1 begin level 1\n1 create c6 TopTransactionContext in c1\n1 owner o1\n1 ok\n1 ERROR 53200 out of space\n1 abort level 1\n1 cleanup level 1\n1 owner o1 gone\n1 delete c6\n" ++ gone
  pub bytes : told options (codes "begin" ∷ codes "alloc a 10" ∷ codes "put a 0 0aFF" ∷ codes "alloc0 b 4" ∷ codes "realloc a 100" ∷ codes "show a 0 2" ∷ codes "show b 0 4" ∷ codes "put a 3 00" ∷ [])
      ≡ codes "1 begin level 1\n1 create c6 TopTransactionContext in c1\n1 owner o1\n1 ok\n1 ok\n1 ok\n1 ok\n1 ok\n1 bytes a 0 0aff\n1 ok\n1 bytes b 0 00000000\n1 ok\n1 ERROR 22003 outside the chunk's bytes\n1 abort level 1\n1 cleanup level 1\n1 owner o1 gone\n1 delete c6\n" ++ gone
  pub an_own_block_grows : told options (codes "begin" ∷ codes "context w TopMemoryContext default" ∷ codes "switch w" ∷ codes "alloc a 9000" ∷ codes "realloc a 20000" ∷ codes "report" ∷ [])
      ≡ codes "1 begin level 1\n1 create c6 TopTransactionContext in c1\n1 owner o1\n1 ok\n1 create c7 w in c1\n1 ok\n1 ok\n1 ok\n1 ok\n1 c1 TopMemoryContext: 8192 total in 1 blocks; 7952 free (0 chunks); 240 used\n1   c7 w: 28240 total in 2 blocks; 7952 free (0 chunks); 20288 used\n1   c6 TopTransactionContext: 8192 total in 1 blocks; 7952 free (0 chunks); 240 used\n1   c5 TransactionAbortContext: 32768 total in 1 blocks; 32528 free (0 chunks); 240 used\n1   c4 TopPortalContext: 8192 total in 1 blocks; 7952 free (0 chunks); 240 used\n1   c3 CacheMemoryContext: 8192 total in 1 blocks; 7952 free (0 chunks); 240 used\n1   c2 ErrorContext: 8192 total in 1 blocks; 7952 free (0 chunks); 240 used\n1 Grand total: 101968 bytes in 8 blocks; 80240 free (0 chunks); 21728 used\n1 ok\n1 abort level 1\n1 cleanup level 1\n1 owner o1 gone\n1 delete c6\n1 delete c7\n" ++ gone
  -- names that are taken, protected contexts, and what the current context's end refuses
  pub names_of_contexts : told options (codes "begin" ∷ codes "context ExprContext CurTransactionContext default" ∷ codes "rollback" ∷ codes "begin" ∷ codes "delete CacheMemoryContext" ∷ codes "rollback" ∷ codes "begin" ∷ codes "context p TopMemoryContext small" ∷ codes "switch p" ∷ codes "delete p" ∷ codes "rollback" ∷ codes "delete p" ∷ codes "onreset p" ∷ [])
      ≡ codes "1 begin level 1\n1 create c6 TopTransactionContext in c1\n1 owner o1\n1 ok\n1 ERROR 42710 name is taken\n1 abort level 1\n1 cleanup level 1\n1 owner o1 gone\n1 delete c6\n1 ok\n1 begin level 1\n1 create c7 TopTransactionContext in c1\n1 owner o2\n1 ok\n1 ERROR 42501 context is protected\n1 abort level 1\n1 cleanup level 1\n1 owner o2 gone\n1 delete c7\n1 ok\n1 begin level 1\n1 create c8 TopTransactionContext in c1\n1 owner o3\n1 ok\n1 create c9 p in c1\n1 ok\n1 ok\n1 ERROR 55006 context is in use\n1 abort level 1\n1 cleanup level 1\n1 owner o3 gone\n1 delete c8\n1 ok\n1 begin level 1\n1 create c10 TopTransactionContext in c1\n1 owner o4\n1 delete c9\n1 commit level 1\n1 owner o4 gone\n1 delete c10\n1 ok\n1 begin level 1\n1 create c11 TopTransactionContext in c1\n1 owner o5\n1 ERROR 42704 no such name\n1 abort level 1\n1 cleanup level 1\n1 owner o5 gone\n1 delete c11\n" ++ gone

pub context_rows : ContextRows
unfolding all_rules
context_rows = record { a_chunk_of_a_class = refl; a_new_block = refl; an_own_block = refl; a_small_context = refl; a_small_own_block = refl; a_chunk_of_nothing = refl; out_of_space = refl; too_big = refl; a_slab = refl; a_bump = refl; a_generation = refl; callbacks = refl; a_reset_of_nothing_is_silent = refl; a_cycle = refl; another_parent = refl; reset_alone = refl; a_whole_share = refl; a_byte_more = refl; bytes = refl; an_own_block_grows = refl; names_of_contexts = refl }
