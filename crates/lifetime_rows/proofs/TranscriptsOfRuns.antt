-- Whole runs, computed from the definitions.
use Rattle.std.proofs.Common.{◌≡◌, [], ◌∷◌, refl}
use Rattle.std.specs.Prelude.{codes}
use Rattle.session_rules.specs.Modes.{generated, swept}
use Rattle.session_rules.proofs.Setting.{options, kinds, hooks}
use Rattle.lifetime_rows.proofs.Setting.{all_rules}

pub record RunRows : Type 0 where
  pub each_call_fails : swept options kinds hooks (codes "begin" ∷ codes "pin 7" ∷ codes "savepoint s" ∷ codes "lock 5 ShareLock" ∷ codes "alloc a 100" ∷ codes "release s" ∷ codes "commit" ∷ [])
      ≡ codes "calls 10 errors 0\nfail 1 errors 3\nfail 2 errors 3\nfail 3 errors 3\nfail 4 errors 5\nfail 5 errors 5\nfail 6 errors 4\nfail 7 errors 4\nfail 8 errors 4\nfail 9 errors 3\nfail 10 errors 2\n"
  pub one_round : generated 1 options kinds hooks ≡ codes "generated 13 lines, 82 events, 0 errors, 39 calls\n"
  pub three_rounds : generated 3 options kinds hooks ≡ codes "generated 39 lines, 241 events, 0 errors, 120 calls\n"

pub run_rows : RunRows
unfolding all_rules
run_rows = record { each_call_fails = refl; one_round = refl; three_rounds = refl }
