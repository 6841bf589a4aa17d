-- The lines of the script that is made, computed from the definitions.
use Rattle.std.proofs.Common.{◌≡◌, [], ◌∷◌, refl}
use Rattle.std.specs.Prelude.{codes}
use Rattle.std.specs.Fmt.{digits}
use Rattle.session_rules.specs.Modes.{made_script}

-- those of rounds 1, 2 and 3
pub three_rounds : made_script 3
    ≡ codes "begin" ∷ codes "context g1 CurTransactionContext default" ∷ codes "switch g1" ∷ codes "alloc a1 733" ∷ codes "pin 7" ∷ codes "savepoint s" ∷ codes "lock 1 AccessShareLock" ∷ codes "ref relcache 1" ∷ codes "release s" ∷ codes "portal p 1 25" ∷ codes "fetch p 12" ∷ codes "endportal p" ∷ codes "commit"
    ∷ codes "begin" ∷ codes "context g2 CurTransactionContext default" ∷ codes "switch g2" ∷ codes "alloc a2 1466" ∷ codes "pin 14" ∷ codes "savepoint s" ∷ codes "lock 2 AccessShareLock" ∷ codes "ref relcache 2" ∷ codes "rollback to s" ∷ codes "portal p 2 25" ∷ codes "fetch p 12" ∷ codes "endportal p" ∷ codes "commit"
    ∷ codes "begin" ∷ codes "context g3 CurTransactionContext default" ∷ codes "switch g3" ∷ codes "alloc a3 2199" ∷ codes "pin 21" ∷ codes "savepoint s" ∷ codes "lock 3 AccessShareLock" ∷ codes "ref relcache 3" ∷ codes "release s" ∷ codes "portal p 3 25" ∷ codes "fetch p 12" ∷ codes "endportal p" ∷ codes "rollback" ∷ []
unfolding digits made_script
three_rounds = refl
