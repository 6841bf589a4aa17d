-- Portals: their transcripts keep the laws.
use Rattle.std.proofs.Common.{◌≡◌, true, [], ◌∷◌, refl}
use Rattle.std.specs.Prelude.{codes}
use Rattle.session_rules.proofs.Setting.{options}
use Rattle.lifetime_rows.proofs.Setting.{keeps_laws, all_rules}

pub a_bad_row : keeps_laws options (codes "begin" ∷ codes "lock 9 AccessShareLock" ∷ codes "portal p 40 30 3" ∷ codes "savepoint s" ∷ codes "fetch p 5" ∷ codes "rollback to s" ∷ codes "rollback" ∷ []) ≡ true
unfolding all_rules
a_bad_row = refl

pub a_whole_scan : keeps_laws options (codes "begin" ∷ codes "portal q 3 12" ∷ codes "fetch q 20" ∷ codes "endportal q" ∷ codes "commit" ∷ []) ≡ true
unfolding all_rules
a_whole_scan = refl

-- owners of portals pass to the level above, and the one that passes last stands in front
pub two_portals_pass : keeps_laws options (codes "begin" ∷ codes "savepoint s" ∷ codes "portal p 1 5" ∷ codes "portal q 2 5" ∷ codes "release s" ∷ codes "rollback" ∷ []) ≡ true
unfolding all_rules
two_portals_pass = refl

-- a portal fails with its savepoint
pub a_portal_of_a_savepoint : keeps_laws options (codes "begin" ∷ codes "savepoint s" ∷ codes "portal p 1 3" ∷ codes "fetch p 2" ∷ codes "rollback to s" ∷ codes "fetch p 1" ∷ codes "rollback" ∷ []) ≡ true
unfolding all_rules
a_portal_of_a_savepoint = refl

-- portals that are open at commit end with it
pub portals_at_commit : keeps_laws options (codes "begin" ∷ codes "portal p 1 30" ∷ codes "fetch p 12" ∷ codes "portal q 2 2" ∷ codes "fetch q 2" ∷ codes "fetch q 2" ∷ codes "fetch q 2" ∷ codes "portal q 1 1" ∷ codes "rollback" ∷ codes "begin" ∷ codes "portal p 7 20 3" ∷ codes "savepoint s" ∷ codes "fetch p 2" ∷ codes "release s" ∷ codes "pin 7" ∷ codes "commit" ∷ codes "fetch p 1" ∷ []) ≡ true
unfolding all_rules
portals_at_commit = refl

-- a portal whose making fails
pub a_portal_fails : keeps_laws (record options { fail = 12 }) (codes "begin" ∷ codes "portal p 1 3" ∷ codes "rollback" ∷ []) ≡ true
unfolding all_rules
a_portal_fails = refl
