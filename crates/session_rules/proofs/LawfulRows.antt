-- Scripts whose transcripts keep the laws of lifetimes by these rules. Each of them breaks a law where the rule is another, as the edits in
-- must-fail/ have it.
use Rattle.session_rules.proofs.Base.{◌≡◌, true, refl, ℕ, Bool, List, [], ◌∷◌, codes, None}
use Rattle.session_rules.proofs.Below.{table_of}
use Rattle.session_rules.proofs.Rules.{transcript}
use Rattle.lifetime_laws.specs.Laws.{is_lawful}
use Rattle.session_rules.proofs.Setting.{kinds, hooks, options, all_rules}

-- whether the transcript of a script is lawful
abbrev keeps_laws : List (List ℕ) → Bool
keeps_laws script = is_lawful (table_of kinds) 1 (transcript None options kinds hooks script)

pub record LawfulScripts : Type 0 where
  -- a savepoint's lock and portal outlive its release, and a later rollback leaves them alone
  pub merged_level : keeps_laws (codes "begin" ∷ codes "savepoint s" ∷ codes "lock 5 ShareLock" ∷ codes "portal p 7 25" ∷ codes "release s" ∷ codes "fetch p 5" ∷ codes "savepoint t" ∷ codes "rollback to t" ∷ codes "commit" ∷ []) ≡ true
  -- a commit pops what is pushed, releases by phase and priority, and runs callbacks before their context goes
  pub commit : keeps_laws (codes "begin" ∷ codes "push 4" ∷ codes "pin 7" ∷ codes "ref relcache 9" ∷ codes "ref catcache 9" ∷ codes "context w CurTransactionContext default" ∷ codes "onreset w" ∷ codes "commit" ∷ []) ≡ true

pub lawful_scripts : LawfulScripts
unfolding all_rules
lawful_scripts = record { merged_level = refl; commit = refl }
