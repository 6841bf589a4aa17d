-- Whole runs: their transcripts keep the laws.
use Rattle.std.proofs.Common.{◌≡◌, true, ℕ, List, [], ◌∷◌, Some, refl}
use Rattle.std.specs.Prelude.{codes}
use Rattle.session_rules.specs.Modes.{made_script}
use Rattle.session_rules.proofs.Setting.{options}
use Rattle.lifetime_rows.proofs.Setting.{keeps_laws, keeps_laws_wanting, all_rules}

-- a script, to be run with each of its calls failing in turn, and with each wanting memory
abbrev pub script : List (List ℕ)
script = codes "begin" ∷ codes "pin 7" ∷ codes "savepoint s" ∷ codes "lock 5 ShareLock" ∷ codes "alloc a 100" ∷ codes "release s" ∷ codes "commit" ∷ []

pub no_call_fails : keeps_laws options script ≡ true
unfolding all_rules
no_call_fails = refl

pub call_1_fails : keeps_laws (record options { fail = 1 }) script ≡ true
unfolding all_rules
call_1_fails = refl

pub call_2_fails : keeps_laws (record options { fail = 2 }) script ≡ true
unfolding all_rules
call_2_fails = refl

pub call_3_fails : keeps_laws (record options { fail = 3 }) script ≡ true
unfolding all_rules
call_3_fails = refl

pub call_4_fails : keeps_laws (record options { fail = 4 }) script ≡ true
unfolding all_rules
call_4_fails = refl

pub call_5_fails : keeps_laws (record options { fail = 5 }) script ≡ true
unfolding all_rules
call_5_fails = refl

pub call_6_fails : keeps_laws (record options { fail = 6 }) script ≡ true
unfolding all_rules
call_6_fails = refl

pub call_7_fails : keeps_laws (record options { fail = 7 }) script ≡ true
unfolding all_rules
call_7_fails = refl

pub call_8_fails : keeps_laws (record options { fail = 8 }) script ≡ true
unfolding all_rules
call_8_fails = refl

pub call_9_fails : keeps_laws (record options { fail = 9 }) script ≡ true
unfolding all_rules
call_9_fails = refl

pub call_10_fails : keeps_laws (record options { fail = 10 }) script ≡ true
unfolding all_rules
call_10_fails = refl

pub call_1_wants_memory : keeps_laws_wanting (Some 1) options script ≡ true
unfolding all_rules
call_1_wants_memory = refl

pub call_2_wants_memory : keeps_laws_wanting (Some 2) options script ≡ true
unfolding all_rules
call_2_wants_memory = refl

pub call_3_wants_memory : keeps_laws_wanting (Some 3) options script ≡ true
unfolding all_rules
call_3_wants_memory = refl

pub call_4_wants_memory : keeps_laws_wanting (Some 4) options script ≡ true
unfolding all_rules
call_4_wants_memory = refl

pub call_5_wants_memory : keeps_laws_wanting (Some 5) options script ≡ true
unfolding all_rules
call_5_wants_memory = refl

pub call_6_wants_memory : keeps_laws_wanting (Some 6) options script ≡ true
unfolding all_rules
call_6_wants_memory = refl

pub call_7_wants_memory : keeps_laws_wanting (Some 7) options script ≡ true
unfolding all_rules
call_7_wants_memory = refl

pub call_8_wants_memory : keeps_laws_wanting (Some 8) options script ≡ true
unfolding all_rules
call_8_wants_memory = refl

pub call_9_wants_memory : keeps_laws_wanting (Some 9) options script ≡ true
unfolding all_rules
call_9_wants_memory = refl

pub call_10_wants_memory : keeps_laws_wanting (Some 10) options script ≡ true
unfolding all_rules
call_10_wants_memory = refl

-- the script that a run makes, in one round and in three
pub one_round : keeps_laws options (made_script 1) ≡ true
unfolding all_rules
one_round = refl

pub three_rounds : keeps_laws options (made_script 3) ≡ true
unfolding all_rules
three_rounds = refl
