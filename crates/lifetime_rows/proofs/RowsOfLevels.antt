-- Levels and commands: their transcripts keep the laws.
use Rattle.std.proofs.Common.{◌≡◌, true, [], ◌∷◌, Some, refl}
use Rattle.std.specs.Prelude.{codes, replicate}
use Rattle.session_rules.proofs.Setting.{options}
use Rattle.lifetime_rows.proofs.Setting.{keeps_laws, keeps_laws_wanting, all_rules}

pub nothing : keeps_laws options ([]) ≡ true
unfolding all_rules
nothing = refl

pub a_pin_at_commit : keeps_laws options (codes "begin" ∷ codes "pin 7" ∷ codes "commit" ∷ []) ≡ true
unfolding all_rules
a_pin_at_commit = refl

pub a_pin_at_rollback : keeps_laws options (codes "begin" ∷ codes "pin 7" ∷ codes "rollback" ∷ []) ≡ true
unfolding all_rules
a_pin_at_rollback = refl

-- an error aborts the transaction, and only its end is taken then
pub raised : keeps_laws options (codes "begin" ∷ codes "raise" ∷ codes "pin 1" ∷ codes "commit" ∷ []) ≡ true
unfolding all_rules
raised = refl

pub not_ended : keeps_laws options (codes "begin" ∷ []) ≡ true
unfolding all_rules
not_ended = refl

-- a comment of 512 bytes, and one of 513
pub a_whole_comment : keeps_laws options ((35 ∷ replicate 511 120) ∷ []) ≡ true
unfolding all_rules
a_whole_comment = refl

pub a_comment_too_long : keeps_laws options ((35 ∷ replicate 512 120) ∷ []) ≡ true
unfolding all_rules
a_comment_too_long = refl

-- warnings, and a bad line in an aborted block
pub warnings : keeps_laws options (codes "commit" ∷ codes "rollback" ∷ codes "begin" ∷ codes "begin" ∷ codes "savepoint s" ∷ codes "bogus" ∷ codes "begin" ∷ codes "bogus" ∷ codes "rollback to t" ∷ codes "rollback to s" ∷ codes "commit" ∷ []) ≡ true
unfolding all_rules
warnings = refl

-- commands without a transaction
pub for_one_command : keeps_laws options (codes "pin 7" ∷ codes "raise" ∷ codes "savepoint s" ∷ codes "release s" ∷ []) ≡ true
unfolding all_rules
for_one_command = refl

-- the context of a savepoint in which memory was taken stays with the level above
pub a_context_stays : keeps_laws options (codes "begin" ∷ codes "savepoint s" ∷ codes "alloc a 10" ∷ codes "release s" ∷ codes "commit" ∷ []) ≡ true
unfolding all_rules
a_context_stays = refl

pub no_savepoint : keeps_laws options (codes "begin" ∷ codes "release t" ∷ []) ≡ true
unfolding all_rules
no_savepoint = refl

-- the deepest savepoint of a name is meant
pub savepoints_of_one_name : keeps_laws options (codes "begin" ∷ codes "savepoint s" ∷ codes "savepoint t" ∷ codes "savepoint s" ∷ codes "release s" ∷ codes "rollback to s" ∷ codes "release s" ∷ codes "commit" ∷ []) ≡ true
unfolding all_rules
savepoints_of_one_name = refl

-- a level that is being started when a call fails goes
pub the_first_call_fails : keeps_laws (record options { fail = 1 }) (codes "begin" ∷ []) ≡ true
unfolding all_rules
the_first_call_fails = refl

pub the_second_call_fails : keeps_laws (record options { fail = 2 }) (codes "begin" ∷ []) ≡ true
unfolding all_rules
the_second_call_fails = refl

pub the_third_call_fails : keeps_laws (record options { fail = 3 }) (codes "begin" ∷ []) ≡ true
unfolding all_rules
the_third_call_fails = refl

pub the_fifth_call_fails : keeps_laws (record options { fail = 5 }) (codes "begin" ∷ codes "pin 7" ∷ codes "savepoint s" ∷ codes "lock 5 ShareLock" ∷ codes "alloc a 100" ∷ codes "release s" ∷ codes "commit" ∷ []) ≡ true
unfolding all_rules
the_fifth_call_fails = refl

-- a savepoint that fails while it is started leaves the level above aborted
pub a_savepoint_fails : keeps_laws (record options { fail = 5 }) (codes "begin" ∷ codes "savepoint s" ∷ codes "rollback" ∷ []) ≡ true
unfolding all_rules
a_savepoint_fails = refl

-- a want of memory ends the script
pub memory_is_wanted : keeps_laws_wanting (Some 5) options (codes "begin" ∷ codes "acquire conn 1" ∷ codes "pin 3" ∷ []) ≡ true
unfolding all_rules
memory_is_wanted = refl

-- and all sessions end
pub memory_is_wanted_in_one : keeps_laws_wanting (Some 8) (record options { sessions = 2 }) (codes "@2 begin" ∷ codes "begin" ∷ codes "acquire conn 1" ∷ codes "pin 3" ∷ []) ≡ true
unfolding all_rules
memory_is_wanted_in_one = refl
