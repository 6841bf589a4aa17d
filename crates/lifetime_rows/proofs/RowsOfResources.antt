-- Items, locks, descriptors, snapshots and plans: their transcripts keep the laws.
use Rattle.std.proofs.Common.{◌≡◌, true, [], ◌∷◌, refl}
use Rattle.std.specs.Prelude.{codes}
use Rattle.session_rules.proofs.Setting.{options}
use Rattle.lifetime_rows.proofs.Setting.{keeps_laws, all_rules}

-- a release goes by phases: before the locks, the locks, after the locks
pub phases : keeps_laws options (codes "begin" ∷ codes "pin 7" ∷ codes "open 3" ∷ codes "lock 5 AccessShareLock" ∷ codes "savepoint s" ∷ codes "pin 8" ∷ codes "acquire conn 4" ∷ codes "lock 6 RowExclusiveLock" ∷ codes "snapshot 9" ∷ codes "rollback" ∷ []) ≡ true
unfolding all_rules
phases = refl

pub a_lock_passes : keeps_laws options (codes "begin" ∷ codes "lock 5 AccessShareLock" ∷ codes "savepoint s" ∷ codes "lock 5 AccessShareLock" ∷ codes "lock 5 AccessShareLock" ∷ codes "release s" ∷ codes "commit" ∷ []) ≡ true
unfolding all_rules
a_lock_passes = refl

pub a_lock_goes_with_its_savepoint : keeps_laws options (codes "begin" ∷ codes "lock 5 AccessShareLock" ∷ codes "savepoint s" ∷ codes "lock 5 AccessShareLock" ∷ codes "lock 5 AccessShareLock" ∷ codes "rollback to s" ∷ codes "commit" ∷ []) ≡ true
unfolding all_rules
a_lock_goes_with_its_savepoint = refl

pub a_conflict : keeps_laws (record options { sessions = 2 }) (codes "begin" ∷ codes "lock 5 AccessShareLock" ∷ codes "@2 lock 5 AccessExclusiveLock" ∷ codes "commit" ∷ codes "@2 lock 5 AccessExclusiveLock" ∷ []) ≡ true
unfolding all_rules
a_conflict = refl

pub no_conflict_with_oneself : keeps_laws options (codes "begin" ∷ codes "lock 5 AccessExclusiveLock" ∷ codes "lock 5 AccessExclusiveLock" ∷ []) ≡ true
unfolding all_rules
no_conflict_with_oneself = refl

pub more_than_an_array_of_pins : keeps_laws options (codes "begin" ∷ codes "pin 0" ∷ codes "pin 1" ∷ codes "pin 2" ∷ codes "pin 3" ∷ codes "pin 4" ∷ codes "pin 5" ∷ codes "pin 6" ∷ codes "pin 7" ∷ codes "pin 8" ∷ codes "pin 9" ∷ codes "pin 10" ∷ codes "pin 11" ∷ codes "pin 12" ∷ codes "pin 13" ∷ codes "pin 14" ∷ codes "pin 15" ∷ codes "pin 16" ∷ codes "pin 17" ∷ codes "pin 18" ∷ codes "pin 19" ∷ codes "pin 20" ∷ codes "pin 21" ∷ codes "pin 22" ∷ codes "pin 23" ∷ codes "pin 24" ∷ codes "pin 25" ∷ codes "pin 26" ∷ codes "pin 27" ∷ codes "pin 28" ∷ codes "pin 29" ∷ codes "pin 30" ∷ codes "pin 31" ∷ codes "pin 32" ∷ codes "unpin 1" ∷ codes "unpin 3" ∷ codes "unpin 5" ∷ codes "unpin 7" ∷ codes "unpin 9" ∷ codes "unpin 11" ∷ codes "unpin 13" ∷ codes "unpin 15" ∷ codes "unpin 17" ∷ codes "unpin 19" ∷ codes "unpin 21" ∷ codes "unpin 23" ∷ codes "unpin 25" ∷ codes "unpin 27" ∷ codes "unpin 29" ∷ codes "unpin 31" ∷ codes "rollback" ∷ []) ≡ true
unfolding all_rules
more_than_an_array_of_pins = refl

pub nine_buffers : keeps_laws options (codes "begin" ∷ codes "pin 1" ∷ codes "pin 2" ∷ codes "pin 3" ∷ codes "pin 4" ∷ codes "pin 5" ∷ codes "pin 6" ∷ codes "pin 7" ∷ codes "pin 8" ∷ codes "pin 9" ∷ codes "unpin 1" ∷ codes "buffer 9" ∷ []) ≡ true
unfolding all_rules
nine_buffers = refl

-- what an owner gives back it must hold itself
pub not_held : keeps_laws options (codes "begin" ∷ codes "unpin 2000" ∷ codes "rollback" ∷ codes "begin" ∷ codes "pin 1" ∷ codes "savepoint s" ∷ codes "unpin 1" ∷ codes "rollback" ∷ []) ≡ true
unfolding all_rules
not_held = refl

pub a_plan_goes_with_its_last_reference : keeps_laws options (codes "begin" ∷ codes "plan 2" ∷ codes "planref 2" ∷ codes "plandrop 2" ∷ codes "rollback" ∷ []) ≡ true
unfolding all_rules
a_plan_goes_with_its_last_reference = refl

-- a plan that is discarded stands while a reference to it is held
pub plans : keeps_laws options (codes "begin" ∷ codes "plan 1" ∷ codes "plan 2" ∷ codes "planref 2" ∷ codes "plandrop 2" ∷ codes "plandrop 1" ∷ codes "planref 2" ∷ codes "rollback" ∷ codes "planunref 2" ∷ codes "plan 2" ∷ codes "plan 2" ∷ []) ≡ true
unfolding all_rules
plans = refl

pub descriptors : keeps_laws (record options { descriptors = 8 }) (codes "begin" ∷ codes "open 1" ∷ codes "open 2" ∷ codes "open 3" ∷ codes "open 4" ∷ codes "open 5" ∷ codes "open 6" ∷ codes "open 7" ∷ codes "open 8" ∷ codes "open 9" ∷ codes "touch 1" ∷ []) ≡ true
unfolding all_rules
descriptors = refl

pub a_kind_is_full : keeps_laws options (codes "begin" ∷ codes "acquire conn 1" ∷ codes "acquire conn 1" ∷ codes "acquire conn 1" ∷ codes "acquire conn 1" ∷ codes "acquire conn 1" ∷ []) ≡ true
unfolding all_rules
a_kind_is_full = refl

-- the kinds of a phase go by their priorities, and the newest of one kind first
pub kinds_in_order : keeps_laws options (codes "begin" ∷ codes "ref relcache 1" ∷ codes "pin 2" ∷ codes "pin 1" ∷ codes "acquire conn 3" ∷ codes "open 4" ∷ codes "acquire handle 5" ∷ codes "ref catlist 6" ∷ codes "ref catcache 6" ∷ codes "ref tupdesc 6" ∷ codes "snapshot 7" ∷ codes "acquire file 3" ∷ codes "commit" ∷ []) ≡ true
unfolding all_rules
kinds_in_order = refl

pub pinned_by_two : keeps_laws (record options { sessions = 2 }) (codes "begin" ∷ codes "pin 7" ∷ codes "pin 7" ∷ codes "@2 begin" ∷ codes "@2 pin 7" ∷ codes "buffer 7" ∷ []) ≡ true
unfolding all_rules
pinned_by_two = refl

pub active_snapshots : keeps_laws options (codes "begin" ∷ codes "push 4" ∷ codes "savepoint s" ∷ codes "push 5" ∷ codes "release s" ∷ codes "pop" ∷ codes "ref tupdesc 6" ∷ codes "stat" ∷ []) ≡ true
unfolding all_rules
active_snapshots = refl

-- sessions of a run: one that there is not, and a lock that waits for no one
pub two_sessions : keeps_laws (record options { sessions = 2 }) (codes "@2 begin" ∷ codes "@3 begin" ∷ codes "@3 bogus" ∷ codes "@2 lock 1 ShareLock" ∷ codes "@1 lock 1 RowExclusiveLock" ∷ codes "begin" ∷ codes "lock 1 ShareLock" ∷ codes "@2 commit" ∷ codes "lock 1 AccessExclusiveLock" ∷ []) ≡ true
unfolding all_rules
two_sessions = refl
