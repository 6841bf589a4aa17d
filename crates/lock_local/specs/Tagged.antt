-- What becomes of a session's locks where one owner's hold on a single lock is given up or passed.
use Rattle.std.specs.Prelude.{◌≢◌, ℕ, if◌then◌else◌, IsTrue, List, [], map, filter, All}
use Rattle.std.specs.List.{flat_map, list_any}
use Rattle.pgs_step.specs.declared.lock_modes.Mode.{Mode}
use Rattle.pgs_step.specs.declared.events.What.{What}
use Rattle.lock_local.specs.declared.recalled.LockTag.{LockTag}
use Rattle.lock_local.specs.Locks.{Lock, owner_count, is_lock, has_owner}
use Rattle.lock_local.specs.Recalled.{is_tag}
use Rattle.lock_local.specs.Changes.{without, passed_lock, release_of, pass_of}

-- the lock on the object in the mode is changed, and any other stays
abbrev pub at_lock : ℕ → Mode → (Lock → Lock) → Lock → Lock
at_lock object mode change lock = if is_lock object mode lock then change lock else lock

-- what is told of the lock on the object in the mode
abbrev pub told_of : ℕ → Mode → (Lock → List What) → Lock → List What
told_of object mode tell lock = if is_lock object mode lock then tell lock else []

-- the owner doesn't hold the object in the mode
abbrev pub given_up : ℕ → ℕ → Mode → List Lock → List Lock
given_up owner object mode locks = filter has_owner (map (at_lock object mode (without owner)) locks)

-- the owner gives up what it holds of the object in the mode
abbrev pub gives_up : ℕ → ℕ → Mode → List Lock → List What
gives_up owner object mode locks = flat_map (told_of object mode (release_of owner)) locks

-- what the one owner holds of the object in the mode the other holds besides its own
abbrev pub handed_on : ℕ → ℕ → ℕ → Mode → List Lock → List Lock
handed_on from to object mode locks = map (at_lock object mode (passed_lock from to)) locks

-- the one owner's counts of the object in the mode go to the other
abbrev pub hands_on : ℕ → ℕ → ℕ → Mode → List Lock → List What
hands_on from to object mode locks = flat_map (told_of object mode (pass_of from to)) locks

-- each lock that the owner holds has its tag among these
abbrev pub AreTagged : ℕ → List LockTag → List Lock → Type 0
AreTagged owner tags locks = All (λ l. owner_count owner l ≢ 0 → IsTrue (list_any (is_tag l.object l.mode) tags)) locks
