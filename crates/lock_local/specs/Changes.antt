-- What becomes of a session's locks.
use Rattle.std.specs.Prelude.{ℕ, ◌+◌, ◌-◌, ◌==◌, not, if◌then◌else◌, List, [], ◌∷◌, map, filter}
use Rattle.std.specs.List.{flat_map}
use Rattle.pgs_step.specs.declared.lock_modes.Mode.{Mode}
use Rattle.pgs_step.specs.declared.events.What.{What}
use Rattle.pgs_step.specs.declared.events.What.TheVariants.{ReleaseLock, PassLock}
use Rattle.lock_local.specs.declared.local_lock.OwnerCount.{OwnerCount}
use Rattle.lock_local.specs.Locks.{Lock, owner_count, lock_total, is_lock, has_owner, comes_before}

-- the owner counts n more; one that didn't count stands last
abbrev pub added : ℕ → ℕ → List OwnerCount → List OwnerCount
added owner n [] = record { owner = owner; count = n } ∷ []
added owner n (c ∷ cs) = if c.owner == owner then record { owner = c.owner; count = c.count + n } ∷ cs else c ∷ added owner n cs

-- the owner counts one less; one that counted 1 is gone
abbrev pub lowered : ℕ → List OwnerCount → List OwnerCount
lowered owner [] = []
lowered owner (c ∷ cs) = if c.owner == owner then (if c.count == 1 then cs else record { owner = c.owner; count = c.count - 1 } ∷ cs) else c ∷ lowered owner cs

-- a lock that one owner holds once
abbrev pub new_lock : ℕ → Mode → ℕ → Lock
new_lock object mode owner = record { object = object; mode = mode; owners = record { owner = owner; count = 1 } ∷ [] }

-- the owner holds the lock once more
abbrev pub counted_up : ℕ → Lock → Lock
counted_up owner lock = record { object = lock.object; mode = lock.mode; owners = added owner 1 lock.owners }

-- the owner holds the lock once less
abbrev pub counted_down : ℕ → Lock → Lock
counted_down owner lock = record { object = lock.object; mode = lock.mode; owners = lowered owner lock.owners }

-- the owner doesn't hold the lock
abbrev pub without : ℕ → Lock → Lock
without owner lock = record { object = lock.object; mode = lock.mode; owners = filter (λ c. not (c.owner == owner)) lock.owners }

-- the counts of one owner are added to those of another
abbrev pub passed_lock : ℕ → ℕ → Lock → Lock
passed_lock from to lock =
    if owner_count from lock == 0 then lock
    else record { object = lock.object; mode = lock.mode; owners = added to (owner_count from lock) (without from lock).owners }

-- the owner holds the object in the mode once more; a lock that nobody held stands at its place
abbrev pub acquired : ℕ → ℕ → Mode → List Lock → List Lock
acquired owner object mode [] = new_lock object mode owner ∷ []
acquired owner object mode (l ∷ ls) =
    if comes_before l.object l.mode object mode then l ∷ acquired owner object mode ls
    else (if is_lock object mode l then counted_up owner l ∷ ls else new_lock object mode owner ∷ l ∷ ls)

-- the owner holds the object in the mode once less
abbrev pub given_back : ℕ → ℕ → Mode → List Lock → List Lock
given_back owner object mode locks = filter has_owner (map (λ l. if is_lock object mode l then counted_down owner l else l) locks)

-- the owner holds no lock
abbrev pub released : ℕ → List Lock → List Lock
released owner locks = filter has_owner (map (without owner) locks)

-- one owner holds no lock, and what it held the other holds as often besides its own
abbrev pub passed : ℕ → ℕ → List Lock → List Lock
passed from to locks = map (passed_lock from to) locks

-- an owner gives up what it holds of a lock
abbrev pub release_of : ℕ → Lock → List What
release_of owner lock = if owner_count owner lock == 0 then [] else ReleaseLock lock.object lock.mode (owner_count owner lock) owner ∷ []

-- an owner's counts of a lock go to another
abbrev pub pass_of : ℕ → ℕ → Lock → List What
pass_of from to lock = if owner_count from lock == 0 then [] else PassLock lock.object lock.mode (owner_count from lock) from to ∷ []

-- a lock goes with the sum of its counts, in the name of one owner
abbrev pub release_whole : ℕ → Lock → What
release_whole top lock = ReleaseLock lock.object lock.mode (lock_total lock) top

-- an owner gives up what it holds, in the order of the locks
abbrev pub releases : ℕ → List Lock → List What
releases owner locks = flat_map (release_of owner) locks

-- an owner's counts go to another, in the order of the locks
abbrev pub passes : ℕ → ℕ → List Lock → List What
passes from to locks = flat_map (pass_of from to) locks

-- each lock goes with the sum of its counts, in order, in the name of one owner
abbrev pub releases_of_all : ℕ → List Lock → List What
releases_of_all top locks = map (release_whole top) locks
