-- How often the owners of a session hold its locks, before and after a change.
use Rattle.std.specs.Prelude.{◌≡◌, ℕ, ◌+◌, ◌==◌, ◌&&◌, if◌then◌else◌, List}
use Rattle.pgs_step.specs.declared.lock_modes.Mode.{Mode}
use Rattle.lock_shared.specs.Holdings.{same_lock}
use Rattle.lock_local.specs.Locks.{Lock, count_of, whole_of}

-- the owner holds the object in the mode once more, and every other count is as it was
abbrev pub HoldsOneMore : List Lock → List Lock → ℕ → Mode → ℕ → Type 0
HoldsOneMore old new object mode owner = (o : ℕ) (m : Mode) (w : ℕ) → count_of new o m w ≡ count_of old o m w + (if same_lock object mode o m && (owner == w) then 1 else 0)

-- the owner holds the object in the mode once less, and every other count is as it was
abbrev pub HoldsOneLess : List Lock → List Lock → ℕ → Mode → ℕ → Type 0
HoldsOneLess old new object mode owner = (o : ℕ) (m : Mode) (w : ℕ) → count_of new o m w + (if same_lock object mode o m && (owner == w) then 1 else 0) ≡ count_of old o m w

-- the owner holds nothing, and every other owner's counts are as they were
abbrev pub HoldsNothing : List Lock → List Lock → ℕ → Type 0
HoldsNothing old new owner = (o : ℕ) (m : Mode) (w : ℕ) → count_of new o m w ≡ (if owner == w then 0 else count_of old o m w)

-- what the one owner held the other holds besides its own, and every other owner's counts are as they were
abbrev pub HoldsBoth : List Lock → List Lock → ℕ → ℕ → Type 0
HoldsBoth old new from to = (o : ℕ) (m : Mode) (w : ℕ) → count_of new o m w ≡ (if from == w then 0 else count_of old o m w) + (if to == w then count_of old o m from else 0)

-- all owners together hold the object in the mode once more, and every other lock as often as before
abbrev pub WholeOneMore : List Lock → List Lock → ℕ → Mode → Type 0
WholeOneMore old new object mode = (o : ℕ) (m : Mode) → whole_of new o m ≡ whole_of old o m + (if same_lock object mode o m then 1 else 0)

-- all owners together hold the object in the mode once less, and every other lock as often as before
abbrev pub WholeOneLess : List Lock → List Lock → ℕ → Mode → Type 0
WholeOneLess old new object mode = (o : ℕ) (m : Mode) → whole_of new o m + (if same_lock object mode o m then 1 else 0) ≡ whole_of old o m

-- all owners together hold each lock less often by what the owner held of it
abbrev pub WholeLess : List Lock → List Lock → ℕ → Type 0
WholeLess old new owner = (o : ℕ) (m : Mode) → whole_of new o m + count_of old o m owner ≡ whole_of old o m

-- all owners together hold each lock as often as before
abbrev pub WholeStays : List Lock → List Lock → Type 0
WholeStays old new = (o : ℕ) (m : Mode) → whole_of new o m ≡ whole_of old o m
