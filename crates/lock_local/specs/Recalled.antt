-- What is remembered of the locks of each owner.
use Rattle.std.specs.Prelude.{◌≡◌, ℕ, ◌<◌, ◌==◌, nat_lt, Bool, false, ◌||◌, IsTrue, List, [], ◌∷◌, length, All, Option, Some, MatchOption}
use Rattle.std.specs.List.{list_any, find}
use Rattle.pgs_step.specs.declared.lock_modes.Mode.{Mode}
use Rattle.lock_shared.specs.Holdings.{same_lock}
use Rattle.lock_local.specs.declared.recalled.LockTag.{LockTag}
use Rattle.lock_local.specs.Locks.{Lock, count_of, comes_before}

-- an owner, locks that it holds, and whether it holds more than these
pub record Recall : Type 0 where
  pub owner : ℕ
  pub tags : List LockTag
  pub more : Bool

-- whether it is the tag of that object and mode
abbrev pub is_tag : ℕ → Mode → LockTag → Bool
is_tag object mode tag = same_lock tag.object tag.mode object mode

-- whether the lock on the object in the mode is remembered, by its tag or as one of more
abbrev pub recalls : Recall → ℕ → Mode → Bool
recalls recall object mode = recall.more || list_any (is_tag object mode) recall.tags

-- each tag comes before all that stand behind it
abbrev pub IsRising : List LockTag → Type 0
IsRising [] = Unit {0}
IsRising (t ∷ ts) = All (λ u. IsTrue (comes_before t.object t.mode u.object u.mode)) ts × IsRising ts

-- what is remembered of an owner
abbrev pub recall_of : List Recall → ℕ → Option Recall
recall_of recalled owner = find (λ r. r.owner == owner) recalled

-- each owner's number is less than those behind it
abbrev pub IsByOwner : List Recall → Type 0
IsByOwner [] = Unit {0}
IsByOwner (r ∷ rs) = All (λ s. r.owner < s.owner) rs × IsByOwner rs

-- whether the owner holds the object in the mode
abbrev pub has_lock : List Lock → ℕ → ℕ → Mode → Bool
has_lock locks owner object mode = nat_lt 0 (count_of locks object mode owner)

-- of an owner that holds no lock nothing is remembered; of another one a tag for each of its locks and for no other lock,
-- or that there are more than tags
abbrev pub IsRecall : List Lock → ℕ → Option Recall → Type 0
IsRecall locks owner recall =
    MatchOption recall
    ((object : ℕ) (mode : Mode) → has_lock locks owner object mode ≡ false)
    (λ r. r.more ≡ false → (0 < length r.tags) × ((object : ℕ) (mode : Mode) → recalls r object mode ≡ has_lock locks owner object mode))

-- what is remembered is what the owners hold
abbrev pub Remembers : List Recall → List Lock → Type 0
Remembers recalled locks = (owner : ℕ) → IsRecall locks owner (recall_of recalled owner)

-- what is remembered of an owner, before and after what is remembered of another one is added
abbrev pub Joins : Recall → Option Recall → Option Recall → Type 0
Joins added old new =
    MatchOption old (new ≡ Some added)
    (λ q. (r : Recall) × (new ≡ Some r) × (0 < length q.tags → 0 < length r.tags)
    × (r.more ≡ false → (q.more ≡ false) × (added.more ≡ false) × ((object : ℕ) (mode : Mode) → recalls r object mode ≡ (recalls added object mode || recalls q object mode))))
