-- The snapshots of a session: those that are registered, and the stack of the active ones.
use Rattle.std.specs.Prelude.{◌≡◌, ℕ, ◌+◌, ◌-◌, ◌<◌, ◌==◌, nat_le, nat_lt, Bool, if◌then◌else◌, List, All, length, map, filter, count_by}
use Rattle.std.specs.Ordering.{nat_cmp}
use Rattle.std.specs.BTreeMap.{is_at}
use Rattle.std.specs.List.Sorted.{IsNonDecreasingBy}
use Rattle.counts.specs.Counts.{count_of, total}
use Rattle.pgs_step.specs.declared.events.What.{What}
use Rattle.pgs_step.specs.declared.events.What.TheVariants.{Pop}
use Rattle.snap_table.specs.declared.active.Active.{Active}

-- the registered snapshots with their counts, in the snapshots' order, and the stack, its newest entry last
pub record Snapshots : Type 0 where
  pub registered : List (ℕ × ℕ)
  pub stack : List Active

-- how often the snapshot is registered
abbrev pub registrations : Snapshots → ℕ → ℕ
registrations table snapshot = count_of nat_cmp table.registered snapshot

-- the snapshot is registered once more, and every other as often as before
abbrev pub RegisteredOneMore : Snapshots → Snapshots → ℕ → Type 0
RegisteredOneMore old new snapshot = (q : ℕ) → registrations new q ≡ registrations old q + (if snapshot == q then 1 else 0)

-- the snapshot is registered once less, and every other as often as before
abbrev pub RegisteredOneLess : Snapshots → Snapshots → ℕ → Type 0
RegisteredOneLess old new snapshot = (q : ℕ) → registrations new q + (if snapshot == q then 1 else 0) ≡ registrations old q

-- how many registrations and entries of the stack there are
abbrev pub size : Snapshots → ℕ
size table = total table.registered + length table.stack

-- the snapshots of a list of entries
abbrev pub snapshots_of : List Active → List ℕ
snapshots_of entries = map (λ entry. entry.snapshot) entries

-- the entry is of that level or of a greater one
abbrev pub is_deep : ℕ → Active → Bool
is_deep level entry = nat_le level entry.level

-- the entries of lower levels
abbrev pub kept_below : ℕ → List Active → List Active
kept_below level stack = filter (λ entry. nat_lt entry.level level) stack

-- the events of popping the entries of that level or of a greater one, the newest first
abbrev pub pops : ℕ → List Active → List What
pops level newest_first = map (λ entry. Pop entry.snapshot) (filter (is_deep level) newest_first)

-- an entry of that level is one level lower, and any other stays
abbrev pub lowered : ℕ → Active → Active
lowered level entry = if entry.level == level then record entry { level = level - 1 } else entry

-- no entry is of a greater level than one above it
abbrev pub IsRising : List Active → Type 0
IsRising stack = IsNonDecreasingBy (λ entry. entry.level) stack

-- each entry is of a lower level
abbrev pub AreBelow : ℕ → List Active → Type 0
AreBelow level stack = All (λ entry. entry.level < level) stack

-- held counts each snapshot as often as it is registered and stands on the stack
abbrev pub CountsBoth : List (ℕ × ℕ) → List (ℕ × ℕ) → List Active → Type 0
CountsBoth held registered stack = (q : ℕ) → count_of nat_cmp held q ≡ count_of nat_cmp registered q + count_by (is_at (nat_cmp q)) (snapshots_of stack)
