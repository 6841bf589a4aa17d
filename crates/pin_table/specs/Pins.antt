-- What a session pins, and how many sessions pin each buffer.
use Rattle.std.specs.Prelude.{◌≡◌, ℕ, ◌+◌, ◌≤◌, ◌==◌, if◌then◌else◌, List, slice_index}
use Rattle.std.specs.Ordering.{nat_cmp}
use Rattle.counts.specs.Counts.{count_of}

-- how often the session pins the buffer, by its pins in the buffers' order
abbrev pub pins_of : List (ℕ × ℕ) → ℕ → ℕ
pins_of pins buffer = count_of nat_cmp pins buffer

-- how many sessions pin the buffer, by the counts of the buffers from 0 on
abbrev pub sessions_of : List ℕ → ℕ → ℕ
sessions_of shared buffer = slice_index shared buffer

-- the shared count is at least 1 for each buffer that the session pins
abbrev pub AreShared : List (ℕ × ℕ) → List ℕ → Type 0
AreShared pins shared = (buffer : ℕ) → 1 ≤ pins_of pins buffer → 1 ≤ sessions_of shared buffer

-- the session pins the buffer once more, and every other as often as before
abbrev pub PinsOneMore : List (ℕ × ℕ) → List (ℕ × ℕ) → ℕ → Type 0
PinsOneMore old new buffer = (q : ℕ) → pins_of new q ≡ pins_of old q + (if buffer == q then 1 else 0)

-- the session pins the buffer once less, and every other as often as before
abbrev pub PinsOneLess : List (ℕ × ℕ) → List (ℕ × ℕ) → ℕ → Type 0
PinsOneLess old new buffer = (q : ℕ) → pins_of new q + (if buffer == q then 1 else 0) ≡ pins_of old q
