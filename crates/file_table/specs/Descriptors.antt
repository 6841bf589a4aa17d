-- Files by their last use.
use Rattle.std.specs.Prelude.{ℕ, ◌-◌, ◌==◌, Bool, if◌then◌else◌, List, [], ◌∷◌, slice_get, Option}
use Rattle.std.specs.List.{list_any}

-- how many descriptors there are, and the files that have one, the most recently used first
pub record Used : Type 0 where
  pub limit : ℕ
  pub recent : List ℕ

-- whether a file is one of these
abbrev pub is_among : ℕ → List ℕ → Bool
is_among file files = list_any (λ other. file == other) files

-- the files but this one
abbrev pub without : ℕ → List ℕ → List ℕ
without file [] = []
without file (other ∷ files) = if file == other then files else other ∷ without file files

-- a file that is one of these goes in front
abbrev pub in_front : ℕ → List ℕ → List ℕ
in_front file files = if is_among file files then file ∷ without file files else files

-- the file that was used least recently, where all descriptors are used
abbrev pub least_recent : Used → Option ℕ
least_recent used = slice_get used.recent (used.limit - 1)
