-- Levels of a transaction as a list, level 1 first.
use Rattle.std.specs.Prelude.{ℕ, ◌+◌, ◌-◌, ◌==◌, Bool, true, false, if◌then◌else◌, List, [], ◌∷◌, drop, slice_get, Option, Some, None}
use Rattle.std.specs.Option.{option_map_or, option_or}
use lib.Pointwise.{pointwise}
use Rattle.subxact_stack.specs.declared.levels.Level.{Level}

-- a level that begins: it has no context and no owner yet
abbrev pub new_level : Option (List ℕ) → Bool → Level
new_level name implicit = record { name = name; context = None; owner = None; implicit = implicit; aborted = false; starting = true }

-- the levels with the deepest one, the last of the list, changed
abbrev pub with_deepest : (Level → Level) → List Level → List Level
with_deepest change [] = []
with_deepest change (level ∷ []) = change level ∷ []
with_deepest change (level ∷ inner ∷ levels) = level ∷ with_deepest change (inner ∷ levels)

-- the level of a number: level 1 is the first of the list
abbrev pub level_at : List Level → ℕ → Option Level
level_at levels n = if n == 0 then None else slice_get levels (n - 1)

-- whether a level has this name
abbrev pub is_named : List ℕ → Level → Bool
is_named name level = option_map_or (pointwise ◌==◌ name) level.name false

-- the number of the deepest of some levels that has this name, where the first of them has the number n
abbrev pub deepest_named_from : ℕ → List ℕ → List Level → Option ℕ
deepest_named_from n name [] = None
deepest_named_from n name (level ∷ levels) = option_or (deepest_named_from (n + 1) name levels) (if is_named name level then Some n else None)

-- the number of the deepest level of at least 2 that has this name
abbrev pub deepest_named : List ℕ → List Level → Option ℕ
deepest_named name levels = deepest_named_from 2 name (drop 1 levels)
