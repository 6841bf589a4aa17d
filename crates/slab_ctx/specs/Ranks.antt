-- Keys by their ranks.
use Rattle.std.specs.Prelude.{◌≡◌, ℕ, ◌<◌, ◌≤◌, ◌==◌, nat_eq, if◌then◌else◌, List, Option, Some, None, option_map, slice_get, length}
use Rattle.std.specs.Map.{lookup, keys_of}
use Rattle.std.specs.List.{IsDistinct}
use Rattle.indexmap.specs.IndexMap.{spare}
use Rattle.slab_ctx.specs.declared.tree.Rank.{Rank}
use Rattle.slab_ctx.specs.declared.tree.Entry.{Entry}
use Rattle.slab_ctx.specs.declared.ranks.Ranks.{Ranks}
use Rattle.slab_ctx.specs.Tree.{IsTree, leaf}

-- the rank of a key
abbrev pub rank_at : List (ℕ × Rank) → ℕ → Option Rank
rank_at es key = lookup (λ n. key == n) es

-- the entry at a place
abbrev pub entry_of : ℕ × Rank → Entry
entry_of e = record { key = e.0; rank = e.1 }

abbrev pub entry_in : List (ℕ × Rank) → ℕ → Option Entry
entry_in es p = option_map entry_of (slice_get es p)

-- the entry at the current place, where there is one
abbrev pub current_in : Option ℕ → List (ℕ × Rank) → Option Entry
current_in None es = None
current_in (Some c) es = entry_in es c

-- what the tree has at a place: nothing of the current one
abbrev pub leaf_in : Option ℕ → List (ℕ × Rank) → ℕ → Option Entry
leaf_in None es p = entry_in es p
leaf_in (Some c) es p = if c == p then None else entry_in es p

-- there is an entry at the current place
abbrev pub IsWithin : Option ℕ → ℕ → Type 0
IsWithin None len = Unit {0}
IsWithin (Some c) len = c < len

-- each entry but the current one stands at its place of the tree
pub record IsRanked (r : Ranks) : Type 0 where
  pub tree : IsTree r.tree
  pub few : length r.entries.entries ≤ r.tree.places
  pub leaf : (p : ℕ) → p < r.tree.places → leaf r.tree p ≡ leaf_in r.current r.entries.entries p
  pub current : IsWithin r.current (length r.entries.entries)
  pub distinct : IsDistinct nat_eq (keys_of r.entries.entries)

-- there is room for one more key
pub record HasRoom (r : Ranks) : Type 0 where
  pub spare : 0 < spare r.entries
  pub places : length r.entries.entries < r.tree.places
