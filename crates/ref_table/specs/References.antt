-- Counted references, each to a key of a class.
use Rattle.std.specs.Prelude.{◌≡◌, ℕ, ◌+◌, ◌==◌, ◌&&◌, if◌then◌else◌, List}
use Rattle.std.specs.declared.cmp.Ordering.{Ordering}
use Rattle.std.specs.Ordering.{nat_cmp, ordering_then}
use Rattle.counts.specs.Counts.{count_of}
use Rattle.pgs_step.specs.declared.ids.KindId.{KindId}

-- the order of pairs of class and key: by class, and in a class by key
abbrev pub pair_cmp : ℕ × ℕ → ℕ × ℕ → Ordering
pair_cmp x y = ordering_then (nat_cmp x.0 y.0) (nat_cmp x.1 y.1)

-- how many references to the key of the class are held
abbrev pub references_of : List ((ℕ × ℕ) × ℕ) → KindId → ℕ → ℕ
references_of table class key = count_of pair_cmp table (class.0, key)

-- one more reference to the key of the class of that number is held, and to every other as many as before
abbrev pub RefersOneMore : List ((ℕ × ℕ) × ℕ) → List ((ℕ × ℕ) × ℕ) → ℕ → ℕ → Type 0
RefersOneMore old new class key = (c k : ℕ) → count_of pair_cmp new (c, k) ≡ count_of pair_cmp old (c, k) + (if (class == c) && (key == k) then 1 else 0)

-- one reference less to the key of the class of that number is held, and to every other as many as before
abbrev pub RefersOneLess : List ((ℕ × ℕ) × ℕ) → List ((ℕ × ℕ) × ℕ) → ℕ → ℕ → Type 0
RefersOneLess old new class key = (c k : ℕ) → count_of pair_cmp new (c, k) + (if (class == c) && (key == k) then 1 else 0) ≡ count_of pair_cmp old (c, k)
