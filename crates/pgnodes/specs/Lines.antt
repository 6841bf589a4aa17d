-- The lines of a script of aggregates.
use Rattle.std.specs.Prelude.{◌≡◌, ◌⊎◌, ◌≤◌, ℕ, List, [], ◌∷◌, ◌++◌, codes, ⊤}
use Rattle.std.specs.Fmt.{decimal}
use Rattle.pgnodes.specs.declared.lines.TheConstants.{MOST_OBJECT, MOST_ROWS, LEAST_GROUPS, MOST_GROUPS, LEAST_BUDGET, MOST_BUDGET}
use Rattle.pgnodes.specs.declared.lines.Aggregate.{Aggregate}
use Rattle.pgnodes.specs.declared.lines.Asked.{Asked}
use Rattle.pgnodes.specs.declared.lines.Asked.TheVariants.{Nothing, Aggregate as Asks, Bad}

abbrev pub space : ℕ
space = 32

-- a word, and what stands behind the space at its end
abbrev pub spaced : List ℕ → List ℕ → List ℕ
spaced word behind = word ++ space ∷ behind

-- the line that writes an aggregate: `agg OBJECT ROWS GROUPS BUDGET`
abbrev pub written : Aggregate → List ℕ
written a = spaced (codes "agg") (spaced (decimal a.object) (spaced (decimal a.rows) (spaced (decimal a.groups) (decimal a.budget))))

pub record IsInRange (a : Aggregate) : Type 0 where
  pub object : a.object ≤ MOST_OBJECT
  pub rows : a.rows ≤ MOST_ROWS
  pub some_groups : LEAST_GROUPS ≤ a.groups
  pub groups : a.groups ≤ MOST_GROUPS
  pub some_budget : LEAST_BUDGET ≤ a.budget
  pub budget : a.budget ≤ MOST_BUDGET

-- the line asks for this aggregate
pub record AsksFor (line : List ℕ) (a : Aggregate) : Type 0 where
  pub line_is : line ≡ written a
  pub in_range : IsInRange a

-- the line is empty, or a comment, which begins with `#`
abbrev pub IsSkipped : List ℕ → Type 0
IsSkipped line = (line ≡ []) ⊎ ((rest : List ℕ) × (line ≡ 35 ∷ rest))

-- the fact of the aggregate, where there is one
abbrev pub IfAggregate : Asked → (Aggregate → Type 0) → Type 0
IfAggregate Nothing P = ⊤
IfAggregate (Asks a) P = P a
IfAggregate Bad P = ⊤

-- the fact, where the line is bad
abbrev pub IfBad : Asked → Type 0 → Type 0
IfBad Nothing P = ⊤
IfBad (Asks a) P = ⊤
IfBad Bad P = P
