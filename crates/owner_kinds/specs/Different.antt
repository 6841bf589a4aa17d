-- Names that differ.
use Rattle.std.specs.Prelude.{◌≢◌, ℕ, List, [], ◌∷◌, All}
use Rattle.std.specs.Coded.{Unit-prop}
use Rattle.std.proofs.Props.{props}

-- the names all differ
abbrev pub AreDifferent : List (List ℕ) → Type 0
AreDifferent [] = Unit {0}
AreDifferent (name ∷ names) = All (λ other. other ≢ name) names × AreDifferent names

pub AreDifferent-prop : (names : List (List ℕ)) → IsProp (AreDifferent names)
AreDifferent-prop [] = Unit-prop
AreDifferent-prop (name ∷ names) = hlevel (props, AreDifferent-prop names)
