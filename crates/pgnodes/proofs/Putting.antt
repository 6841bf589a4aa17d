-- Rows that are put one after another, and groups that are told.
use Rattle.std.proofs.Common.{◌≡◌, ℕ, ◌+◌, ◌<◌, List, [], ◌∷◌, ◌++◌, length, take, Option, Some, None, IfSome, IfNone, subst, zero, suc, ap, ◌∙◌, arith}
use Rattle.std.proofs.lemmas.Bool.Decides.{nat_tests}
use Rattle.std.proofs.lemmas.List.FromFn.{length-map-range_with_len, get_or-map-range_with_len}
use Rattle.std.proofs.lemmas.Option.{slice_get-get_or}
use Rattle.std.specs.Prelude.{slice_get}
use Rattle.pgnodes.specs.declared.lines.Aggregate.{Aggregate}
use Rattle.pgnodes.specs.Rows.{row_made, rows_made}

pub length-rows_made : (a : Aggregate) → length (rows_made a) ≡ a.rows
length-rows_made a = length-map-range_with_len (row_made a) 0 a.rows

pub row_there : (a : Aggregate) (place : ℕ) → place < a.rows → slice_get (rows_made a) place ≡ Some (row_made a place)
row_there a place within =
    slice_get-get_or (rows_made a) place (row_made a place) (omega (arith, within, length-rows_made a)) ∙ ap Some (get_or-map-range_with_len (row_made a) 0 a.rows place place (row_made a place) within (omega arith))

module _ {X : Type 0} where
  -- one more
  pub take-more : (xs : List X) (place : ℕ) (x : X) → slice_get xs place ≡ Some x → (take (place + 1) xs ≡ take place xs ++ x ∷ []) × (place < length xs)
  take-more [] place x is = absurd (cc is)
  take-more (y ∷ xs) zero x is = grind (arith, nat_tests)
  take-more (y ∷ xs) (suc place) x is = grind (arith, nat_tests, take-more xs place x)

  -- what holds of what is there
  pub from_some : (o : Option X) (x : X) (P : X → Type 0) → o ≡ Some x → IfSome o P → P x
  from_some o x P is has = subst (λ (p : Option X). IfSome p P) is has

  pub from_none : (o : Option X) (P : Type 0) → o ≡ None → IfNone o P → P
  from_none o P is has = subst (λ (p : Option X). IfNone p P) is has
