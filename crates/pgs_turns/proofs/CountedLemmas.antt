-- The lines of a script that are performed one after the other, while a counter counts their events; and what it has counted in the end.
use Rattle.pgs_turns.proofs.Base.{nat_tests, ◌≡◌, ℕ, zero, suc, ◌+◌, ◌^◌, ◌<◌, ◌≤◌, Bool, false, List, [], ◌∷◌, ◌++◌, length, take, Option, Some, sym, ◌∙◌, ap, subst, arith, slice_get}
use Rattle.pgs_turns.proofs.Words.{read_line, errors_in, Counter, TakesEvents, TakesEvents-both, HasPerformed, IsOver, said_in, transcript, AllExit, TakesTurn, IsOpening, Run, setting_of}
use Rattle.pgs_turns.specs.Turns.{Fits}
use Rattle.pgs_turns.proofs.ErrorLemmas.{few_errors}
use Rattle.pgs_turns.proofs.OverLemmas.{run_over}
use Rattle.pgs_turns.proofs.PlayLemmas.{performed_line}

-- one more
pub take_more : {A : Type 0} (xs : List A) (k : ℕ) (x : A) → slice_get xs k ≡ Some x → take k xs ++ x ∷ [] ≡ take (suc k) xs
take_more [] k x there = absurd (cc there)
take_more {A = A} (y ∷ ys) zero x there = let same : y ≡ x = cc there in ap (λ (z : A). z ∷ []) (sym same)
take_more {A = A} (y ∷ ys) (suc k) x there = ap (λ (zs : List A). y ∷ zs) (take_more ys k x there)

-- one line more of the script
pub line_turn : (descriptors : ℕ) (first old new : Run) (a b c : Counter) (script : List (List ℕ)) (place : ℕ) (line : List ℕ) (wanted : Bool)
    → HasPerformed descriptors first old (λ events. TakesEvents a events b) (take place script) false → slice_get script place ≡ Some line
    → TakesTurn (said_in (read_line line)) old new (λ events. TakesEvents b events c) wanted
    → HasPerformed descriptors first new (λ events. TakesEvents a events c) (take (place + 1) script) wanted
line_turn descriptors first old new a b c script place line wanted s there t =
    let next_place : suc place ≡ place + 1 = omega arith in
    let next : take place script ++ line ∷ [] ≡ take (place + 1) script = take_more script place line there ∙ ap (λ (k : ℕ). take k script) next_place in
    subst (λ (lines : List (List ℕ)). HasPerformed descriptors first new (λ events. TakesEvents a events c) lines wanted) next
    (performed_line descriptors first old new (λ events. TakesEvents a events b) (λ events. TakesEvents b events c) (λ events. TakesEvents a events c) (take place script) line wanted s t
    (λ xs ys p q. TakesEvents-both a b c xs ys p q))

-- behind the ends of all sessions
pub lines_over : (descriptors : ℕ) (first behind last : Run) (a b c : Counter) (lines : List (List ℕ)) (wanted : Bool) → IsOpening first → HasPerformed descriptors first behind (λ events. TakesEvents a events b) lines wanted
    → AllExit behind last (λ events. TakesEvents b events c) → IsOver descriptors first last (λ events. TakesEvents a events c) lines wanted
lines_over descriptors first behind last a b c lines wanted opens performed ends =
    run_over descriptors first behind last (λ events. TakesEvents a events b) (λ events. TakesEvents b events c) (λ events. TakesEvents a events c) lines wanted opens performed ends (λ xs ys p q. TakesEvents-both a b c xs ys p q)

-- A counter that began with no error counts the ERROR events.
module _ (descriptors : ℕ) (first last : Run) (lines : List (List ℕ)) (wanted : Bool) (none counter : Counter) (errors : ℕ) (no_errors : none.errors ≡ 0) (errors_are : errors ≡ counter.errors) (small : errors < 2 ^ 64)
    (few : length lines ≤ 2 ^ 24) (over : IsOver descriptors first last (λ events. TakesEvents none events counter) lines wanted) where
  counted_errors : (w : Option ℕ) → Fits wanted last.calls.count w → errors ≡ errors_in (transcript (setting_of descriptors first) w lines)
  counted_errors w f = omega (arith, (over.emits w f).errors_are, no_errors, errors_are, small, few_errors (setting_of descriptors first) w lines, few)

  pub counted_over : IsOver descriptors first last (λ events. errors ≡ errors_in events) lines wanted
  counted_over = grind (arith, nat_tests, counted_errors)
