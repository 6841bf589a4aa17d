-- The outcome of the script that is made, from what its run told.
use Rattle.pgs_world.proofs.Base.{nat_tests, ◌≡◌, ℕ, zero, suc, ◌<◌, Bool, true, false, List, [], ◌∷◌, ◌++◌, length, take, Option, Some, None, ◌⊎◌, refl, sym, ◌∙◌, ap, subst, arith, nat_lt, if◌then◌else◌}
use Rattle.pgs_world.proofs.Words.{HasRisen, made_script, Course, errors_in, TakesLines, Setting, course_of, transcript, EndsAt, Run, setting_of, course_of-stopped, Tells, Outcome, generated_outcome, LeavesRun, EndsMade, Generates, outside}
use Rattle.pgs_turns.proofs.ToldLemmas.{all_lines, few_lines}
use Rattle.pgs_world.specs.Generated.{IsMade, IsStopped, IsTranscript}
use Rattle.pgs_world.proofs.EndingLemmas.{left_stopped, no_other, not_by_errors, status_one}

-- all of a list, from its front on
rest_of : {A : Type 0} (k : ℕ) (xs : List A) → (more : List A) × (take k xs ++ more ≡ xs)
rest_of zero xs = (xs, refl)
rest_of (suc k) [] = ([], refl)
rest_of {A = A} (suc k) (x ∷ xs) = let r = rest_of k xs in (r.0, ap (λ (ys : List A). x ∷ ys) r.1)

made_by_errors : (errors : ℕ) → IsMade (if nat_lt 0 errors then 1 else 0)
made_by_errors errors = grind (arith, nat_tests)

module _ (descriptors : ℕ) (first last : Run) (rounds lines errors : ℕ) (w w' : Option (List ℕ)) (faults faults' : ℕ) where
  abbrev setting : Setting
  setting = setting_of descriptors first

  abbrev Told : Bool → Bool → Type 0
  Told wanted failed = Tells descriptors first last rounds (record { lines = lines; errors = errors; wanted = wanted; failed = failed }) w w'

  abbrev outcome : Bool → Bool → Outcome
  outcome wanted failed = generated_outcome (record { lines = lines; errors = errors; wanted = wanted; failed = failed }) last.calls.count

  -- where all lines were performed
  whole_told : (failed : Bool) → Told false failed → IsTranscript rounds None setting (outcome false failed) last.shelf last.commons.kinds
  whole_told failed t = grind (arith, nat_tests, all_lines rounds lines (t.whole refl), t.whole refl, t.over.emits None tt, t.over.shelf None tt, t.over.told None tt, t.over.kinds None tt)

  -- where the last one met a want of memory
  stopped_told : Told true false → IsStopped rounds setting (outcome true false) w w' last.shelf last.commons.kinds
  stopped_told t =
      let n : ℕ = last.calls.count in
      let front : List (List ℕ) = take lines (made_script rounds) in
      let rest = rest_of lines (made_script rounds) in
      let at : EndsAt setting n front (length front) = t.over.stopped refl in
      let course : course_of setting (Some n) (made_script rounds) ≡ course_of setting (Some n) front = ap (course_of setting (Some n)) (sym rest.1) ∙ course_of-stopped setting (Some n) front rest.0 at.wanted in
      record {
        defined = record { wanted = ap (λ (c : Course). c.wanted) course ∙ at.wanted; line_is = ap (λ (c : Course). c.performed) course ∙ at.line_is ∙ few_lines rounds lines t.lines };
        silent = t.silent refl;
        told = subst (λ (ls : List (List ℕ)). LeavesRun (Some n) setting ls errors last.shelf last.commons.kinds) rest.1
            (left_stopped setting n front rest.0 errors last.shelf last.commons.kinds at.wanted
            (record { errors_are = t.over.emits (Some n) refl; hooks = t.over.shelf (Some n) refl; hooks_told = t.over.told (Some n) refl; kinds = t.over.kinds (Some n) refl }));
      }

  module _ (left : Option (List ℕ)) (source_faults : ℕ) where
    abbrev Made : Bool → Bool → Type 0
    Made wanted failed = Generates rounds setting (outcome wanted failed) (outside left source_faults w faults first.shelf first.commons.kinds) (outside left source_faults w' faults' last.shelf last.commons.kinds)

    generates : (wanted failed : Bool) → Told wanted failed → (failed ≡ true → HasRisen faults faults') → (failed ≡ false → faults' ≡ faults) → Made wanted failed
    generates false false t risen same = grind (arith, nat_tests, t.whole, t.text, whole_told false t, status_one errors (errors_in (transcript setting None (made_script rounds))) (whole_told false t).errors_are, not_by_errors, made_by_errors errors)
    generates false true t risen same = grind (arith, nat_tests, no_other, t.whole, t.front refl, whole_told true t)
    generates true false t risen same = grind (arith, nat_tests, no_other, stopped_told t)
    generates true true t risen same = absurd (let turned : true ≡ false = t.failed refl in cc turned)

    called_of : (wanted failed : Bool) → Told wanted failed → (outcome wanted failed).status ≡ 5 → 0 < (outcome wanted failed).call
    called_of x0 x1 t h = grind (arith, nat_tests, t.over.called, not_by_errors)

    taken_of : (wanted failed : Bool) → Told wanted failed → ((outcome wanted failed).status ≡ 0) ⊎ ((outcome wanted failed).status ≡ 1) → TakesLines setting (made_script rounds) first.space last.space
    taken_of x0 x1 t h = grind (arith, nat_tests, all_lines, t.whole, t.over.taken, no_other)

    pub ends_made : (wanted failed : Bool) → Told wanted failed → (failed ≡ true → HasRisen faults faults') → (failed ≡ false → faults' ≡ faults)
        → EndsMade rounds (length first.stores) setting (outcome wanted failed) (outside left source_faults w faults first.shelf first.commons.kinds) (outside left source_faults w' faults' last.shelf last.commons.kinds) first.space last.space
    ends_made wanted failed t risen same = record {
      generates = generates wanted failed t risen same;
      taken = taken_of wanted failed t;
      leaves = grind (arith, nat_tests, called_of wanted failed t, t.over.given_back, t.over.same.others, t.over.same.accounts, t.over.kept, t.over.same.limit, t.over.same.took);
    }
