-- What is told of a run that is over.
use Rattle.pgs_turns.proofs.Base.{nat_tests, ◌≡◌, ℕ, zero, suc, ◌∷◌, ◌*◌, ◌^◌, ◌<◌, ◌≤◌, min, Bool, true, false, not, List, [], length, take, Option, None, refl, sym, ◌∙◌, ap, subst, arith, take_all}
use Rattle.pgs_turns.proofs.Words.{generated, made_script, most_counted, numbers, summary, whole_run, Course, ended, errors_in, transcript_by, IsOver, course_of, transcript, Run, setting_of, Counter, TakesEvents}
use Rattle.std.specs.Io.KnownBytes.{append_known}
use Rattle.pgs_turns.specs.Turns.{Fits}
use Rattle.pgs_turns.proofs.CountedLemmas.{counted_over}
use Rattle.pgs_turns.proofs.OverLemmas.{fits_none}
use Rattle.pgs_turns.specs.Generating.{IsFront, Tells, text_for}
use Rattle.pgs_turns.proofs.MadeLemmas.{made_length}

-- not all of the script has more lines than were made
pub few_lines : (n k : ℕ) → k ≤ 13 * n → length (take k (made_script n)) ≡ k
few_lines n k within = taken (made_script n) k (omega (arith, within, made_length n))
  where
    taken : {A : Type 0} (xs : List A) (k : ℕ) → k ≤ length xs → length (take k xs) ≡ k
    taken xs zero less = refl
    taken [] (suc k) less = absurd (omega (arith, less))
    taken (x ∷ xs) (suc k) less = ap suc (taken xs k (omega (arith, less)))

pub all_lines : (n k : ℕ) → k ≡ 13 * n → take k (made_script n) ≡ made_script n
all_lines n k whole = ap (λ (j : ℕ). take j (made_script n)) (whole ∙ sym (made_length n)) ∙ take_all (length (made_script n)) (made_script n) (omega arith)

module _ (descriptors : ℕ) (first last : Run) (rounds k : ℕ) (wanted : Bool) (none counter : Counter) (no_events : none.events ≡ 0) (no_errors : none.errors ≡ 0) (small : counter.errors < 2 ^ 64) (fits : counter.events < 2 ^ 64)
    (within : k ≤ 13 * rounds) (few : rounds ≤ 10000)
    (over : IsOver descriptors first last (λ events. TakesEvents none events counter) (take k (made_script rounds)) wanted) where
  few_taken : length (take k (made_script rounds)) ≤ 2 ^ 24
  few_taken = omega (arith, few_lines rounds k within, within, few)

  abbrev Counts : Type 0
  Counts = IsOver descriptors first last (λ events. counter.errors ≡ errors_in events) (take k (made_script rounds)) wanted

  counts : Counts
  counts = counted_over descriptors first last (take k (made_script rounds)) wanted none counter counter.errors no_errors refl small few_taken over

  -- its numbers are those of the run, where no line met a want of memory
  pub numbers_told : wanted ≡ false → k ≡ 13 * rounds → numbers k counter.events counter.errors last.calls.count ≡ text_for rounds (setting_of descriptors first)
  unfolding generated whole_run transcript transcript_by course_of
  numbers_told goes whole =
      let f : Fits wanted last.calls.count None = fits_none wanted last.calls.count goes in
      let lines : take k (made_script rounds) ≡ made_script rounds = all_lines rounds k whole in
      let course : Course = ended (course_of (setting_of descriptors first) None (take k (made_script rounds))) in
      let events : counter.events ≡ min (length course.events) most_counted = omega (arith, (over.emits None f).counted, no_events, fits) in
      let performed : k ≡ course.performed = sym (over.performed None f ∙ few_lines rounds k within) in
      ap (λ (n : ℕ). numbers n counter.events counter.errors last.calls.count) performed
      ∙ ap (λ (n : ℕ). numbers course.performed n counter.errors last.calls.count) events
      ∙ ap (λ (n : ℕ). numbers course.performed (min (length course.events) most_counted) n last.calls.count) (counts.emits None f)
      ∙ ap (λ (n : ℕ). numbers course.performed (min (length course.events) most_counted) (errors_in course.events) n) (sym (over.calls None f))
      ∙ ap (λ (all : List (List ℕ)). summary (ended (course_of (setting_of descriptors first) None all))) lines

  apart : (b : Bool) → b ≡ true → b ≡ false → ⊥
  apart x0 h k = grind (arith, nat_tests)

  unturned : (b : Bool) → not b ≡ true → b ≡ false
  unturned x0 h = grind (arith, nat_tests)

  -- all of it was written, or a front
  pub written_tells : wanted ≡ false → k ≡ 13 * rounds → (events errors : ℕ) → events ≡ counter.events → errors ≡ counter.errors → (done : Bool) (w w' : Option (List ℕ))
      → (done ≡ true → w' ≡ append_known w (numbers k events errors last.calls.count)) → (done ≡ false → IsFront (numbers k events errors last.calls.count) w w')
      → Tells descriptors first last rounds (record { lines = k; errors = errors; wanted = wanted; failed = not done }) w w'
  written_tells goes whole events errors events_are errors_are done w w' all front = grind (arith, nat_tests, counts, unturned, apart, numbers, numbers_told)

  -- where a line met a want of memory, nothing was
  pub silent_tells : wanted ≡ true → (errors : ℕ) → errors ≡ counter.errors → (w : Option (List ℕ)) → Tells descriptors first last rounds (record { lines = k; errors = errors; wanted = wanted; failed = not wanted }) w w
  silent_tells stops errors errors_are w = record {
    over = subst (λ (n : ℕ). IsOver descriptors first last (λ es. n ≡ errors_in es) (take k (made_script rounds)) wanted) (sym errors_are) counts;
    lines = within;
    whole = λ h. absurd (apart wanted stops h);
    text = λ h f. absurd (apart wanted stops h);
    front = λ f. absurd (apart wanted stops (unturned wanted f));
    failed = λ f. unturned wanted f;
    silent = λ h. refl;
  }
