-- The runs of a sweep, one behind the other.
use Rattle.pgs_turns.proofs.Base.{◌≡◌, ℕ, zero, suc, ◌+◌, ◌*◌, ◌≤◌, min, true, false, List, ◌++◌, length, Some, None, refl, sym, ◌∙◌, ap, subst, arith, append_assoc, append-nil, ◌==◌, nat_lt, nat_tests, map-append}
use Rattle.pgs_turns.proofs.Words.{Event, Kind, ShelfState, held, renewed, callbacks_of, runs_of, failing_runs, most_failing, swept, whole_run, ended, errors_in, transcript_by, callbacks_both, errors_in-append, HooksAreTold, said_by_all, HooksRan, LeaveRuns, LeaveWanted, LeavesRun, course_in, events_of_runs, kinds_behind, run_numbers, runs_in, setting_for_run, setting_in, shelf_behind, shelf_for, told_in, told_of_runs, Setting, course_of, kinds_after, shelf_after, transcript}
use Rattle.std.proofs.lemmas.List.Sorted.{sum_by-IsPermutation}
use Rattle.reset_callbacks.proofs.ShelfSteps.{renewed-permutes}
use Rattle.pgs_turns.proofs.ErrorLemmas.{few_errors}

-- a run behind the first one is told from it
is_later : (k : ℕ) → nat_lt 0 (suc k) ≡ true
is_later k = grind (arith, nat_tests)

is_not_first : (k : ℕ) → (suc k == 0) ≡ false
is_not_first k = grind (arith, nat_tests)

-- run k is set up so where it finds what the runs before it left
pub setting_found : (k : ℕ) (setting : Setting) (lines : List (List ℕ)) (shelf : ShelfState) (kinds : List Kind) → shelf ≡ shelf_behind k setting lines → kinds ≡ kinds_behind k setting lines
    → setting_for_run k setting shelf kinds ≡ setting_in k setting lines
unfolding setting_in shelf_behind kinds_behind
setting_found x0 setting lines shelf kinds hooks kinds_are = grind (arith, nat_tests, is_later)

-- What is told of the runs one by one is what the rules tell of the sweep.
told_on : (more k : ℕ) (setting : Setting) (lines : List (List ℕ))
    → told_of_runs (suc k) setting lines ++ failing_runs more (suc k) setting.options (kinds_behind (suc k) setting lines) (renewed (shelf_behind (suc k) setting lines)) lines ≡ told_of_runs (suc k + more) setting lines
unfolding told_of_runs told_in course_in setting_in shelf_behind kinds_behind shelf_after kinds_after course_of whole_run
told_on zero k setting lines = let same : suc k ≡ suc k + 0 = omega arith in append-nil (told_of_runs (suc k) setting lines) ∙ ap (λ (n : ℕ). told_of_runs n setting lines) same
told_on (suc more) k setting lines =
    let next : suc k + 1 ≡ suc (suc k) = omega arith in
    let same : suc (suc k) + more ≡ suc k + suc more = omega arith in
    let rest : ℕ → List ℕ = λ (n : ℕ). failing_runs more n setting.options (kinds_behind (suc (suc k)) setting lines) (renewed (shelf_behind (suc (suc k)) setting lines)) lines in
    ap (λ (n : ℕ). told_of_runs (suc k) setting lines ++ (told_in (suc k) setting lines ++ rest n)) next
    ∙ sym (append_assoc (told_of_runs (suc k) setting lines) (told_in (suc k) setting lines) (rest (suc (suc k))))
    ∙ told_on more (suc k) setting lines
    ∙ ap (λ (n : ℕ). told_of_runs n setting lines) same

pub all_told : (setting : Setting) (lines : List (List ℕ)) → told_of_runs (runs_in setting lines) setting lines ≡ swept setting.options setting.kinds setting.shelf lines
unfolding told_of_runs told_in course_in setting_in shelf_behind kinds_behind shelf_after kinds_after course_of whole_run swept
all_told setting lines =
    let count : ℕ = min (course_in 0 setting lines).world.calls most_failing in
    let same : count + 1 ≡ 1 + count = omega arith in
    ap (λ (n : ℕ). told_of_runs n setting lines) same ∙ sym (told_on count 0 setting lines)

-- what is told of a run has its numbers
pub numbers_in : (k : ℕ) (setting : Setting) (lines : List (List ℕ)) (calls errors : ℕ) → calls ≡ (ended (course_of (setting_in k setting lines) None lines)).world.calls → errors ≡ errors_in (transcript (setting_in k setting lines) None lines)
    → run_numbers k calls errors ≡ told_in k setting lines
unfolding told_in course_in transcript transcript_by course_of
numbers_in x0 setting lines calls errors of_calls of_errors = grind (arith, nat_tests, is_not_first)

-- how many calls the first run makes
pub first_calls : (setting : Setting) (lines : List (List ℕ)) → (ended (course_of (setting_in 0 setting lines) None lines)).world.calls ≡ (course_in 0 setting lines).world.calls
unfolding course_in
first_calls setting lines = refl

-- no more ERROR events than lines, in each run
pub few_in_runs : (k : ℕ) (setting : Setting) (lines : List (List ℕ)) → length lines ≤ 65536 → errors_in (events_of_runs k setting lines) ≤ k * 65536
unfolding events_of_runs
few_in_runs zero setting lines few = omega arith
few_in_runs (suc k) setting lines few =
    omega (
      arith,
      errors_in-append (events_of_runs k setting lines) (transcript (setting_in k setting lines) None lines),
      few_in_runs k setting lines few,
      few_errors (setting_in k setting lines) None lines,
      few,
    )

-- to make hooks fresh changes no count of theirs
found_runs : (k word : ℕ) (shelf : ShelfState) → runs_of word (held (shelf_for k shelf)) ≡ runs_of word (held shelf)
found_runs x0 word shelf = grind (arith, nat_tests, is_later, sum_by-IsPermutation, held shelf, held (renewed shelf), renewed-permutes shelf)

-- No run leaves hooks and kinds as they are.
pub leave_none : (setting : Setting) (lines : List (List ℕ)) → LeaveRuns 0 setting lines 0 setting.shelf setting.kinds
unfolding events_of_runs shelf_behind kinds_behind
leave_none setting lines = grind (arith, nat_tests)

-- One run more, behind those that left this.
module _ (k : ℕ) (setting : Setting) (lines : List (List ℕ)) (errors more : ℕ) (shelf shelf' : ShelfState) (kinds kinds' : List Kind) (left : LeaveRuns k setting lines errors shelf kinds) where
  abbrev there : Setting
  there = setting_in k setting lines

  shelf_is : there.shelf ≡ shelf_for k shelf
  shelf_is = ap (λ (x : Setting). x.shelf) (sym (setting_found k setting lines shelf kinds left.hooks left.kinds))

  ran_on : (events : List Event) → HooksAreTold there.shelf shelf' events → HooksRan setting.shelf shelf' (events_of_runs k setting lines ++ events)
  ran_on events told word =
      let both : said_by_all (events_of_runs k setting lines ++ events) ≡ said_by_all (events_of_runs k setting lines) ++ said_by_all events = map-append (λ (event : Event). event.what) (events_of_runs k setting lines) events in
      omega (
        arith,
        left.hooks_ran word,
        told.runs word,
        ap (λ (x : ShelfState). runs_of word (held x)) shelf_is,
        found_runs k word shelf,
        ap (callbacks_of word) both,
        callbacks_both word (said_by_all (events_of_runs k setting lines)) (said_by_all events),
      )

  pub leave_more : LeavesRun None there lines more shelf' kinds' → LeaveRuns (suc k) setting lines (errors + more) shelf' kinds'
  unfolding events_of_runs shelf_behind kinds_behind
  leave_more run = record {
    errors_are = omega (arith, left.errors_are, run.errors_are, errors_in-append (events_of_runs k setting lines) (transcript there None lines));
    hooks = run.hooks;
    hooks_ran = ran_on (transcript there None lines) run.hooks_told;
    hooks_told = λ j same. let k_is : k ≡ j = omega (arith, same) in subst (λ (n : ℕ). HooksAreTold (setting_in n setting lines).shelf shelf' (transcript (setting_in n setting lines) None lines)) k_is run.hooks_told;
    kinds = run.kinds;
  }

  pub leave_wanted : (w : ℕ) → LeavesRun (Some w) there lines more shelf' kinds' → LeaveWanted k w setting lines (errors + more) shelf' kinds'
  leave_wanted w run = record {
    errors_are = omega (arith, left.errors_are, run.errors_are, errors_in-append (events_of_runs k setting lines) (transcript there (Some w) lines));
    hooks = run.hooks;
    hooks_ran = ran_on (transcript there (Some w) lines) run.hooks_told;
    hooks_told = run.hooks_told;
    kinds = run.kinds;
  }
