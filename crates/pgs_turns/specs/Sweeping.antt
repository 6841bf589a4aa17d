-- A sweep: the runs of one script, first with no failing call, and then with one call after the other failing.
use Rattle.std.specs.Prelude.{◌≡◌, ℕ, zero, suc, ◌+◌, ◌-◌, ◌^◌, ◌==◌, min, nat_lt, if◌then◌else◌, List, [], ◌++◌, codes, decimal, Option, Some, None}
use Rattle.pgs_step.specs.declared.events.Event.{Event}
use Rattle.owner_kinds.specs.Kind.{Kind}
use Rattle.reset_callbacks.specs.ShelfState.{ShelfState, held, renewed}
use Rattle.session_rules.specs.HookCounts.{callbacks_of, runs_of}
use Rattle.session_rules.specs.Modes.{most_failing, told_of_run}
use Rattle.session_rules.specs.Transcript.{Course, ended, errors_in}
use Rattle.pgs_turns.specs.Hooks.{HooksAreTold, said_by_all}
use Rattle.pgs_turns.specs.Transcript.{Setting, course_of, kinds_after, shelf_after, transcript}

-- How the run is set up in which call k fails, where k is not 0: the hooks that the run before used are made fresh, and the kinds are as that left them.
unfoldable pub setting_in : ℕ → Setting → List (List ℕ) → Setting
setting_in zero setting lines = record setting { options = record setting.options { fail = 0 } }
setting_in (suc k) setting lines =
    let before = setting_in k setting lines in record {
      options = record setting.options { fail = suc k };
      shelf = renewed (shelf_after before None lines);
      kinds = kinds_after before None lines;
    }

-- that whole run
unfoldable pub course_in : ℕ → Setting → List (List ℕ) → Course
course_in k setting lines = ended (course_of (setting_in k setting lines) None lines)

-- the events of the first runs, so many, one run behind the other
unfoldable pub events_of_runs : ℕ → Setting → List (List ℕ) → List Event
events_of_runs zero setting lines = []
events_of_runs (suc k) setting lines = events_of_runs k setting lines ++ transcript (setting_in k setting lines) None lines

-- the hooks behind them, and the kinds
unfoldable pub shelf_behind : ℕ → Setting → List (List ℕ) → ShelfState
shelf_behind zero setting lines = setting.shelf
shelf_behind (suc k) setting lines = shelf_after (setting_in k setting lines) None lines

unfoldable pub kinds_behind : ℕ → Setting → List (List ℕ) → List Kind
kinds_behind zero setting lines = setting.kinds
kinds_behind (suc k) setting lines = kinds_after (setting_in k setting lines) None lines

-- how many runs a sweep has: one with no failing call, and one for each of the first 2,000 calls that it makes
abbrev pub runs_in : Setting → List (List ℕ) → ℕ
runs_in setting lines = min (course_in 0 setting lines).world.calls most_failing + 1

-- what is told of a run
unfoldable pub told_in : ℕ → Setting → List (List ℕ) → List ℕ
told_in zero setting lines = told_of_run (codes "calls ") (course_in 0 setting lines).world.calls (course_in 0 setting lines)
told_in (suc k) setting lines = told_of_run (codes "fail ") (suc k) (course_in (suc k) setting lines)

-- what is told of the first runs
unfoldable pub told_of_runs : ℕ → Setting → List (List ℕ) → List ℕ
told_of_runs zero setting lines = []
told_of_runs (suc k) setting lines = told_of_runs k setting lines ++ told_in k setting lines

-- how run k is set up where it finds these hooks and kinds
abbrev pub shelf_for : ℕ → ShelfState → ShelfState
shelf_for k shelf = if nat_lt 0 k then renewed shelf else shelf

abbrev pub setting_for_run : ℕ → Setting → ShelfState → List Kind → Setting
setting_for_run k setting shelf kinds = record { options = record setting.options { fail = k }; shelf = shelf_for k shelf; kinds = kinds }

-- what is told of run k with these numbers
abbrev pub run_numbers : ℕ → ℕ → ℕ → List ℕ
run_numbers k calls errors =
    (if k == 0 then codes "calls " ++ decimal calls else codes "fail " ++ decimal k) ++ (codes " errors " ++ (decimal errors ++ codes "\n"))

-- Each hook has run as often more as `callback` events have its word, where a count at the end of its type stands still.
abbrev pub HooksRan : ShelfState → ShelfState → List Event → Type 0
HooksRan before behind events = (word : ℕ) → min (runs_of word (held behind)) (2 ^ 64 - 1) ≡ min (runs_of word (held before) + callbacks_of word (said_by_all events)) (2 ^ 64 - 1)

-- What a run leaves that is set up so, where call w is refused for want of memory, if any: how many ERROR events there were, and what became
-- of hooks and kinds.
pub record LeavesRun (w : Option ℕ) (setting : Setting) (lines : List (List ℕ)) (errors : ℕ) (shelf' : ShelfState) (kinds' : List Kind) : Type 0 where
  pub errors_are : errors ≡ errors_in (transcript setting w lines)
  pub hooks : shelf' ≡ shelf_after setting w lines
  pub hooks_told : HooksAreTold setting.shelf shelf' (transcript setting w lines)
  pub kinds : kinds' ≡ kinds_after setting w lines

-- What the first runs leave, so many: how many ERROR events there were in all of them, and what became of hooks and kinds. The hooks that the
-- last of them registered are spent, and all others are fresh.
pub record LeaveRuns (runs : ℕ) (setting : Setting) (lines : List (List ℕ)) (errors : ℕ) (shelf' : ShelfState) (kinds' : List Kind) : Type 0 where
  pub errors_are : errors ≡ errors_in (events_of_runs runs setting lines)
  pub hooks : shelf' ≡ shelf_behind runs setting lines
  pub hooks_ran : HooksRan setting.shelf shelf' (events_of_runs runs setting lines)
  pub hooks_told : (k : ℕ) → runs ≡ suc k → HooksAreTold (setting_in k setting lines).shelf shelf' (transcript (setting_in k setting lines) None lines)
  pub kinds : kinds' ≡ kinds_behind runs setting lines

-- The same where the run behind them met a want of memory at its call w, which ended the sweep.
pub record LeaveWanted (runs w : ℕ) (setting : Setting) (lines : List (List ℕ)) (errors : ℕ) (shelf' : ShelfState) (kinds' : List Kind) : Type 0 where
  pub errors_are : errors ≡ errors_in (events_of_runs runs setting lines ++ transcript (setting_in runs setting lines) (Some w) lines)
  pub hooks : shelf' ≡ shelf_after (setting_in runs setting lines) (Some w) lines
  pub hooks_ran : HooksRan setting.shelf shelf' (events_of_runs runs setting lines ++ transcript (setting_in runs setting lines) (Some w) lines)
  pub hooks_told : HooksAreTold (setting_in runs setting lines).shelf shelf' (transcript (setting_in runs setting lines) (Some w) lines)
  pub kinds : kinds' ≡ kinds_after (setting_in runs setting lines) (Some w) lines
