-- The steps of a sweep: its script is read, and runs are played and told one after the other.
use Rattle.std.specs.Prelude.{◌≡◌, ℕ, zero, suc, ◌+◌, ◌<◌, ◌≤◌, true, false, min, if◌then◌else◌, List, [], ◌∷◌, ◌++◌, length, Option, Some, None}
use Rattle.std.specs.Io.KnownBytes.{append_known}
use Rattle.addr_space.specs.Space.{Space, accounts, held, taken}
use Rattle.owner_kinds.specs.Kind.{Kind}
use Rattle.pgs_io.specs.Faults.{HasRisen}
use Rattle.reset_callbacks.specs.ShelfState.{ShelfState}
use Rattle.session_rules.specs.Modes.{most_failing}
use Rattle.session_rules.specs.Transcript.{ended}
use Rattle.pgs_turns.specs.Sweeping.{LeaveRuns, LeavesRun, course_in, told_of_runs}
use Rattle.pgs_turns.specs.Transcript.{Setting, course_of, EndsAt}
use Rattle.pgs_turns.specs.World.{AreKept}
use Rattle.pgs_world.specs.declared.sweeping.Ran.{Ran}
use Rattle.pgs_world.specs.declared.whole_script.Unread.{Unread}
use Rattle.pgs_world.specs.declared.whole_script.Unread.TheVariants as unread
use Rattle.pgs_world.specs.Lawful.{KeepLaws, RunsKeepLaws}
use Rattle.pgs_world.specs.Outcome.{HasGiven, IsSharedOut}
use Rattle.pgs_world.specs.Sweep.{most_swept}

-- a source gave the most bytes that a script has which is swept, and one more
pub record GivesMore (left left' : Option (List ℕ)) : Type 0 where
  pub bytes : List ℕ
  pub over : ℕ
  pub given : HasGiven (bytes ++ over ∷ []) left left'
  pub full : length bytes ≡ most_swept

-- what a source did that gave no whole script
abbrev pub IsUnread : Unread → Option (List ℕ) → Option (List ℕ) → ℕ → ℕ → Type 0
IsUnread unread.Fault left left' faults faults' = HasRisen faults faults'
IsUnread unread.TooLong left left' faults faults' = (faults' ≡ faults) × GivesMore left left'

-- the call that was refused in a run, if one was
abbrev pub refused_in : Ran → Option ℕ
refused_in ran = if ran.wanted then Some ran.calls else None

-- What a run left that was set up so.
pub record HasRun (setting : Setting) (lines : List (List ℕ)) (ran : Ran) (shelf' : ShelfState) (kinds' : List Kind) : Type 0 where
  pub leaves : LeavesRun (refused_in ran) setting lines ran.errors shelf' kinds'
  pub calls_are : ran.wanted ≡ false → ran.calls ≡ (ended (course_of setting None lines)).world.calls
  pub called : ran.wanted ≡ true → 0 < ran.calls
  pub stopped : ran.wanted ≡ true → (line : ℕ) × EndsAt setting ran.calls lines line

-- A run of so many sessions that had started is over.
pub record EndsRun (sessions : ℕ) (setting : Setting) (lines : List (List ℕ)) (ran : Ran) (shelf' : ShelfState) (kinds' : List Kind) (s t : Space) : Type 0 where
  pub run : HasRun setting lines ran shelf' kinds'
  pub given_back : (account : ℕ) → account < sessions → held t account ≡ 0
  pub others : (account : ℕ) → sessions ≤ account → held t account ≡ held s account
  pub accounts_are : accounts t ≡ accounts s
  pub kinds_kept : AreKept setting.kinds kinds'
  pub limit : t.limit ≡ s.limit
  pub took : (account : ℕ) → sessions ≤ account → taken t account ≡ taken s account

-- A run was played from its start to its end.
pub record RunsOnce (setting : Setting) (lines : List (List ℕ)) (ran : Ran) (shelf' : ShelfState) (kinds' : List Kind) (s t : Space) : Type 0 where
  pub run : HasRun setting lines ran shelf' kinds'
  pub laws : KeepLaws setting
  pub given_back : (account : ℕ) → held t account ≡ 0
  pub accounts_are : accounts t ≡ accounts s
  pub kinds_kept : AreKept setting.kinds kinds'
  pub shared_out : IsSharedOut setting.options.sessions setting.options.space s t

-- there was no memory for a run
pub record IsUnplayed (shelf shelf' : ShelfState) (kinds kinds' : List Kind) (s t : Space) : Type 0 where
  pub hooks : shelf' ≡ shelf
  pub kinds_are : kinds' ≡ kinds
  pub given_back : (account : ℕ) → held t account ≡ 0
  pub accounts_are : accounts t ≡ accounts s

-- The first runs of a sweep were played and told, so many.
pub record Stands (runs : ℕ) (setting : Setting) (lines : List (List ℕ)) (errors : ℕ) (written written' : Option (List ℕ)) (shelf' : ShelfState) (kinds' : List Kind) (s t : Space) : Type 0 where
  pub text : written' ≡ append_known written (told_of_runs runs setting lines)
  pub leaves : LeaveRuns runs setting lines errors shelf' kinds'
  pub lawful : RunsKeepLaws runs setting lines
  pub given_back : (account : ℕ) → held t account ≡ 0
  pub accounts_are : accounts t ≡ accounts s
  pub kinds_kept : AreKept setting.kinds kinds'
  pub took : (account : ℕ) → setting.options.sessions ≤ account → taken t account ≡ taken s account
  pub limit : 0 < runs → t.limit ≡ setting.options.space

-- the last call that fails, as far as it is known behind so many runs
abbrev pub last_known : ℕ → Setting → List (List ℕ) → ℕ
last_known zero setting lines = 0
last_known (suc k) setting lines = min (course_in 0 setting lines).world.calls most_failing
