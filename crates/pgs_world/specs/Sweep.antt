-- What a sweep did, by its status.
use Rattle.std.specs.Prelude.{◌≡◌, ◌≢◌, ℕ, suc, ◌+◌, ◌^◌, ◌<◌, ◌≤◌, ◌↔◌, ◌⊎◌, List, [], ◌∷◌, ◌++◌, length, Option}
use Rattle.std.specs.Io.KnownBytes.{append_known, IsAtEnd}
use Rattle.addr_space.specs.Space.{Space, accounts, held}
use Rattle.owner_kinds.specs.Kind.{Kind}
use Rattle.pgs_io.specs.Faults.{HasRisen}
use Rattle.pgs_io.specs.Lines.{lines_of}
use Rattle.reset_callbacks.specs.ShelfState.{ShelfState}
use Rattle.session_rules.specs.Modes.{swept}
use Rattle.session_rules.specs.Transcript.{errors_in}
use Rattle.pgs_turns.specs.Generating.{IsFront}
use Rattle.pgs_turns.specs.Sweeping.{LeaveRuns, LeaveWanted, events_of_runs, runs_in, setting_in, told_in, told_of_runs}
use Rattle.pgs_turns.specs.Transcript.{Setting, EndsAt}
use Rattle.pgs_turns.specs.World.{AreKept}
use Rattle.pgs_world.specs.declared.program.Outcome.{Outcome}
use Rattle.pgs_world.specs.Lawful.{RunsKeepLaws}
use Rattle.pgs_world.specs.Outcome.{HasGiven, IsSharedOut}
use Rattle.pgs_world.specs.Plays.{Outside}

-- the most bytes that a script has which is swept
abbrev pub most_swept : ℕ
most_swept = 2 ^ 16

-- the source gave a whole script
pub record IsRead (bytes : List ℕ) (left left' : Option (List ℕ)) : Type 0 where
  pub given : HasGiven bytes left left'
  pub at_end : IsAtEnd left'
  pub short : length bytes ≤ most_swept

-- Status 0 or 1: all runs were played, and what is told of them was written.
pub record IsSwept (setting : Setting) (outcome : Outcome) (before after : Outside) : Type 0 where
  pub bytes : List ℕ
  pub script : IsRead bytes before.left after.left
  pub text : after.written ≡ append_known before.written (swept setting.options setting.kinds setting.shelf (lines_of bytes))
  pub leaves : LeaveRuns (runs_in setting (lines_of bytes)) setting (lines_of bytes) outcome.errors after.shelf after.kinds
  pub lawful : RunsKeepLaws (runs_in setting (lines_of bytes)) setting (lines_of bytes)
  pub status : (outcome.status ≡ 1) ↔ (0 < errors_in (events_of_runs (runs_in setting (lines_of bytes)) setting (lines_of bytes)))

-- Status 4: what is told of the runs before was written, and a front of what is told of the last one.
pub record IsSweepUnwritten (setting : Setting) (outcome : Outcome) (before after : Outside) : Type 0 where
  pub bytes : List ℕ
  pub script : IsRead bytes before.left after.left
  pub runs : ℕ
  pub within : runs < runs_in setting (lines_of bytes)
  pub front : List ℕ
  pub rest : List ℕ
  pub parts : front ++ rest ≡ told_in runs setting (lines_of bytes)
  pub some : 0 < length rest
  pub text : after.written ≡ append_known before.written (told_of_runs runs setting (lines_of bytes) ++ front)
  pub leaves : LeaveRuns (suc runs) setting (lines_of bytes) outcome.errors after.shelf after.kinds
  pub lawful : RunsKeepLaws (suc runs) setting (lines_of bytes)

-- Status 5 with a call: the run behind those that are told met a want of memory at that call.
pub record IsSweepWanted (setting : Setting) (outcome : Outcome) (before after : Outside) : Type 0 where
  pub bytes : List ℕ
  pub script : IsRead bytes before.left after.left
  pub runs : ℕ
  pub within : runs < runs_in setting (lines_of bytes)
  pub line : ℕ
  pub defined : EndsAt (setting_in runs setting (lines_of bytes)) outcome.call (lines_of bytes) line
  pub text : after.written ≡ append_known before.written (told_of_runs runs setting (lines_of bytes))
  pub leaves : LeaveWanted runs outcome.call setting (lines_of bytes) outcome.errors after.shelf after.kinds
  pub lawful : RunsKeepLaws (suc runs) setting (lines_of bytes)

-- Status 5 without a call: there was no memory for the run behind those that are told, or none for the script, which was not read then.
pub record IsSweepStopped (setting : Setting) (outcome : Outcome) (before after : Outside) : Type 0 where
  pub bytes : List ℕ
  pub runs : ℕ
  pub script : (IsRead bytes before.left after.left × (runs < runs_in setting (lines_of bytes))) ⊎ ((after.left ≡ before.left) × (runs ≡ 0))
  pub text : after.written ≡ append_known before.written (told_of_runs runs setting (lines_of bytes))
  pub leaves : LeaveRuns runs setting (lines_of bytes) outcome.errors after.shelf after.kinds
  pub lawful : RunsKeepLaws runs setting (lines_of bytes)

-- Status 3 or 6: nothing was performed or written, since the source failed, or has a byte too many.
pub record IsUnswept (setting : Setting) (outcome : Outcome) (before after : Outside) : Type 0 where
  pub unwritten : after.written ≡ before.written
  pub errors : outcome.errors ≡ 0
  pub hooks : after.shelf ≡ setting.shelf
  pub kinds : after.kinds ≡ setting.kinds

-- Status 6: the source gave the most bytes that a script has which is swept, and one more.
pub record IsOverlong (before after : Outside) : Type 0 where
  pub bytes : List ℕ
  pub over : ℕ
  pub given : HasGiven (bytes ++ over ∷ []) before.left after.left
  pub full : length bytes ≡ most_swept

-- the statuses of a sweep
abbrev pub IsSweepStatus : ℕ → Type 0
IsSweepStatus status = (status ≡ 0) ⊎ (status ≡ 1) ⊎ (status ≡ 3) ⊎ (status ≡ 4) ⊎ (status ≡ 5) ⊎ (status ≡ 6)

-- what a sweep leads to, by its status
pub record Sweeps (setting : Setting) (outcome : Outcome) (before after : Outside) (s t : Space) : Type 0 where
  pub whole : (outcome.status ≡ 0) ⊎ (outcome.status ≡ 1) → IsSwept setting outcome before after
  pub unwritten : outcome.status ≡ 4 → IsSweepUnwritten setting outcome before after
  pub wanted : outcome.status ≡ 5 → 0 < outcome.call → IsSweepWanted setting outcome before after
  pub stopped : outcome.status ≡ 5 → outcome.call ≡ 0 → IsSweepStopped setting outcome before after
  pub unswept : (outcome.status ≡ 3) ⊎ (outcome.status ≡ 6) → IsUnswept setting outcome before after
  pub overlong : outcome.status ≡ 6 → IsOverlong before after
  pub lines : outcome.lines ≡ 0
  pub call : outcome.status ≢ 5 → outcome.call ≡ 0
  pub source_fault : outcome.status ≡ 3 → HasRisen before.source_faults after.source_faults
  pub source_grew : outcome.status ≢ 3 → after.source_faults ≡ before.source_faults
  pub sink_fault : outcome.status ≡ 4 → HasRisen before.sink_faults after.sink_faults
  pub sink_grew : outcome.status ≢ 4 → after.sink_faults ≡ before.sink_faults
  pub statuses : IsSweepStatus outcome.status
  pub given_back : (account : ℕ) → held t account ≡ 0
  pub accounts_are : accounts t ≡ accounts s
  pub kinds_kept : AreKept before.kinds after.kinds
  pub shared_out : (outcome.status ≡ 5 → 0 < outcome.call) → outcome.status ≢ 3 → outcome.status ≢ 6 → IsSharedOut setting.options.sessions setting.options.space s t
