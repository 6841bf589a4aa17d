-- What a run did, by its status.
use Rattle.std.specs.Prelude.{◌≡◌, ℕ, ◌+◌, ◌-◌, ◌^◌, ◌<◌, ◌≤◌, ◌↔◌, ◌⊎◌, List, [], ◌∷◌, ◌++◌, length, take, codes, Option, Some, None, true, false, ◌==◌, if◌then◌else◌}
use Rattle.std.specs.Io.KnownBytes.{prepend_known, append_known, IsAtEnd}
use Rattle.pgs_io.specs.declared.feeding.TheConstants.{MOST_READ}
use Rattle.pgs_io.specs.Lines.{lines_of, ended_lines, text_of}
use Rattle.pgs_world.specs.declared.program.Outcome.{Outcome}
use Rattle.owner_kinds.specs.Kind.{Kind}
use Rattle.reset_callbacks.specs.ShelfState.{ShelfState}
use Rattle.pgs_world.specs.Options.{options_of}
use Rattle.pgs_world.specs.declared.options.Options.{Options}
use Rattle.addr_space.specs.Space.{Space, taken}
use Rattle.session_rules.specs.Transcript.{errors_in}
use Rattle.pgs_turns.specs.Courses.{TakesInAll, TakesLines}
use Rattle.pgs_turns.specs.Generating.{IsFront}
use Rattle.pgs_turns.specs.Sweeping.{LeavesRun}
use Rattle.pgs_turns.specs.Transcript.{Setting, course_of, transcript, kinds_after, shelf_after, text_in, EndsAt}
use Rattle.pgs_world.specs.declared.printer.TheConstants.{GATHERED}

-- what words ask for, the hooks that are on the shelf, and the extension kinds
abbrev pub setting_for : Options → ShelfState → List Kind → Setting
setting_for options shelf kinds = record {
  options = record { sessions = options.sessions; space = options.space; descriptors = options.descriptors; fail = options.fail };
  shelf = shelf;
  kinds = kinds;
}

-- the most bytes that a script has
abbrev pub most_bytes : ℕ
most_bytes = 2 ^ 24

-- the words of the command line ask for this
abbrev pub AskFor : List (List ℕ) → Options → Type 0
AskFor words options = options_of words ≡ Some options

-- so it is of what the words ask for, where the script that is read is to run once
abbrev pub ForScript : List (List ℕ) → (Options → Type 0) → Type 0
ForScript words So = (o : Options) → AskFor words o → o.generate ≡ 0 → o.sweep ≡ false → So o

-- where a script is made
abbrev pub ForMade : List (List ℕ) → (Options → Type 0) → Type 0
ForMade words So = (o : Options) → AskFor words o → 0 < o.generate → So o

-- where the script that is read is swept
abbrev pub ForSweep : List (List ℕ) → (Options → Type 0) → Type 0
ForSweep words So = (o : Options) → AskFor words o → o.sweep ≡ true → So o

-- what refused words are answered with
abbrev pub usage_line : List ℕ
usage_line = codes "usage: pgscript [--space N] [--sessions N] [--descriptors N] [--fail N] [--generate N] [--sweep]\n"

-- A source that had `before` left has `after` left, and gave `taken`.
abbrev pub HasGiven : List ℕ → Option (List ℕ) → Option (List ℕ) → Type 0
HasGiven taken before after = before ≡ prepend_known taken after

-- A sink that had taken `before` took the transcript of these lines besides, where w is the fallible call that was refused for want of memory, if any.
abbrev pub HasWritten : Setting → Option ℕ → List (List ℕ) → Option (List ℕ) → Option (List ℕ) → Type 0
HasWritten setting w lines before after = after ≡ append_known before (text_in setting (transcript setting w lines))

-- Status 0 or 1: all of the source was read, and its whole transcript was written.
pub record IsWhole (setting : Setting) (outcome : Outcome) (left left' written written' : Option (List ℕ)) (shelf' : ShelfState) (kinds' : List Kind) : Type 0 where
  pub bytes : List ℕ
  pub given : HasGiven bytes left left'
  pub at_end : IsAtEnd left'
  pub short : length bytes ≤ most_bytes
  pub lines : outcome.lines ≡ length (lines_of bytes)
  pub text : HasWritten setting None (lines_of bytes) written written'
  pub leaves : LeavesRun None setting (lines_of bytes) outcome.errors shelf' kinds'
  pub status : (outcome.status ≡ 1) ↔ (0 < errors_in (transcript setting None (lines_of bytes)))

-- the errors are the ERROR events in the transcript of the bytes that a source had
abbrev pub CountsErrors : Setting → Outcome → Option (List ℕ) → Type 0
CountsErrors setting outcome left = (bytes : List ℕ) → left ≡ Some bytes → outcome.errors ≡ errors_in (transcript setting None (lines_of bytes))

-- Each account took what the lines of the bytes that a source had ask for the session that counts for it.
abbrev pub TakesAsked : Setting → Option (List ℕ) → Space → Space → Type 0
TakesAsked setting left before after = (bytes : List ℕ) → left ≡ Some bytes → TakesLines setting (lines_of bytes) before after

-- Each session's account took what the opening of the session and the lines of the bytes that a source had ask for it; no other account took any.
abbrev pub TakesAll : Setting → Option (List ℕ) → Space → Space → Type 0
TakesAll setting left before after = (bytes : List ℕ) → left ≡ Some bytes → TakesInAll setting (lines_of bytes) before after

-- Each account took what these lines ask for the session that counts for it: the first of the bytes that a source gave, so many.
pub record TakesGiven (setting : Setting) (performed : ℕ) (left left' : Option (List ℕ)) (before after : Space) : Type 0 where
  pub bytes : List ℕ
  pub given : HasGiven bytes left left'
  pub takes : TakesLines setting (take performed (lines_of bytes)) before after

-- The same with what the opening of each session asks. No other account took any.
pub record TakesSoFar (setting : Setting) (performed : ℕ) (left left' : Option (List ℕ)) (before after : Space) : Type 0 where
  pub bytes : List ℕ
  pub given : HasGiven bytes left left'
  pub takes : TakesInAll setting (take performed (lines_of bytes)) before after

-- So many lines were given whole: the newline of each is among the bytes, or the source was at its end behind them. A byte past the most of a script is no part of a line.
abbrev pub AreWhole : ℕ → List ℕ → Option (List ℕ) → Type 0
AreWhole lines bytes left = (lines ≤ length (ended_lines (take most_bytes bytes))) ⊎ ((length bytes ≤ most_bytes) × IsAtEnd left)

-- What was read behind these lines is no more than one read gives, and the byte past the most of a script.
abbrev pub IsLittleMore : List (List ℕ) → List ℕ → Type 0
IsLittleMore lines bytes = length bytes ≤ length (text_of lines) + MOST_READ + 1

-- Status 5 with a call: the transcript in which that call was refused, recovered from and followed by the ends of all sessions.
pub record IsWanted (setting : Setting) (outcome : Outcome) (left left' written written' : Option (List ℕ)) (shelf' : ShelfState) (kinds' : List Kind) : Type 0 where
  pub bytes : List ℕ
  pub given : HasGiven bytes left left'
  pub short : length bytes ≤ most_bytes + 1
  pub whole_lines : AreWhole outcome.lines bytes left'
  pub ahead : IsLittleMore (take outcome.lines (lines_of bytes)) bytes
  pub defined : EndsAt setting outcome.call (lines_of bytes) outcome.lines
  pub text : HasWritten setting (Some outcome.call) (lines_of bytes) written written'
  pub leaves : LeavesRun (Some outcome.call) setting (lines_of bytes) outcome.errors shelf' kinds'

-- Status 3: the source failed, and the transcript of the lines whose newline it had given was written.
pub record IsCutOff (setting : Setting) (outcome : Outcome) (left left' written written' : Option (List ℕ)) (shelf' : ShelfState) (kinds' : List Kind) : Type 0 where
  pub bytes : List ℕ
  pub given : HasGiven bytes left left'
  pub short : length bytes ≤ most_bytes
  pub lines : outcome.lines ≡ length (ended_lines bytes)
  pub text : HasWritten setting None (ended_lines bytes) written written'
  pub leaves : LeavesRun None setting (ended_lines bytes) outcome.errors shelf' kinds'

-- Status 6: the source has a byte past the most bytes of a script, and the transcript of the lines whose newline is among those was written.
pub record IsTooLong (setting : Setting) (outcome : Outcome) (left left' written written' : Option (List ℕ)) (shelf' : ShelfState) (kinds' : List Kind) : Type 0 where
  pub bytes : List ℕ
  pub over : ℕ
  pub given : HasGiven (bytes ++ over ∷ []) left left'
  pub full : length bytes ≡ most_bytes
  pub lines : outcome.lines ≡ length (ended_lines bytes)
  pub text : HasWritten setting None (ended_lines bytes) written written'
  pub leaves : LeavesRun None setting (ended_lines bytes) outcome.errors shelf' kinds'

-- the fallible call that a number names as refused; 0 names none
abbrev pub refused_call : ℕ → Option ℕ
refused_call call = if call == 0 then None else Some call

-- Status 4: the sink failed, and a front of the transcript of the lines that were performed was written. Of what all these lines but perhaps the last
-- one said, at most the 8,192 bytes that are gathered before a write aren't in that front. Nothing more was read, unless all lines whose newline was
-- read were performed.
pub record IsUnwritten (setting : Setting) (outcome : Outcome) (left left' written written' : Option (List ℕ)) (shelf' : ShelfState) (kinds' : List Kind) : Type 0 where
  pub bytes : List ℕ
  pub given : HasGiven bytes left left'
  pub short : length bytes ≤ most_bytes + 1
  pub whole_lines : AreWhole outcome.lines bytes left'
  pub ahead : IsLittleMore (take outcome.lines (lines_of bytes)) bytes ⊎ (take outcome.lines (lines_of bytes) ≡ ended_lines (take most_bytes bytes))
  pub read : outcome.lines ≤ length (lines_of bytes)
  pub front : List ℕ
  pub rest : List ℕ
  pub some : 0 < length rest
  pub parts : front ++ rest ≡ text_in setting (transcript setting (refused_call outcome.call) (take outcome.lines (lines_of bytes)))
  pub taken : written' ≡ append_known written front
  pub last : ℕ
  pub one : last ≤ 1
  pub in_time : length (text_in setting (course_of setting (refused_call outcome.call) (take (outcome.lines - last) (lines_of bytes))).events) ≤ length front + GATHERED
  pub defined : 0 < outcome.call → EndsAt setting outcome.call (take outcome.lines (lines_of bytes)) outcome.lines
  pub leaves : LeavesRun (refused_call outcome.call) setting (take outcome.lines (lines_of bytes)) outcome.errors shelf' kinds'

-- Status 5 without a call: not all sessions were started, nothing was read or written, and hooks and kinds are as they were.
pub record IsNotStarted (outcome : Outcome) (left left' written written' : Option (List ℕ)) (shelf shelf' : ShelfState) (before kinds' : List Kind) : Type 0 where
  pub hooks : shelf' ≡ shelf
  pub kinds : kinds' ≡ before
  pub lines : outcome.lines ≡ 0
  pub errors : outcome.errors ≡ 0
  pub unread : left' ≡ left
  pub unwritten : written' ≡ written

-- The space has this limit, and no account took any bytes but those of so many sessions.
pub record IsSharedOut (sessions limit : ℕ) (before after : Space) : Type 0 where
  pub limit_is : after.limit ≡ limit
  pub others : (account : ℕ) → sessions ≤ account → taken after account ≡ taken before account

-- a front of the usage line was written, and not all of it
abbrev pub IsUsageFront : Option (List ℕ) → Option (List ℕ) → Type 0
IsUsageFront written written' = IsFront usage_line written written'
