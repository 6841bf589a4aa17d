-- Where the reading loop stands, and how it ends.
use Rattle.std.specs.Prelude.{◌≡◌, ℕ, ◌≤◌, Bool, true, false, List, [], ◌∷◌, ◌++◌, length, Option, Some, None}
use Rattle.std.specs.Io.KnownBytes.{IsAtEnd}
use Rattle.pgs_io.specs.declared.feeding.TheConstants.{MOST_READ}
use Rattle.pgs_io.specs.Lines.{lines_of, ended_lines}
use Rattle.pgs_io.specs.Feeding.{AreFirst, Feeding, HasFed, MeetsEnd, MeetsFault, MeetsLimit}
use Rattle.pgs_step.specs.declared.events.Event.{Event}
use Rattle.pgs_turns.specs.Courses.{HasPerformed}
use Rattle.pgs_turns.specs.Transcript.{Setting, course_of}
use Rattle.pgs_turns.specs.Turns.{Fits}
use Rattle.pgs_turns.specs.World.{Run, setting_of}
use Rattle.pgs_world.specs.declared.performing.End.{End}
use Rattle.pgs_world.specs.declared.performing.End.TheVariants as end
use Rattle.pgs_world.specs.declared.performing.Ended.{Ended}
use Rattle.pgs_world.specs.Outcome.{HasGiven, IsLittleMore, most_bytes}

-- whether the end came by a want of memory
abbrev pub is_wanted : End → Bool
is_wanted end.Whole = false
is_wanted end.Wanted = true
is_wanted end.SourceFault = false
is_wanted end.TooLong = false
is_wanted end.Unwritten = false

abbrev pub is_wanted_in : Option End → Bool
is_wanted_in None = false
is_wanted_in (Some end) = is_wanted end

-- The loop has performed these lines.
pub record Stands (descriptors : ℕ) (first : Run) (start now : Option (List ℕ)) (feed : Feeding) (run : Run) (emitted : List Event → Type 0) (lines : List (List ℕ)) : Type 0 where
  pub read : HasFed most_bytes start now feed lines
  pub few : length feed.pending ≤ MOST_READ
  pub performed : HasPerformed descriptors first run emitted lines false

-- The bytes that were given have these lines, and perhaps more. Each has its newline among them, or the source is at its end.
pub record AreFront (bytes : List ℕ) (lines : List (List ℕ)) (before after : Option (List ℕ)) : Type 0 where
  pub given : HasGiven bytes before after
  pub first : AreFirst most_bytes bytes after lines
  pub ahead : IsLittleMore lines bytes

-- the bytes that were given, by how the loop ended
abbrev pub EndIs : End → List ℕ → List (List ℕ) → Option (List ℕ) → Option (List ℕ) → Type 0
EndIs end.Whole bytes lines before after = HasGiven bytes before after × IsAtEnd after × (length bytes ≤ most_bytes) × (lines ≡ lines_of bytes)
EndIs end.Wanted bytes lines before after = AreFront bytes lines before after
EndIs end.SourceFault bytes lines before after = HasGiven bytes before after × (length bytes ≤ most_bytes) × (lines ≡ ended_lines bytes)
EndIs end.TooLong bytes lines before after = (over : ℕ) × HasGiven (bytes ++ over ∷ []) before after × (length bytes ≡ most_bytes) × (lines ≡ ended_lines bytes)
EndIs end.Unwritten bytes lines before after = AreFront bytes lines before after

-- what the feed met, by the end that it leads to
abbrev pub Meets : End → Option (List ℕ) → Option (List ℕ) → Feeding → Type 0
Meets end.Whole before after feed = MeetsEnd before after feed
Meets end.Wanted before after feed = ⊥
Meets end.SourceFault before after feed = MeetsFault before after feed
Meets end.TooLong before after feed = MeetsLimit before after feed
Meets end.Unwritten before after feed = after ≡ before

-- The lines but the last one, or all of them, said the events in front, and the rest came behind these.
pub record EndsInTime (setting : Setting) (w : Option ℕ) (lines : List (List ℕ)) (in_time : List Event → List Event → Type 0) : Type 0 where
  pub earlier : List (List ℕ)
  pub last : List (List ℕ)
  pub one : length last ≤ 1
  pub lines_are : lines ≡ earlier ++ last
  pub since : List Event
  pub events : (course_of setting w lines).events ≡ (course_of setting w earlier).events ++ since
  pub shown : in_time (course_of setting w earlier).events since

-- what the loop did
pub record Performs (descriptors : ℕ) (first : Run) (ended : Ended) (before after : Option (List ℕ)) (run : Run) (emitted : List Event → Type 0) (in_time : List Event → List Event → Type 0) : Type 0 where
  pub bytes : List ℕ
  pub lines : List (List ℕ)
  pub performed : HasPerformed descriptors first run emitted lines (is_wanted ended.end)
  pub count : ended.lines ≡ length lines
  pub how : EndIs ended.end bytes lines before after
  pub ends_in_time : (w : Option ℕ) → Fits (is_wanted ended.end) run.calls.count w → EndsInTime (setting_of descriptors first) w lines in_time

-- the ends that a line leads to
abbrev pub IsLineEnd : End → Bool → Type 0
IsLineEnd end.Whole failed = ⊥
IsLineEnd end.Wanted failed = Unit {0}
IsLineEnd end.SourceFault failed = ⊥
IsLineEnd end.TooLong failed = ⊥
IsLineEnd end.Unwritten failed = failed ≡ true

abbrev pub OnSourceFault : End → Type 0 → Type 0
OnSourceFault end.Whole P = Unit {0}
OnSourceFault end.Wanted P = Unit {0}
OnSourceFault end.SourceFault P = P
OnSourceFault end.TooLong P = Unit {0}
OnSourceFault end.Unwritten P = Unit {0}

abbrev pub OnNoSourceFault : End → Type 0 → Type 0
OnNoSourceFault end.Whole P = P
OnNoSourceFault end.Wanted P = P
OnNoSourceFault end.SourceFault P = Unit {0}
OnNoSourceFault end.TooLong P = P
OnNoSourceFault end.Unwritten P = P

abbrev pub OnUnwritten : End → Type 0 → Type 0
OnUnwritten end.Whole P = Unit {0}
OnUnwritten end.Wanted P = Unit {0}
OnUnwritten end.SourceFault P = Unit {0}
OnUnwritten end.TooLong P = Unit {0}
OnUnwritten end.Unwritten P = P
