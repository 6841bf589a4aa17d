-- The transcript of a script, by the rules of sessions.
use Rattle.std.specs.Prelude.{◌≡◌, ℕ, true, List, count_by, Option, Some}
use Rattle.pgs_step.specs.declared.events.Event.{Event}
use Rattle.pgs_step.specs.declared.events.What.{What}
use Rattle.owner_kinds.specs.Kind.{Kind}
use Rattle.owner_kinds.specs.KindShelf.{table_of}
use Rattle.reset_callbacks.specs.ShelfState.{ShelfState}
use Rattle.session_rules.specs.World.{Options}
use Rattle.session_rules.specs.Transcript.{Course, course_by, ended, is_error, text_of_transcript, transcript_by}
use Rattle.pgs_command.specs.Lines.{read_line}

-- how a run is set up: with these options, these hooks on the shelf, and these extension kinds
pub record Setting : Type 0 where
  pub options : Options
  pub shelf : ShelfState
  pub kinds : List Kind

-- the course of a script; w is the number of the fallible call that is refused for want of memory, if any
unfoldable pub course_of : Setting → Option ℕ → List (List ℕ) → Course
course_of setting w lines = course_by read_line w setting.options setting.kinds setting.shelf lines

-- the transcript of lines: their events, and then those of the ends of all sessions
unfoldable pub transcript : Setting → Option ℕ → List (List ℕ) → List Event
transcript setting w lines = transcript_by read_line w setting.options setting.kinds setting.shelf lines

-- the hooks behind the ends of all sessions
unfoldable pub shelf_after : Setting → Option ℕ → List (List ℕ) → ShelfState
shelf_after setting w lines = (ended (course_of setting w lines)).world.shelf

-- the extension kinds behind the ends of all sessions, with the keys that they hold then
unfoldable pub kinds_after : Setting → Option ℕ → List (List ℕ) → List Kind
kinds_after setting w lines = (ended (course_of setting w lines)).world.kinds

-- The lines make call w, which ends the script at the line of this number.
pub record EndsAt (setting : Setting) (w : ℕ) (lines : List (List ℕ)) (line : ℕ) : Type 0 where
  pub wanted : (course_of setting (Some w) lines).wanted ≡ true
  pub line_is : (course_of setting (Some w) lines).performed ≡ line

-- how many ERROR events a session said
abbrev pub errors_among : List What → ℕ
errors_among whats = count_by is_error whats

-- the names of the extension kinds, in their order
abbrev pub names_of : List Kind → List (List ℕ)
names_of kinds = (table_of kinds).names

-- the bytes of a transcript in a run that is set up so
abbrev pub text_in : Setting → List Event → List ℕ
text_in setting events = text_of_transcript (names_of setting.kinds) events
