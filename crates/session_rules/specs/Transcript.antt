-- What a line does, and the transcript of a script.
use Rattle.std.specs.Prelude.{ℕ, ◌+◌, Bool, true, false, List, [], ◌∷◌, ◌++◌, map, count_by, Option, Some, None, Result, Ok, Err}
use Rattle.std.specs.List.{flat_map}
use Rattle.pgs_step.specs.declared.errors.Error.{Error}
use Rattle.pgs_step.specs.declared.errors.Error.TheVariants as error
use Rattle.pgs_step.specs.declared.events.Event.{Event}
use Rattle.pgs_step.specs.declared.events.What.{What}
use Rattle.pgs_step.specs.declared.events.What.TheVariants as what
use Rattle.pgs_step.specs.Text.{text_of}
use Rattle.pgs_command.specs.declared.commands.Command.{Command}
use Rattle.pgs_command.specs.declared.lines.Line.{Line}
use Rattle.pgs_command.specs.declared.lines.BadLine.{BadLine}
use Rattle.pgs_command.specs.Lines.{read_line}
use Rattle.owner_kinds.specs.Kind.{Kind}
use Rattle.reset_callbacks.specs.ShelfState.{ShelfState}
use Rattle.session_rules.specs.State.{SessionState}
use Rattle.session_rules.specs.World.{Options, Moment, World, around, moment, opened, session_at, with_scene}
use Rattle.session_rules.specs.Elements.{Element}
use Rattle.session_rules.specs.Acts.{Ended}
use Rattle.session_rules.specs.Ends.{exited, recovered}
use Rattle.session_rules.specs.Commands.{elements_of, refused}
use Rattle.session_rules.specs.Calls.{Done}
use Rattle.session_rules.specs.Does.{does_all}

-- what a line did in its session: the moment behind it, its events in order, and whether it met a want of memory, which ends the script
pub record Turn : Type 0 where
  pub moment : Moment
  pub events : List What
  pub wanted : Bool

-- whether the error is a want of memory
abbrev pub is_want : Error → Bool
is_want (error.NoMemory call) = true
is_want other = false

-- a command that was refused is recovered from
abbrev pub turn_of : Done → Option Error → Turn
turn_of done None = record { moment = done.moment; events = done.events; wanted = false }
turn_of done (Some error) =
    let ended = recovered error done.moment.scene in record {
      moment = record done.moment { scene = ended.scene };
      events = done.events ++ ended.events;
      wanted = is_want error;
    }

-- the elements of a line in its session: of its command, or of a bad line
abbrev pub line_elements : Option Command → SessionState → List Element
line_elements None session = refused error.SyntaxError
line_elements (Some command) session = elements_of command session

-- what a line does in its session
unfoldable pub turn : Option ℕ → Option Command → Moment → Turn
turn w command moment = let done = does_all w (line_elements command moment.scene.session) moment in turn_of done done.refusal

-- the events of a session, with its number
abbrev pub of_session : ℕ → List What → List Event
of_session n whats = map (λ what. record { session = n; what = what }) whats

-- where a script stands after some lines: the run, the events so far, how many lines were performed, and whether a want of memory ended it
pub record Course : Type 0 where
  pub world : World
  pub events : List Event
  pub performed : ℕ
  pub wanted : Bool

-- the course after the turn of a session
abbrev pub after_turn : Course → ℕ → Turn → Course
after_turn course n turn = record {
  world = record (with_scene n turn.moment.scene course.world) { calls = turn.moment.calls };
  events = course.events ++ of_session n turn.events;
  performed = course.performed + 1;
  wanted = turn.wanted;
}

-- a line of a session that the run doesn't have: nothing but its error
abbrev pub missing : Option Command → Error
missing None = error.SyntaxError
missing (Some command) = error.NoSuchSession

abbrev pub after_missing : Course → ℕ → Option Command → Course
after_missing course n command = record {
  world = course.world;
  events = course.events ++ of_session n (what.Error (missing command) ∷ []);
  performed = course.performed + 1;
  wanted = false;
}

abbrev pub after_command : Option ℕ → Course → ℕ → Option Command → Option SessionState → Course
after_command w course n command None = after_missing course n command
after_command w course n command (Some session) =
    after_turn course n (turn w command (moment n session course.world))

abbrev pub after_read : Option ℕ → Course → Result Line BadLine → Course
after_read w course (Ok line) = after_command w course line.session (Some line.command) (session_at line.session course.world)
after_read w course (Err bad) = after_command w course bad.session None (session_at bad.session course.world)

-- how lines are read: what each says
abbrev pub Reading : Type 0
Reading = List ℕ → Result Line BadLine

-- the course after one line more
abbrev pub after_line : Reading → Option ℕ → List ℕ → Course → Course
after_line reads w line course = elim course.wanted as (λ _. Course) [ true ↦ course | false ↦ after_read w course (reads line) ]

-- the course of lines, one after the other
abbrev pub goes_on : Reading → Option ℕ → List (List ℕ) → Course → Course
goes_on reads w [] course = course
goes_on reads w (line ∷ lines) course = goes_on reads w lines (after_line reads w line course)

abbrev pub at_start : World → Course
at_start world = record { world = world; events = []; performed = 0; wanted = false }

-- the course of a script, whose lines are read in this way
unfoldable pub course_by : Reading → Option ℕ → Options → List Kind → ShelfState → List (List ℕ) → Course
course_by reads w options kinds shelf lines = goes_on reads w lines (at_start (opened options kinds shelf))

-- a session ends
abbrev pub after_exit : ℕ → Course → Ended → Course
after_exit n course ended = record course {
  world = with_scene n ended.scene course.world;
  events = course.events ++ of_session n ended.events;
}

-- sessions end in the order of their numbers
abbrev pub exits : ℕ → List SessionState → Course → Course
exits n [] course = course
exits n (session ∷ sessions) course =
    exits (n + 1) sessions (after_exit n course (exited (record { session = session; around = around n course.world })))

-- all sessions end, whatever ended the script
abbrev pub ended : Course → Course
ended course = exits 1 course.world.sessions course

-- The events of a script and of the end of all sessions; w is the number of the fallible call that is refused for want of memory, if any.
unfoldable pub transcript_by : Reading → Option ℕ → Options → List Kind → ShelfState → List (List ℕ) → List Event
transcript_by reads w options kinds shelf lines = (ended (course_by reads w options kinds shelf lines)).events

-- the same, where all commands are performed
abbrev pub transcript : Option ℕ → Options → List Kind → ShelfState → List (List ℕ) → List Event
transcript w options kinds shelf lines = transcript_by read_line w options kinds shelf lines

abbrev pub is_error : What → Bool
is_error (what.Error error) = true
is_error other = false

-- how many ERROR events there are
abbrev pub errors_in : List Event → ℕ
errors_in events = count_by (λ (event : Event). is_error event.what) events

-- the text of a transcript; names are those of the extension kinds
abbrev pub text_of_transcript : List (List ℕ) → List Event → List ℕ
text_of_transcript names events = flat_map (text_of names) events
