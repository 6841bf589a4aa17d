-- How many ERROR events a transcript has: at most one for each line.
use Rattle.pgs_turns.proofs.Base.{nat_tests, ◌≡◌, ℕ, ◌+◌, ◌≤◌, Bool, List, [], ◌∷◌, length, Option, Some, None, Result, refl, ◌∙◌, arith}
use Rattle.pgs_turns.proofs.Words.{Command, BadLine, Line, exited, SessionState, Course, after_command, after_exit, after_line, after_read, at_start, course_by, errors_in, exits, goes_on, of_session, transcript_by, turn, Scene, around, moment, opened, errors_in-append, errors_of_one_session, read_line, Setting, transcript}
use Rattle.pgs_step.specs.declared.errors.Error.TheVariants as error
use Rattle.pgs_step.specs.declared.events.What.TheVariants as what
use Rattle.session_rules.proofs.Calm.{exited_errors, turn_errors}

command_errors : (w : Option ℕ) (course : Course) (n : ℕ) (line : Option Command) (session : Option SessionState)
    → errors_in (after_command w course n line session).events ≤ errors_in course.events + 1
command_errors w course n None None = let both = errors_in-append course.events (of_session n (what.Error error.SyntaxError ∷ [])) in omega (arith, both)
command_errors w course n (Some command) None = let both = errors_in-append course.events (of_session n (what.Error error.NoSuchSession ∷ [])) in omega (arith, both)
command_errors w course n line (Some session) =
    let there = moment n session course.world in
    let few = turn_errors w line there in
    let own = errors_of_one_session n (turn w line there).events in
    let both = errors_in-append course.events (of_session n (turn w line there).events) in omega (arith, few, own, both)

read_errors : (w : Option ℕ) (course : Course) (line : Result Line BadLine) → errors_in (after_read w course line).events ≤ errors_in course.events + 1
read_errors w course x2 = grind (arith, nat_tests, command_errors, course.world)

line_errors : (w : Option ℕ) (line : List ℕ) (course : Course) (stopped : Bool) → course.wanted ≡ stopped → errors_in (after_line read_line w line course).events ≤ errors_in course.events + 1
line_errors w line course x3 h = grind (arith, nat_tests, read_errors w course (read_line line))

lines_errors : (w : Option ℕ) (lines : List (List ℕ)) (course : Course) → errors_in (goes_on read_line w lines course).events ≤ errors_in course.events + length lines
lines_errors w [] course = omega arith
lines_errors w (line ∷ lines) course = grind (arith, nat_tests, line_errors w line course course.wanted refl, course.wanted, lines_errors w lines (after_line read_line w line course))

exits_errors : (n : ℕ) (sessions : List SessionState) (course : Course) → errors_in (exits n sessions course).events ≡ errors_in course.events
exits_errors n [] course = refl
exits_errors n (session ∷ sessions) course =
    let there : Scene = record { session = session; around = around n course.world } in
    let none = exited_errors there in
    let own = errors_of_one_session n (exited there).events in
    let both = errors_in-append course.events (of_session n (exited there).events) in
    exits_errors (n + 1) sessions (after_exit n course (exited there)) ∙ omega (arith, none, own, both)

pub few_errors : (setting : Setting) (w : Option ℕ) (lines : List (List ℕ)) → errors_in (transcript setting w lines) ≤ length lines
unfolding transcript transcript_by course_by
few_errors setting w lines = grind (arith, nat_tests, at_start (opened setting.options setting.kinds setting.shelf), opened setting.options setting.kinds setting.shelf, setting.options, setting.kinds, setting.shelf, goes_on, exits_errors, lines_errors)
