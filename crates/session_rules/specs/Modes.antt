-- What is told of whole runs in place of their transcripts: of a script that is made, and of one with each call failing in turn.
use Rattle.std.specs.Prelude.{ℕ, zero, suc, ◌+◌, ◌-◌, ◌*◌, ◌^◌, ◌%◌, ◌==◌, min, if◌then◌else◌, List, [], ◌∷◌, ◌++◌, length, codes, decimal, None}
use Rattle.pgs_command.specs.Lines.{read_line}
use Rattle.owner_kinds.specs.Kind.{Kind}
use Rattle.reset_callbacks.specs.ShelfState.{ShelfState, renewed}
use Rattle.session_rules.specs.Limits.{shared_buffers}
use Rattle.session_rules.specs.World.{Options}
use Rattle.session_rules.specs.Transcript.{Course, course_by, ended, errors_in}

-- one round of the script that is made
abbrev pub made_lines : ℕ → List (List ℕ)
made_lines i =
    codes "begin"
    ∷ (codes "context g" ++ (decimal i ++ codes " CurTransactionContext default"))
    ∷ (codes "switch g" ++ decimal i)
    ∷ (codes "alloc a" ++ (decimal i ++ (codes " " ++ decimal (733 * i % 9000))))
    ∷ (codes "pin " ++ decimal (7 * i % shared_buffers))
    ∷ codes "savepoint s"
    ∷ (codes "lock " ++ (decimal (i % 64) ++ codes " AccessShareLock"))
    ∷ (codes "ref relcache " ++ decimal (i % 100))
    ∷ (if i % 2 == 1 then codes "release s" else codes "rollback to s")
    ∷ (codes "portal p " ++ (decimal (i % 512) ++ codes " 25"))
    ∷ codes "fetch p 12"
    ∷ codes "endportal p"
    ∷ (if i % 3 == 0 then codes "rollback" else codes "commit")
    ∷ []

-- a script of so many rounds
unfoldable pub made_script : ℕ → List (List ℕ)
made_script zero = []
made_script (suc n) = made_script n ++ made_lines (n + 1)

-- a whole run, with all exits, where a call is to fail; 0 is none
unfoldable pub whole_run : ℕ → Options → List Kind → ShelfState → List (List ℕ) → Course
whole_run fail options kinds shelf lines = ended (course_by read_line None (record options { fail = fail }) kinds shelf lines)

-- the count of events stays at this number once it would pass it
abbrev pub most_counted : ℕ
most_counted = 2 ^ 64 - 1

-- how many lines were performed, and how many events, ERROR events and fallible calls there were
abbrev pub numbers : ℕ → ℕ → ℕ → ℕ → List ℕ
numbers lines events errors calls =
    codes "generated " ++ (decimal lines ++ (codes " lines, " ++ (decimal events ++ (codes " events, " ++ (decimal errors ++ (codes " errors, " ++ (decimal calls ++ codes " calls\n")))))))

-- what is told of the script that is made
abbrev pub summary : Course → List ℕ
summary course = numbers course.performed (min (length course.events) most_counted) (errors_in course.events) course.world.calls

unfoldable pub generated : ℕ → Options → List Kind → ShelfState → List ℕ
generated n options kinds shelf = summary (whole_run options.fail options kinds shelf (made_script n))

-- a number behind a word, the errors of a run, and a newline
abbrev pub told_of_run : List ℕ → ℕ → Course → List ℕ
told_of_run word n course = word ++ (decimal n ++ (codes " errors " ++ (decimal (errors_in course.events) ++ codes "\n")))

-- runs in which one call after the other fails, from one on, so many of them
abbrev pub failing_runs : ℕ → ℕ → Options → List Kind → ShelfState → List (List ℕ) → List ℕ
failing_runs zero k options kinds shelf lines = []
failing_runs (suc more) k options kinds shelf lines =
    let course = whole_run k options kinds shelf lines in
    told_of_run (codes "fail ") k course ++ failing_runs more (k + 1) options course.world.kinds (renewed course.world.shelf) lines

-- how many calls at most fail in turn
abbrev pub most_failing : ℕ
most_failing = 2000

-- What is told of a script with each of its first 2,000 calls failing in turn. Between two runs all hooks are made fresh, and the kinds stay as they are.
unfoldable pub swept : Options → List Kind → ShelfState → List (List ℕ) → List ℕ
swept options kinds shelf lines =
    let course = whole_run 0 options kinds shelf lines in
    told_of_run (codes "calls ") course.world.calls course ++ failing_runs (min course.world.calls most_failing) 1 options course.world.kinds (renewed course.world.shelf) lines
