-- What accounts take in a run.
use Rattle.pgs_turns.proofs.Base.{◌≡◌, ℕ, zero, suc, ◌+◌, ◌-◌, ◌^◌, ◌<◌, min, Bool, false, List, [], ◌∷◌, ◌++◌, length, Option, Some, None, Result, refl, sym, ◌∙◌, ap, subst, arith, if◌then◌else◌, nat_lt, replicate, nat_tests, length-set, slice_get_past}
use Rattle.pgs_turns.proofs.Words.{Command, BadLine, Line, Event, Space, risen, taken, asked_by, asked_by_command, asked_by_line, asked_by_read, asked_on, SessionState, Course, after_command, after_line, after_read, at_start, opened, session_at, asked_by_more, other_line, read_line_asks, Fits, read_line, said_in, Setting, course_of, HaveDescriptors, Run, TakesTurn, CoursesAre, TakesBut, TakesInAll, TakesLines}
use Rattle.pgs_turns.proofs.CourseLemmas.{fits_later}

-- no line
pub takes_none : (setting : Setting) (w : Option ℕ) (s : Space) → TakesBut w setting [] s s
unfolding asked_by
takes_none setting w s account = refl

-- a count that rises twice
risen_by : (x n : ℕ) → 0 < n → risen x n ≡ min (x + n) (2 ^ 64 - 1)
risen_by x n some = grind (arith, nat_tests)

pub risen_more : (x m n : ℕ) → risen (risen x m) n ≡ risen x (m + n)
risen_more x x1 x2 = grind (arith, nat_tests, risen_by)

-- a line asks what its turn does
of_reading : (w : Option ℕ) (n : ℕ) (course : Course) (r : Result Line BadLine)
    → asked_by_read w n course r ≡ asked_by_command w n course (said_in r).session (said_in r).command (session_at (said_in r).session course.world)
of_reading w n course x3 = grind (arith, nat_tests)

line_asks : (w : Option ℕ) (n : ℕ) (course : Course) (line : List ℕ) → course.wanted ≡ false
    → asked_by_line read_line w n line course ≡ asked_by_command w n course (said_in (read_line line)).session (said_in (read_line line)).command (session_at (said_in (read_line line)).session course.world)
line_asks w n course line goes = read_line_asks read_line w n line course goes ∙ of_reading w n course (read_line line)

-- one line more
pub takes_line : (descriptors : ℕ) (setting : Setting) (lines : List (List ℕ)) (line : List ℕ) (first : Space) (old new : Run) (before during : List Event → Type 0) (wanted : Bool) → wanted ≡ false
    → HaveDescriptors descriptors old → CoursesAre descriptors setting false lines old before → ((w : Option ℕ) → Fits false old.calls.count w → TakesBut w setting lines first old.space) → TakesTurn (said_in (read_line line)) old new during wanted
    → (w : Option ℕ) → Fits false new.calls.count w → TakesBut w setting (lines ++ line ∷ []) first new.space
unfolding course_of
takes_line descriptors setting lines line first old new before during wanted is has courses takes t w f account =
    let later = fits_later false old.calls.count new.calls.count w f t.calls (λ e. absurd (cc e)) in
    let course = courses w later in
    let asks = line_asks w (account + 1) (course_of setting w lines) line course.wanted_is in
    t.asks is descriptors has w (course_of setting w lines) f course.world_is account
    ∙ ap (risen (taken old.space account)) (sym asks)
    ∙ ap (λ (x : ℕ). risen x (asked_by_line read_line w (account + 1) line (course_of setting w lines))) (takes w later account)
    ∙ risen_more (taken first account) (asked_by read_line w setting.options setting.kinds setting.shelf lines (account + 1)) (asked_by_line read_line w (account + 1) line (course_of setting w lines))
    ∙ ap (risen (taken first account)) (sym (asked_by_more read_line w setting.options setting.kinds setting.shelf lines line (account + 1)))

-- lines ask nothing for a session that the run doesn't have
abbrev Lacks : ℕ → Course → Type 0
Lacks n course = length course.world.sessions < n

still_lacks : (w : Option ℕ) (n number : ℕ) (command : Option Command) (session : Option SessionState) (course : Course) → Lacks n course → Lacks n (after_command w course number command session)
still_lacks w n number command None course h = h
still_lacks w n number command (Some session) course h = subst (λ (k : ℕ). k < n) (sym (length-set course.world.sessions (number - 1) _)) h

lacks_read : (w : Option ℕ) (n : ℕ) (r : Result Line BadLine) (course : Course) → Lacks n course → Lacks n (after_read w course r)
lacks_read w n x2 course h = grind (arith, nat_tests, still_lacks, course.world)

lacks_line : (w : Option ℕ) (n : ℕ) (line : List ℕ) (course : Course) → Lacks n course → Lacks n (after_line read_line w line course)
lacks_line w n line course h = grind (arith, nat_tests, course.wanted, lacks_read w n (read_line line) course h)

none_there : (n : ℕ) (course : Course) → Lacks n course → session_at n course.world ≡ None
none_there n course h = grind (arith, nat_tests, slice_get_past course.world.sessions (n - 1) (omega (arith, h)), course.world.sessions)

none_asked : (w : Option ℕ) (n number : ℕ) (command : Option Command) (course : Course) → Lacks n course → asked_by_command w n course number command (session_at number course.world) ≡ 0
none_asked w n number command course h = grind (arith, nat_tests, course.world, none_there n course h, other_line)

none_read : (w : Option ℕ) (n : ℕ) (r : Result Line BadLine) (course : Course) → Lacks n course → asked_by_read w n course r ≡ 0
none_read w n x2 course h = grind (arith, nat_tests, none_asked)

none_line : (w : Option ℕ) (n : ℕ) (line : List ℕ) (course : Course) → Lacks n course → asked_by_line read_line w n line course ≡ 0
none_line w n line course h = grind (arith, nat_tests, course.wanted, none_read w n (read_line line) course h)

none_on : (w : Option ℕ) (n : ℕ) (lines : List (List ℕ)) (course : Course) → Lacks n course → asked_on read_line w n lines course ≡ 0
none_on w n [] course h = refl
none_on w n (line ∷ lines) course h = omega (arith, none_line w n line course h, none_on w n lines (after_line read_line w line course) (lacks_line w n line course h))

length_replicate : {A : Type 0} (n : ℕ) (x : A) → length (replicate n x) ≡ n
length_replicate zero x = refl
length_replicate (suc n) x = omega (arith, length_replicate n x)

nothing_asked : (setting : Setting) (lines : List (List ℕ)) (n : ℕ) → setting.options.sessions < n → asked_by read_line None setting.options setting.kinds setting.shelf lines n ≡ 0
unfolding asked_by
nothing_asked setting lines n h = grind (arith, nat_tests, none_on, at_start, opened, setting.options, setting.kinds, setting.shelf, length_replicate, setting.options.sessions)

-- what sessions take as they open, and what their lines ask behind that
pub opened_taken : (setting : Setting) (lines : List (List ℕ)) (s t u : Space) → ((account : ℕ) → taken t account ≡ risen (taken s account) (if nat_lt account setting.options.sessions then 65536 else 0))
    → TakesLines setting lines t u → TakesInAll setting lines s u
opened_taken setting lines s t u opening takes account = grind (arith, nat_tests, asked_by read_line None setting.options setting.kinds setting.shelf lines (account + 1), setting.options, setting.kinds, setting.shelf, risen_more (taken s account) (if nat_lt account setting.options.sessions then 65536 else 0) (asked_by read_line None setting.options setting.kinds setting.shelf lines (account + 1)), taken s account, setting.options.sessions, asked_by, nothing_asked)
