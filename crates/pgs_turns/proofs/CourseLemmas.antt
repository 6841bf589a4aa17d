-- The course of a script, one line more.
use Rattle.pgs_turns.proofs.Base.{nat_tests, ◌≡◌, ℕ, ◌+◌, ◌<◌, ◌≤◌, Bool, true, false, List, [], ◌∷◌, ◌++◌, length, Option, Result, refl, sym, ◌∙◌, ap, subst, arith, length-append}
use Rattle.pgs_turns.proofs.Words.{BadLine, Line, Event, Course, after_line, after_read, course_by, goes_on, World, opened, Fits, read_line, said_in, Setting, course_of, HaveDescriptors, IsOpening, Run, options_in, setting_of, GoesOn, TakesTurn, behind, CourseAt, CoursesAre}
use Rattle.session_rules.specs.Calls.{IsLater}
use Rattle.pgs_turns.proofs.ToldHooks.{tells_both, tells_none}

-- a later call stays one where fewer were made
later_le : (w : Option ℕ) (a b : ℕ) → IsLater b w → a ≤ b → IsLater a w
later_le x0 a b l h = grind (arith, nat_tests)

pub fits_later : (wanted : Bool) (a b : ℕ) (w : Option ℕ) → Fits wanted b w → a ≤ b → (wanted ≡ true → a < b) → IsLater a w
fits_later x0 a b w f h s = grind (arith, nat_tests, later_le)

goes_on-append : (w : Option ℕ) (lines more : List (List ℕ)) (course : Course) → goes_on read_line w (lines ++ more) course ≡ goes_on read_line w more (goes_on read_line w lines course)
goes_on-append w [] more course = refl
goes_on-append w (line ∷ lines) more course = goes_on-append w lines more (after_line read_line w line course)

pub course_of-snoc : (setting : Setting) (w : Option ℕ) (lines : List (List ℕ)) (line : List ℕ) → course_of setting w (lines ++ line ∷ []) ≡ after_line read_line w line (course_of setting w lines)
unfolding course_of course_by
course_of-snoc setting w lines line = goes_on-append w lines (line ∷ []) _

stays : (w : Option ℕ) (course : Course) (lines : List (List ℕ)) → course.wanted ≡ true → goes_on read_line w lines course ≡ course
stays w course [] h = refl
stays w course (line ∷ lines) h = grind (arith, nat_tests, goes_on, stays w course lines h)

-- lines behind the one that met a want of memory change nothing
pub course_of-stopped : (setting : Setting) (w : Option ℕ) (lines more : List (List ℕ)) → (course_of setting w lines).wanted ≡ true → course_of setting w (lines ++ more) ≡ course_of setting w lines
unfolding course_of course_by
course_of-stopped setting w lines more h = goes_on-append w lines more _ ∙ stays w _ more h

-- a line, as it is read
pub read_behind : (w : Option ℕ) (course : Course) (r : Result Line BadLine) → after_read w course r ≡ behind w (said_in r) course
read_behind w course x2 = grind (arith, nat_tests)

pub line_behind : (w : Option ℕ) (course : Course) (line : List ℕ) → course.wanted ≡ false → after_line read_line w line course ≡ behind w (said_in (read_line line)) course
line_behind w course line goes = grind (arith, nat_tests, read_behind w course (read_line line))

-- one line more
CourseAt-line : (opening : World) (descriptors : ℕ) (w : Option ℕ) (course : Course) (line : List ℕ) (old new : Run) (before during after : List Event → Type 0) (n : ℕ) (wanted : Bool)
    → HaveDescriptors descriptors old → CourseAt opening course descriptors old before n false → TakesTurn (said_in (read_line line)) old new during wanted → Fits wanted new.calls.count w
    → ((xs ys : List Event) → before xs → during ys → after (xs ++ ys))
    → CourseAt opening (after_line read_line w line course) descriptors new after (n + 1) wanted
CourseAt-line opening descriptors w course line old new before during after n wanted has c t f joins =
    let goes : GoesOn course (behind w (said_in (read_line line)) course) descriptors new during wanted = t.leads descriptors has w course f c.world_is in
    subst (λ (z : Course). CourseAt opening z descriptors new after (n + 1) wanted) (sym (line_behind w course line c.wanted_is))
    (record {
      world_is = goes.world_is;
      events = subst after (sym goes.events) (joins course.events goes.more c.events goes.shows);
      hooks = grind (arith, nat_tests, behind w (said_in (read_line line)) course, goes.events, tells_both opening course.world (behind w (said_in (read_line line)) course).world course.events goes.more c.hooks goes.hooks, course.world, course.events, goes.more, c.hooks, goes.hooks);
      performed_is = goes.performed_is ∙ ap (λ (k : ℕ). k + 1) c.performed_is;
      wanted_is = goes.wanted_is;
    })

pub CoursesAre-start : (descriptors : ℕ) (first : Run) (emitted : List Event → Type 0) → IsOpening first → emitted [] → CoursesAre descriptors (setting_of descriptors first) false [] first emitted
unfolding course_of course_by
CoursesAre-start descriptors first emitted opens h w f = grind (arith, nat_tests, first.commons.kinds, first.shelf, opens.sessions, first.stores, first.space, opens.calls, tells_none (opened (options_in descriptors first) first.commons.kinds first.shelf), opened (options_in descriptors first) first.commons.kinds first.shelf)

pub CoursesAre-line : (descriptors : ℕ) (setting : Setting) (lines : List (List ℕ)) (line : List ℕ) (old new : Run) (before during after : List Event → Type 0) (wanted : Bool)
    → HaveDescriptors descriptors old → CoursesAre descriptors setting false lines old before → TakesTurn (said_in (read_line line)) old new during wanted
    → ((xs ys : List Event) → before xs → during ys → after (xs ++ ys))
    → CoursesAre descriptors setting wanted (lines ++ line ∷ []) new after
CoursesAre-line descriptors setting lines line old new before during after wanted has courses t joins w f =
    let later : IsLater old.calls.count w = fits_later wanted old.calls.count new.calls.count w f t.calls t.counted in
    let count : length lines + 1 ≡ length (lines ++ line ∷ []) = omega (arith, length-append lines (line ∷ [])) in
    let start : World = opened setting.options setting.kinds setting.shelf in
    subst (λ (z : Course). CourseAt start z descriptors new after (length (lines ++ line ∷ [])) wanted) (sym (course_of-snoc setting w lines line))
    (subst (λ (k : ℕ). CourseAt start (after_line read_line w line (course_of setting w lines)) descriptors new after k wanted) count
    (CourseAt-line start descriptors w (course_of setting w lines) line old new before during after (length lines) wanted has (courses w later) t f joins))

CourseAt-weaker : (opening : World) (descriptors : ℕ) (course : Course) (run : Run) (before after : List Event → Type 0) (k : ℕ) (wanted : Bool) → ((xs : List Event) → before xs → after xs) → CourseAt opening course descriptors run before k wanted
    → CourseAt opening course descriptors run after k wanted
CourseAt-weaker opening descriptors course run before after k wanted leads c = record { world_is = c.world_is; events = leads course.events c.events; hooks = c.hooks; performed_is = c.performed_is; wanted_is = c.wanted_is }

pub CoursesAre-weaker : (descriptors : ℕ) (setting : Setting) (wanted : Bool) (lines : List (List ℕ)) (run : Run) (before after : List Event → Type 0) → ((xs : List Event) → before xs → after xs)
    → CoursesAre descriptors setting wanted lines run before → CoursesAre descriptors setting wanted lines run after
CoursesAre-weaker descriptors setting wanted lines run before after leads courses w f = CourseAt-weaker (opened setting.options setting.kinds setting.shelf) descriptors (course_of setting w lines) run before after (length lines) wanted leads (courses w f)
