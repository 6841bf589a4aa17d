-- What lines and the ends of all sessions behind them leave.
use Rattle.pgs_turns.proofs.Base.{nat_tests, ◌≡◌, ℕ, ◌+◌, Bool, true, false, List, [], ◌∷◌, ◌++◌, length, Option, Some, None, refl, sym, ◌∙◌, ap, subst, arith}
use Rattle.pgs_turns.proofs.Words.{Event, exited, SessionState, Course, after_exit, ended, exits, transcript_by, World, around, opened, Fits, Calls, Setting, course_of, kinds_after, shelf_after, transcript, IsOpening, Run, setting_of, world_in, HooksAreTold, TellHooks, AllExit, CourseAt, HasPerformed, IsOver}
use Rattle.pgs_turns.proofs.CourseLemmas.{course_of-stopped}
use Rattle.pgs_turns.proofs.KindLemmas.{all_kept}
use Rattle.pgs_turns.proofs.SessionLemmas.{opening_hold_none, same_on}
use Rattle.pgs_turns.proofs.ToldHooks.{tells_both, told_in_all}

-- lines behind the one that met a want of memory change nothing
pub transcript-stopped : (setting : Setting) (calls : ℕ) (lines more : List (List ℕ)) → (course_of setting (Some calls) lines).wanted ≡ true → transcript setting (Some calls) (lines ++ more) ≡ transcript setting (Some calls) lines
unfolding transcript transcript_by course_of
transcript-stopped setting calls lines more h = ap (λ (c : Course). (ended c).events) (course_of-stopped setting (Some calls) lines more h)

pub shelf-stopped : (setting : Setting) (calls : ℕ) (lines more : List (List ℕ)) → (course_of setting (Some calls) lines).wanted ≡ true → shelf_after setting (Some calls) (lines ++ more) ≡ shelf_after setting (Some calls) lines
unfolding shelf_after
shelf-stopped setting calls lines more h = ap (λ (c : Course). (ended c).world.shelf) (course_of-stopped setting (Some calls) lines more h)

pub kinds-stopped : (setting : Setting) (calls : ℕ) (lines more : List (List ℕ)) → (course_of setting (Some calls) lines).wanted ≡ true → kinds_after setting (Some calls) (lines ++ more) ≡ kinds_after setting (Some calls) lines
unfolding kinds_after
kinds-stopped setting calls lines more h = ap (λ (c : Course). (ended c).world.kinds) (course_of-stopped setting (Some calls) lines more h)

-- the ends of sessions are no lines
exits_perform : (n : ℕ) (sessions : List SessionState) (course : Course) → (exits n sessions course).performed ≡ course.performed
exits_perform n [] course = refl
exits_perform n (session ∷ sessions) course = exits_perform (n + 1) sessions (after_exit n course (exited (record { session = session; around = around n course.world })))

-- the refused call that the answer speaks of
pub fit_of : (wanted : Bool) (calls : ℕ) → (w : Option ℕ) × Fits wanted calls w
fit_of true calls = (Some calls, refl)
fit_of false calls = (None, tt)

fits_wanted : (wanted : Bool) (calls : ℕ) → wanted ≡ true → Fits wanted calls (Some calls)
fits_wanted x0 calls h = grind (arith, nat_tests)

pub fits_none : (wanted : Bool) (calls : ℕ) → wanted ≡ false → Fits wanted calls None
fits_none x0 calls h = grind (arith, nat_tests)

module _ (descriptors : ℕ) (first behind last : Run) (emitted shown whole : List Event → Type 0) (lines : List (List ℕ)) (wanted : Bool)
    (opens : IsOpening first) (performed : HasPerformed descriptors first behind emitted lines wanted) (ends : AllExit behind last shown)
    (joins : (xs ys : List Event) → emitted xs → shown ys → whole (xs ++ ys)) where
  abbrev setting : Setting
  setting = setting_of descriptors first

  calls_are : last.calls.count ≡ behind.calls.count
  calls_are = ap (λ (x : Calls). x.count) ends.calls

  fits_behind : (w : Option ℕ) → Fits wanted last.calls.count w → Fits wanted behind.calls.count w
  fits_behind w f = subst (λ (n : ℕ). Fits wanted n w) calls_are f

  module _ (w : Option ℕ) (f : Fits wanted last.calls.count w) where
    at : CourseAt (opened setting.options setting.kinds setting.shelf) (course_of setting w lines) descriptors behind emitted (length lines) wanted
    at = performed.courses w (fits_behind w f)

    emits : whole (transcript setting w lines)
    unfolding transcript transcript_by course_of at
    emits =
        let left = ends.leads descriptors performed.has (course_of setting w lines) at.world_is in
        subst whole (sym left.1) (joins (course_of setting w lines).events left.0 at.events left.2)

    world_is : (ended (course_of setting w lines)).world ≡ world_in descriptors last
    world_is = (ends.leads descriptors performed.has (course_of setting w lines) at.world_is).3

    shelf_is : last.shelf ≡ shelf_after setting w lines
    unfolding shelf_after
    shelf_is = sym (ap (λ (x : World). x.shelf) world_is)

    kinds_are : last.commons.kinds ≡ kinds_after setting w lines
    unfolding kinds_after
    kinds_are = sym (ap (λ (x : World). x.kinds) world_is)

    told : HooksAreTold setting.shelf last.shelf (transcript setting w lines)
    unfolding transcript transcript_by course_of at
    told =
        let course : Course = course_of setting w lines in
        let start : World = opened setting.options setting.kinds setting.shelf in
        let left = ends.leads descriptors performed.has course at.world_is in
        let all : TellHooks start (ended course).world (ended course).events =
        subst (TellHooks start (ended course).world) (sym left.1) (tells_both start course.world (ended course).world course.events left.0 at.hooks left.4) in
        told_in_all setting.options setting.kinds setting.shelf (world_in descriptors last) (ended course).events (subst (λ (x : World). TellHooks start x (ended course).events) left.3 all) ends.waiting

  pub run_over : IsOver descriptors first last whole lines wanted
  run_over = record {
    emits = emits;
    shelf = shelf_is;
    told = told;
    kinds = kinds_are;
    calls = λ w f. ap (λ (x : World). x.calls) (world_is w f);
    performed = λ w f. exits_perform 1 (course_of setting w lines).world.sessions (course_of setting w lines) ∙ (at w f).performed_is;
    stopped = λ h. let c = at (Some last.calls.count) (fits_wanted wanted last.calls.count h) in record { wanted = c.wanted_is ∙ h; line_is = c.performed_is };
    called = λ h. omega (arith, performed.called h, calls_are);
    same = same_on first behind last performed.same ends.same;
    kept = all_kept first last (same_on first behind last performed.same ends.same) (opening_hold_none first opens) ends.none;
    given_back = λ account less. ends.given_back account (omega (arith, less, performed.same.sessions));
    taken = λ h account. ends.asks account ∙ performed.taken h None tt account;
  }
