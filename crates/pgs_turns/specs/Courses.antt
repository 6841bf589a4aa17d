-- What lines lead to in a run, and what the ends of all sessions make of it.
use Rattle.std.specs.Prelude.{◌≡◌, ℕ, ◌+◌, ◌*◌, ◌<◌, Bool, true, false, List, length, nat_lt, if◌then◌else◌, Option, None}
use Rattle.addr_space.specs.Space.{Space, held, risen, taken}
use Rattle.pgs_step.specs.declared.events.Event.{Event}
use Rattle.session_rules.specs.Asked.{asked_by, asked_in_all}
use Rattle.session_rules.specs.Transcript.{Course, ended}
use Rattle.session_rules.specs.World.{World, opened}
use Rattle.session_commands.specs.Answers.{Fits}
use Rattle.session_commands.specs.Performed.{most_steps}
use Rattle.pgs_command.specs.Lines.{read_line}
use Rattle.pgs_turns.specs.Transcript.{Setting, course_of, kinds_after, shelf_after, transcript, EndsAt}
use Rattle.pgs_turns.specs.World.{HaveDescriptors, Run, SameRun, setting_of, world_in, AreKept}
use Rattle.pgs_turns.specs.Hooks.{HooksAreTold, TellHooks}
use Rattle.pgs_turns.specs.Turns.{IsWithin}

-- A course led from its opening to this run by events that were emitted, which tell what became of the hooks.
pub record CourseAt (opening : World) (course : Course) (descriptors : ℕ) (run : Run) (emitted : List Event → Type 0) (performed : ℕ) (wanted : Bool) : Type 0 where
  pub world_is : course.world ≡ world_in descriptors run
  pub events : emitted course.events
  pub hooks : TellHooks opening course.world course.events
  pub performed_is : course.performed ≡ performed
  pub wanted_is : course.wanted ≡ wanted

-- The lines led to this run by events that were emitted, whichever later call is refused for want of memory; or, where they met a want, by the refusal of the last call.
abbrev pub CoursesAre : ℕ → Setting → Bool → List (List ℕ) → Run → (List Event → Type 0) → Type 0
CoursesAre descriptors setting wanted lines run emitted = (w : Option ℕ) → Fits wanted run.calls.count w → CourseAt (opened setting.options setting.kinds setting.shelf) (course_of setting w lines) descriptors run emitted (length lines) wanted

-- Each account took what the lines ask for the session that counts for it, where call w is refused for want of memory.
abbrev pub TakesBut : Option ℕ → Setting → List (List ℕ) → Space → Space → Type 0
TakesBut w setting lines before after =
    (account : ℕ) → taken after account ≡ risen (taken before account) (asked_by read_line w setting.options setting.kinds setting.shelf lines (account + 1))

-- the same where none is refused
abbrev pub TakesLines : Setting → List (List ℕ) → Space → Space → Type 0
TakesLines setting lines before after = TakesBut None setting lines before after

-- what a session asks that counts for this account, as it opens and by lines; nothing, where no session does
abbrev pub asked_of : Setting → List (List ℕ) → ℕ → ℕ
asked_of setting lines account = if nat_lt account setting.options.sessions then asked_in_all read_line None setting.options setting.kinds setting.shelf lines (account + 1) else 0

-- Each session's account took what the opening of the session and its lines ask for it; no other account took any.
abbrev pub TakesInAll : Setting → List (List ℕ) → Space → Space → Type 0
TakesInAll setting lines before after = (account : ℕ) → taken after account ≡ risen (taken before account) (asked_of setting lines account)

-- The run performed these lines from its opening on by events that were emitted; the last of them met a want of memory or not. Each account
-- took what they ask, whichever later call is refused for want of memory.
pub record HasPerformed (descriptors : ℕ) (first run : Run) (emitted : List Event → Type 0) (lines : List (List ℕ)) (wanted : Bool) : Type 0 where
  pub courses : CoursesAre descriptors (setting_of descriptors first) wanted lines run emitted
  pub bounded : IsWithin (most_steps * length lines + 6) run
  pub called : wanted ≡ true → 0 < run.calls.count
  pub same : SameRun first run
  pub has : HaveDescriptors descriptors run
  pub taken : wanted ≡ false → (w : Option ℕ) → Fits false run.calls.count w → TakesBut w (setting_of descriptors first) lines first.space run.space

-- The run is over: behind these lines all sessions have ended. The events of its transcript were emitted, whichever later call is refused; or,
-- where the lines met a want of memory, that in which the last call is refused. Hooks and kinds are those of the rules, the transcript tells
-- what became of the hooks, and nothing of the kinds is left open. No account of a session holds anything.
pub record IsOver (descriptors : ℕ) (first last : Run) (emitted : List Event → Type 0) (lines : List (List ℕ)) (wanted : Bool) : Type 0 where
  pub emits : (w : Option ℕ) → Fits wanted last.calls.count w → emitted (transcript (setting_of descriptors first) w lines)
  pub shelf : (w : Option ℕ) → Fits wanted last.calls.count w → last.shelf ≡ shelf_after (setting_of descriptors first) w lines
  pub told : (w : Option ℕ) → Fits wanted last.calls.count w → HooksAreTold first.shelf last.shelf (transcript (setting_of descriptors first) w lines)
  pub kinds : (w : Option ℕ) → Fits wanted last.calls.count w → last.commons.kinds ≡ kinds_after (setting_of descriptors first) w lines
  pub calls : (w : Option ℕ) → Fits wanted last.calls.count w → (ended (course_of (setting_of descriptors first) w lines)).world.calls ≡ last.calls.count
  pub performed : (w : Option ℕ) → Fits wanted last.calls.count w → (ended (course_of (setting_of descriptors first) w lines)).performed ≡ length lines
  pub stopped : wanted ≡ true → EndsAt (setting_of descriptors first) last.calls.count lines (length lines)
  pub called : wanted ≡ true → 0 < last.calls.count
  pub same : SameRun first last
  pub kept : AreKept first.commons.kinds last.commons.kinds
  pub given_back : (account : ℕ) → account < length first.stores → held last.space account ≡ 0
  pub taken : wanted ≡ false → TakesLines (setting_of descriptors first) lines first.space last.space
