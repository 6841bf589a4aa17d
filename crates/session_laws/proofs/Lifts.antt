-- A line and an exit leave what never changes around a session: the names of the extension kinds, when their items are released, and how many descriptors there are.
use Rattle.session_laws.proofs.Words.{◌≡◌, ℕ, ◌∙◌, true, false, Bool, Option, Some, None, List, ap, refl, ◌≢◌, zero, suc, ◌+◌, ◌≤◌, ◌⊎◌, inl, inr, cond, [], ◌∷◌, ◌++◌, length, sym, subst, arith, ◌-◌, ◌<◌, Result, Ok, Err, ◌==◌, replicate, slice_get, slice_set, slice_index_or, flat_map, sum_by, get_or-le-sum_by, sum_by-cons, sum_by-set, cases_eq, cases_lt, append-nil, length-set, length-replicate, nat_tests, ending, get_or_from_slice_get, slice_get_within, slice_get_cases}
use Rattle.session_laws.proofs.Scenes.{What, Error, Command, table_of, Moment, Scene, Around, Options, World, around, moment, opened, session_at, with_scene, Done, does_all, exited, recovered, level_rolled_back, line_elements, turn, turn_of, Course, Reading, Turn, after_command, after_exit, after_line, after_read, at_start, course_by, ended, exits, goes_on, of_session, transcript_by, AreDistinct, Hook, waiting, SessionState, opening, top_context, AreHooks, StandsBetweenLines, IsSound, KindTable, Ended, context_gone, for_each, switched, Kind, Event, HooksCounted, hooks_of}
use Rattle.session_laws.proofs.Rules.{EndLeaves, KeyLeaves, Part, Sight, item_comes, of_descriptors, of_kinds, owner_makes, unseen_owners, exit_follows, line_spoken, Reader, allows_all, events_of, seen_after, allows_all-append, events_of-append, events_of-other, events_of-own, seen_after-append, turn_stands, AreSaid, said_more, said_none, table-closed, table-opened, ShelfState, held, exited_counts_hooks, turn_counts_hooks, distinct_times, times_append, times_distinct, word_times}
use Rattle.session_laws.proofs.Usual.{Usual, any, usual_any, any_turn_follows, usual_makes, usual_moves, plain_ends}
use Rattle.std.proofs.lemmas.List.Concat.{flat_map-cons, length-flat_map}
use Rattle.pgs_command.specs.declared.lines.Line.{Line}
use Rattle.pgs_command.specs.declared.lines.BadLine.{BadLine}
use Rattle.session_rules.proofs.OpeningStands.{opening_stands}
use Rattle.session_rules.proofs.Standings.{stands_between_elsewhere}
use Rattle.session_laws.proofs.Lives.{IsLife, IsRead, Reads, read_both, then_read}
use Rattle.session_rules.proofs.Ordinary.{elements_ordinary, gone_ordinary, is_ordinary, recovery_ordinary, rollback_ordinary}
use Rattle.pgs_step.specs.declared.events.What.TheVariants as what

-- The law: the table of the kinds is the same behind, and so is how many descriptors there are.
pub record KeepsKinds (s t : Scene) (events : List What) : Type 0 where
  pub same : table_of t.around.kinds ≡ table_of s.around.kinds
  pub descriptors : t.around.descriptors ≡ s.around.descriptors

abbrev sees_kinds : Part → Bool
sees_kinds of_kinds = true
sees_kinds of_descriptors = true
sees_kinds other = false

abbrev sight : Sight sees_kinds any KeepsKinds
sight = record {
  both = λ h k. record { same = k.same ∙ h.same; descriptors = k.descriptors ∙ h.descriptors };
  aside = λ s t same said. record { same = ap table_of (same.so of_kinds refl); descriptors = same.so of_descriptors refl };
}

keys : KeyLeaves KeepsKinds
keys = search (table-opened, table-closed)

usual : Usual sees_kinds any
usual = assumption usual_any

kinds_ends : EndLeaves KeepsKinds
kinds_ends =
    plain_ends sight usual keys refl refl refl (λ level. (refl, refl, refl, refl)) (λ item n. refl) (λ n. refl) (λ n parent. refl)
    (unseen_owners sees_kinds any KeepsKinds sight refl (λ item n. refl) (λ item n. refl) (item_comes sees_kinds any KeepsKinds sight refl refl (λ item n. refl)))

turn_so : (w : Option ℕ) (line : Option Command) (m : Moment) → KeepsKinds m.scene (turn w line m).moment.scene (turn w line m).events
turn_so =
    any_turn_follows KeepsKinds kinds_ends (λ error. record { so = λ s. record { same = refl; descriptors = refl } }) (usual_makes sight usual (λ n parent name. refl) refl (owner_makes sees_kinds any KeepsKinds sight refl refl (λ n. refl) (λ n parent. refl))) (usual_moves sight usual)

exit_so : (s : Scene) → KeepsKinds s (exited s).scene (exited s).events
exit_so s = exit_follows KeepsKinds kinds_ends (record { so = λ s. record { same = refl; descriptors = refl } }) s

pub turn_keeps_kinds : (w : Option ℕ) (line : Option Command) (m : Moment) → table_of (turn w line m).moment.scene.around.kinds ≡ table_of m.scene.around.kinds
turn_keeps_kinds w line m = (turn_so w line m).same

pub turn_keeps_descriptors : (w : Option ℕ) (line : Option Command) (m : Moment) → (turn w line m).moment.scene.around.descriptors ≡ m.scene.around.descriptors
turn_keeps_descriptors w line m = (turn_so w line m).descriptors

pub exit_keeps_kinds : (s : Scene) → table_of (exited s).scene.around.kinds ≡ table_of s.around.kinds
exit_keeps_kinds s = (exit_so s).same

-- The hooks of all sessions together, when those of one session change; and places of lists.

-- the hooks that wait in sessions
abbrev pub all_waiting : List SessionState → List Hook
all_waiting sessions = flat_map (λ session. waiting session.contexts) sessions

-- As many hooks are out of the shelf as wait in all sessions, and no two of those that wait and those that the shelf holds have one word.
pub record HooksFit (sessions : List SessionState) (x : ShelfState) : Type 0 where
  pub out : length (all_waiting sessions) ≤ x.out
  pub words : AreDistinct (all_waiting sessions ++ held x)

-- how many of a session's hooks have a word, and how many wait
abbrev words_in : ℕ → SessionState → ℕ
words_in n session = word_times n (waiting session.contexts)

abbrev many_in : SessionState → ℕ
many_in session = length (waiting session.contexts)

words_together : (n : ℕ) (sessions : List SessionState) → word_times n (all_waiting sessions) ≡ sum_by (words_in n) sessions
words_together n [] = refl
words_together n (session ∷ sessions) = search (arith, words_together n sessions, word_times, flat_map-cons, times_append, sum_by-cons)

many_together : (sessions : List SessionState) → length (all_waiting sessions) ≡ sum_by many_in sessions
many_together sessions = length-flat_map (λ (s : SessionState). waiting s.contexts) sessions

-- a session's part of the sum
part_of : (f : SessionState → ℕ) (sessions : List SessionState) (place : ℕ) (session : SessionState) → slice_get sessions place ≡ Some session → f session ≤ sum_by f sessions
part_of f sessions place session there =
    let is : slice_index_or sessions place session ≡ session = get_or_from_slice_get sessions place session session there in
    omega (arith, ap f is, get_or-le-sum_by f sessions place session (slice_get_within sessions place session there))

changed : (f : SessionState → ℕ) (sessions : List SessionState) (place : ℕ) (session left : SessionState) → slice_get sessions place ≡ Some session
    → sum_by f (slice_set sessions place left) + f session ≡ sum_by f sessions + f left
changed f sessions place session left there =
    let is : slice_index_or sessions place session ≡ session = get_or_from_slice_get sessions place session session there in
    omega (arith, ap f is, sum_by-set f sessions place left session (slice_get_within sessions place session there))

-- the hooks of each session fit the shelf
pub hooks_of_one : (sessions : List SessionState) (x : ShelfState) (place : ℕ) (session : SessionState) → slice_get sessions place ≡ Some session → HooksFit sessions x → AreHooks session.contexts x
hooks_of_one sessions x place session there h = record {
  out = omega (arith, h.out, many_together sessions, part_of many_in sessions place session there);
  words = times_distinct (waiting session.contexts ++ held x)
      (λ n. omega (
        arith,
        distinct_times (all_waiting sessions ++ held x) h.words n,
        times_append n (all_waiting sessions) (held x),
        times_append n (waiting session.contexts) (held x),
        words_together n sessions,
        part_of (words_in n) sessions place session there,
      ));
}

pub word_times_are : (n : ℕ) (hooks : List Hook) → word_times n hooks ≡ hooks_of n hooks
word_times_are n [] = refl
word_times_are n (hook ∷ hooks) = omega (arith, word_times_are n hooks, sum_by-cons (λ (h : Hook). cond (h.word == n) 1 0) hook hooks)

-- one session's hooks changed as they are counted
pub hooks_behind : (sessions : List SessionState) (x y : ShelfState) (place : ℕ) (session left : SessionState) (events : List What) → slice_get sessions place ≡ Some session
    → HooksCounted session.contexts x left.contexts y events → HooksFit sessions x → HooksFit (slice_set sessions place left) y
hooks_behind sessions x y place session left events there count h = record {
  out =
      let own = hooks_of_one sessions x place session there h in
      omega (
        arith,
        h.out,
        many_together sessions,
        many_together (slice_set sessions place left),
        changed many_in sessions place session left there,
        count.out own.out,
      );
  words = times_distinct (all_waiting (slice_set sessions place left) ++ held y)
      (λ n. omega (
        arith,
        distinct_times (all_waiting sessions ++ held x) h.words n,
        times_append n (all_waiting sessions) (held x),
        times_append n (all_waiting (slice_set sessions place left)) (held y),
        words_together n sessions,
        words_together n (slice_set sessions place left),
        changed (words_in n) sessions place session left there,
        count.counts.whole n,
        word_times_are n (waiting session.contexts ++ held x),
        word_times_are n (waiting left.contexts ++ held y),
        times_append n (waiting session.contexts) (held x),
        times_append n (waiting left.contexts) (held y),
      ));
}

-- no hook waits in sessions as they open
none_wait : (n : ℕ) → all_waiting (replicate n opening) ≡ []
unfolding opening
none_wait zero = refl
none_wait (suc n) = none_wait n

pub hooks_at_first : (n : ℕ) (x : ShelfState) → AreDistinct (held x) → HooksFit (replicate n opening) x
hooks_at_first n x differ = grind (arith, nat_tests, none_wait)

-- places of lists
pub replicated : {A : Type 0} (n place : ℕ) (x y : A) → slice_get (replicate n x) place ≡ Some y → y ≡ x
replicated zero place x y h = cc
replicated (suc n) zero x y h = cc
replicated (suc n) (suc place) x y h = replicated n place x y h

-- what stands in a list one of whose places was set
pub place_set : {A : Type 0} (xs : List A) (i : ℕ) (y : A) (j : ℕ) (x : A) → slice_get (slice_set xs i y) j ≡ Some x → ((j ≡ i) × (x ≡ y)) ⊎ ((j ≢ i) × (slice_get xs j ≡ Some x))
place_set [] i y j x h = absurd (cc h)
place_set (z ∷ zs) zero y zero x h = inl (refl, cc)
place_set (z ∷ zs) zero y (suc j) x h = inr (λ e. omega (arith, e), h)
place_set (z ∷ zs) (suc i) y zero x h = inr (λ e. omega (arith, e), h)
place_set (z ∷ zs) (suc i) y (suc j) x h = grind (arith, nat_tests, place_set zs i y j x h)

-- the other places of it
pub place_other : {A : Type 0} (xs : List A) (i j : ℕ) (y : A) → j ≢ i → slice_get (slice_set xs i y) j ≡ slice_get xs j
place_other [] i j y other = refl
place_other (z ∷ zs) zero zero y other = absurd (other refl)
place_other (z ∷ zs) zero (suc j) y other = refl
place_other (z ∷ zs) (suc i) zero y other = refl
place_other (z ∷ zs) (suc i) (suc j) y other = place_other zs i j y (λ e. other (omega (arith, e)))

-- What each turn and each exit of a session keeps, a whole run keeps: so the events of each session in a transcript are read as those of a life.

-- the session of this number in its surroundings
abbrev pub scene_at : ℕ → SessionState → World → Scene
scene_at n session x = record { session = session; around = around n x }

-- this is the session of the number
pub record IsThere (n : ℕ) (session : SessionState) (x : World) : Type 0 where
  pub some : 1 ≤ n
  pub there : slice_get x.sessions (n - 1) ≡ Some session

-- a number that none of so many sessions has
abbrev pub IsOutside : ℕ → ℕ → Type 0
IsOutside sessions n = (n ≡ 0) ⊎ (sessions < n)

there_of : (n : ℕ) (session : SessionState) (x : World) → session_at n x ≡ Some session → IsThere n session x
there_of n session x h = grind (arith, nat_tests)

-- As a run stands: the sessions from this number on are between two lines.
pub record AreStanding (kinds : KindTable) (sessions from : ℕ) (x : World) : Type 0 where
  pub table : table_of x.kinds ≡ kinds
  pub many : length x.sessions ≡ sessions
  pub hooks : HooksFit x.sessions x.shelf
  pub lines : (n : ℕ) (session : SessionState) → from ≤ n → IsThere n session x → StandsBetweenLines (scene_at n session x)

-- the run behind a turn
abbrev pub behind_turn : ℕ → Turn → World → World
behind_turn n turn x = record (with_scene n turn.moment.scene x) { calls = turn.moment.calls }

-- What is kept by each turn of a session that stands, by a line of a session that isn't there, and by each exit.
pub record CourseLaw (kinds : KindTable) (sessions : ℕ) (P : ℕ → World → List Event → Type 0) : Type 0 where
  pub turns : (n : ℕ) (session : SessionState) (x : World) (events : List Event) (w : Option ℕ) (line : Option Command) → IsThere n session x → AreStanding kinds sessions 1 x → P 1 x events
      → P 1 (behind_turn n (turn w line (moment n session x)) x) (events ++ of_session n (turn w line (moment n session x)).events)
  pub misses : (n : ℕ) (x : World) (events : List Event) (error : Error) → IsOutside sessions n → AreStanding kinds sessions 1 x → P 1 x events → P 1 x (events ++ of_session n (what.Error error ∷ []))
  pub exits : (n : ℕ) (session : SessionState) (x : World) (events : List Event) → IsThere n session x → AreStanding kinds sessions n x → P n x events
      → P (n + 1) (with_scene n (exited (scene_at n session x)).scene x) (events ++ of_session n (exited (scene_at n session x)).events)

module _ (kinds : KindTable) (sessions : ℕ) where
  -- one session changes, while the others stay
  stand_on : (from least n : ℕ) (session : SessionState) (x : World) (behind : Scene) (calls : ℕ) (events : List What) → IsThere n session x → from ≤ least
      → table_of behind.around.kinds ≡ table_of x.kinds → HooksCounted session.contexts x.shelf behind.session.contexts behind.around.shelf events → (least ≤ n → StandsBetweenLines behind)
      → AreStanding kinds sessions from x → AreStanding kinds sessions least (record (with_scene n behind x) { calls = calls })
  stand_on from least n session x behind calls events there more same count stands h =
      let y : World = record (with_scene n behind x) { calls = calls } in
      let fit : HooksFit (slice_set x.sessions (n - 1) behind.session) behind.around.shelf =
      hooks_behind x.sessions x.shelf behind.around.shelf (n - 1) session behind.session events there.there count h.hooks in
      record {
        table = same ∙ h.table;
        many = length-set x.sessions (n - 1) behind.session ∙ h.many;
        hooks = fit;
        lines = λ m t l u.
            let own : AreHooks t.contexts behind.around.shelf = hooks_of_one (slice_set x.sessions (n - 1) behind.session) behind.around.shelf (m - 1) t u.there fit in
            elim (place_set x.sessions (n - 1) behind.session (m - 1) t u.there) [
              | inl is ↦
                  let e : m ≡ n = omega (arith, is.0, u.some, there.some) in
                  subst (λ (z : SessionState). StandsBetweenLines (scene_at m z y)) (sym is.1)
                  (stands_between_elsewhere behind.session behind.around (around m y) (subst (λ (z : SessionState). AreHooks z.contexts behind.around.shelf) is.1 own) refl (stands (omega (arith, l, e))))
              | inr other ↦ stands_between_elsewhere t (around m x) (around m y) own same (h.lines m t (omega (arith, l, more)) (record { some = u.some; there = other.1 }))
            ];
      }

  stand_turned : (w : Option ℕ) (line : Option Command) (n : ℕ) (session : SessionState) (x : World) → IsThere n session x → AreStanding kinds sessions 1 x
      → AreStanding kinds sessions 1 (behind_turn n (turn w line (moment n session x)) x)
  stand_turned w line n session x there h =
      let m : Moment = moment n session x in
      let k : StandsBetweenLines (scene_at n session x) = h.lines n session there.some there in
      stand_on 1 1 n session x (turn w line m).moment.scene (turn w line m).moment.calls (turn w line m).events there (omega arith) (turn_keeps_kinds w line m) (turn_counts_hooks w line m k) (λ l. turn_stands w line m k) h

  stand_ended : (n : ℕ) (session : SessionState) (x : World) → IsThere n session x → AreStanding kinds sessions n x
      → AreStanding kinds sessions (n + 1) (with_scene n (exited (scene_at n session x)).scene x)
  stand_ended n session x there h =
      let s : Scene = scene_at n session x in
      let k : StandsBetweenLines s = h.lines n session (omega arith) there in
      stand_on n (n + 1) n session x (exited s).scene x.calls (exited s).events there (omega arith) (exit_keeps_kinds s)
      (exited_counts_hooks s (record { once = k.stands.contexts.once; below = k.stands.contexts.below })) (λ l. absurd (omega (arith, l))) h

  stand_first : (options : Options) (all : List Kind) (shelf : ShelfState) → table_of all ≡ kinds → IsSound (table_of all) → AreDistinct (held shelf) → options.sessions ≡ sessions
      → AreStanding kinds sessions 1 (opened options all shelf)
  stand_first options all shelf table sound differ many = record {
    table = table;
    many = length-replicate options.sessions opening ∙ many;
    hooks = hooks_at_first options.sessions shelf differ;
    lines = λ n session l u.
        let is : session ≡ opening = replicated options.sessions (n - 1) opening session u.there in
        subst (λ (z : SessionState). StandsBetweenLines (scene_at n z (opened options all shelf))) (sym is) (opening_stands (around n (opened options all shelf)) differ sound);
  }

  module _ (P : ℕ → World → List Event → Type 0) (law : CourseLaw kinds sessions P) where
    record Holds (from : ℕ) (course : Course) : Type 0 where
      stands : AreStanding kinds sessions from course.world
      keeps : P from course.world course.events

    command_holds : (w : Option ℕ) (course : Course) (n : ℕ) (line : Option Command) (o : Option SessionState) → session_at n course.world ≡ o → Holds 1 course → Holds 1 (after_command w course n line o)
    command_holds w course n line None is h = grind (arith, nat_tests, slice_get_cases)
    command_holds w course n line (Some session) is h =
        let there : IsThere n session course.world = there_of n session course.world is in
        record {
          stands = stand_turned w line n session course.world there h.stands;
          keeps = law.turns n session course.world course.events w line there h.stands h.keeps;
        }

    read_holds : (w : Option ℕ) (course : Course) (r : Result Line BadLine) → Holds 1 course → Holds 1 (after_read w course r)
    read_holds w course (Ok line) h = command_holds w course line.session (Some line.command) (session_at line.session course.world) refl h
    read_holds w course (Err bad) h = command_holds w course bad.session None (session_at bad.session course.world) refl h

    line_holds : (reads : Reading) (w : Option ℕ) (line : List ℕ) (course : Course) → Holds 1 course → Holds 1 (after_line reads w line course)
    line_holds reads w line course h = go course.wanted
      where
        go : (b : Bool) → Holds 1 (elim b as (λ _. Course) [ true ↦ course | false ↦ after_read w course (reads line) ])
        go true = h
        go false = read_holds w course (reads line) h

    lines_hold : (reads : Reading) (w : Option ℕ) (lines : List (List ℕ)) (course : Course) → Holds 1 course → Holds 1 (goes_on reads w lines course)
    lines_hold reads w [] course h = h
    lines_hold reads w (line ∷ lines) course h = lines_hold reads w lines (after_line reads w line course) (line_holds reads w line course h)

    exits_hold : (n : ℕ) (rest : List SessionState) (course : Course) → 1 ≤ n → n + length rest ≡ sessions + 1
        → ((j : ℕ) (t : SessionState) → slice_get rest j ≡ Some t → slice_get course.world.sessions (j + (n - 1)) ≡ Some t) → Holds n course → Holds (sessions + 1) (exits n rest course)
    exits_hold n [] course some many are h = let e : n ≡ sessions + 1 = omega (arith, many) in subst (λ (k : ℕ). Holds k course) e h
    exits_hold n (session ∷ rest) course some many are h =
        let at_first : 0 + (n - 1) ≡ n - 1 = omega arith in
        let there : IsThere n session course.world = record { some = some; there = ap (slice_get course.world.sessions) (sym at_first) ∙ are zero session refl } in
        let behind : Ended = exited (scene_at n session course.world) in
        exits_hold (n + 1) rest (after_exit n course behind) (omega arith) (omega (arith, many))
        (λ j t e.
        let same : j + (n + 1 - 1) ≡ suc j + (n - 1) = omega (arith, some) in
        place_other course.world.sessions (n - 1) (j + (n + 1 - 1)) behind.scene.session (λ q. omega (arith, q, some))
        ∙ (ap (slice_get course.world.sessions) same ∙ are (suc j) t e))
        (record {
          stands = stand_ended n session course.world there h.stands;
          keeps = law.exits n session course.world course.events there h.stands h.keeps;
        })

    all_end : (course : Course) → Holds 1 course → Holds (sessions + 1) (ended course)
    all_end course h =
        exits_hold 1 course.world.sessions course (omega arith) (omega (arith, h.stands.many))
        (λ j t e. let same : j + (1 - 1) ≡ j = omega arith in ap (slice_get course.world.sessions) same ∙ e) h

    -- So it is kept by a whole run, from its opening to the exits of all sessions.
    pub run_keeps : (reads : Reading) (w : Option ℕ) (options : Options) (all : List Kind) (shelf : ShelfState) (lines : List (List ℕ)) → table_of all ≡ kinds → options.sessions ≡ sessions → IsSound (table_of all) → AreDistinct (held shelf)
        → P 1 (opened options all shelf) [] → P (sessions + 1) (ended (course_by reads w options all shelf lines)).world (transcript_by reads w options all shelf lines)
    unfolding course_by transcript_by
    run_keeps reads w options all shelf lines table many sound differ first =
        (all_end (goes_on reads w lines (at_start (opened options all shelf)))
        (lines_hold reads w lines (at_start (opened options all shelf)) (record { stands = stand_first options all shelf table sound differ many; keeps = first }))).keeps

-- What the events of each session in a transcript owe a reader: those of a session of the run are allowed, and what is seen in the end is as it is to be;
-- of a number that no session has there are only errors, and what is seen fits a session that has just opened.
pub record HaveLived {Seen : Type 0} (kinds : KindTable) (reader : Reader Seen) (Fits : Seen → Scene → Type 0) (start : Seen) (Last : Seen → Type 0) (sessions : ℕ) (events : List Event) : Type 0 where
  pub allowed : (n : ℕ) → allows_all reader start (events_of n events) ≡ true
  pub lasts : (n : ℕ) → 1 ≤ n → n ≤ sessions → Last (seen_after reader start (events_of n events))
  pub opens : (n : ℕ) → IsOutside sessions n → (around : Around) × (table_of around.kinds ≡ kinds) × Fits (seen_after reader start (events_of n events)) (record { session = opening; around = around })

own_events : (n : ℕ) (events : List Event) (whats : List What) → events_of n (events ++ of_session n whats) ≡ events_of n events ++ whats
own_events n events whats = events_of-append n events (of_session n whats) ∙ ap (λ (more : List What). events_of n events ++ more) (events_of-own n whats)

other_events : (n m : ℕ) (events : List Event) (whats : List What) → m ≢ n → events_of n (events ++ of_session m whats) ≡ events_of n events
other_events n m events whats differ =
    events_of-append n events (of_session m whats) ∙ (ap (λ (more : List What). events_of n events ++ more) (events_of-other n m whats differ) ∙ append-nil (events_of n events))

module _ {Seen : Type 0} (kinds : KindTable) (reader : Reader Seen) (Fits : Seen → Scene → Type 0) (start : Seen) (Last : Seen → Type 0) (life : IsLife kinds reader Fits start Last) (sessions : ℕ) (nowhere : Around) where
  -- what was read so far, and what is read of it in the end
  abbrev Has : Scene → List What → Type 0
  Has s whats = IsRead reader Fits start s whats

  record Ends (whats : List What) : Type 0 where
    allowed : allows_all reader start whats ≡ true
    lasts : Last (seen_after reader start whats)

  -- The events of each session are read: those of sessions that have ended, of those that go on, and of numbers that no session has.
  record AreReading (from : ℕ) (x : World) (events : List Event) : Type 0 where
    ended_well : (n : ℕ) → 1 ≤ n → n < from → Ends (events_of n events)
    going : (n : ℕ) (session : SessionState) → from ≤ n → IsThere n session x → Has (scene_at n session x) (events_of n events)
    beside : (n : ℕ) → IsOutside sessions n → Has (record { session = opening; around = nowhere }) (events_of n events)

  read_on : (s t : Scene) (before whats : List What) → Has s before → Reads reader Fits s t whats → Has t (before ++ whats)
  read_on s t before whats h k = then_read reader start s t before whats h (k.so (seen_after reader start before))

  read_elsewhere : (session : SessionState) (a b : Around) (whats : List What) → table_of b.kinds ≡ table_of a.kinds → b.descriptors ≡ a.descriptors → Has (record { session = session; around = a }) whats → Has (record { session = session; around = b }) whats
  read_elsewhere session a b whats same descriptors h = record { allowed = h.allowed; fits = life.elsewhere (seen_after reader start whats) session a b same descriptors h.fits }

  -- a number that no session has isn't that of one
  apart : (n m : ℕ) (session : SessionState) (x : World) → length x.sessions ≡ sessions → IsThere n session x → IsOutside sessions m → n ≢ m
  apart n m session x many there out e = grind (arith, nat_tests, slice_get_within)

  turned : (n : ℕ) (session : SessionState) (x : World) (events : List Event) (w : Option ℕ) (line : Option Command) → IsThere n session x → AreStanding kinds sessions 1 x → AreReading 1 x events
      → AreReading 1 (behind_turn n (turn w line (moment n session x)) x) (events ++ of_session n (turn w line (moment n session x)).events)
  turned n session x events w line there stands h =
      let m : Moment = moment n session x in
      let t : Scene = (turn w line m).moment.scene in
      let whats : List What = (turn w line m).events in
      let y : World = behind_turn n (turn w line m) x in
      let own : Has t (events_of n events ++ whats) =
      read_on (scene_at n session x) t (events_of n events) whats (h.going n session there.some there) (life.turns w line m (stands.lines n session there.some there)) in
      record {
        ended_well = λ k l u. absurd (omega (arith, l, u));
        going = λ k left l u. elim (place_set x.sessions (n - 1) t.session (k - 1) left u.there) [
          | inl is ↦
              let e : k ≡ n = omega (arith, is.0, u.some, there.some) in
              subst (λ (z : SessionState). Has (scene_at k z y) (events_of k (events ++ of_session n whats))) (sym is.1)
              (subst (λ (j : ℕ). Has (scene_at k t.session y) (events_of j (events ++ of_session n whats))) (sym e)
              (subst (λ (es : List What). Has (scene_at k t.session y) es) (sym (own_events n events whats)) (read_elsewhere t.session t.around (around k y) (events_of n events ++ whats) refl (sym (turn_keeps_descriptors w line m)) own)))
          | inr other ↦
              let e : n ≢ k = λ q. other.0 (omega (arith, q)) in
              subst (λ (es : List What). Has (scene_at k left y) es) (sym (other_events k n events whats e))
              (read_elsewhere left (around k x) (around k y) (events_of k events) (turn_keeps_kinds w line m) refl (h.going k left l (record { some = u.some; there = other.1 })))
        ];
        beside = λ k out. subst (λ (es : List What). Has (record { session = opening; around = nowhere }) es) (sym (other_events k n events whats (apart n k session x stands.many there out))) (h.beside k out);
      }

  missed : (n : ℕ) (x : World) (events : List Event) (error : Error) → length x.sessions ≡ sessions → IsOutside sessions n → AreReading 1 x events → AreReading 1 x (events ++ of_session n (what.Error error ∷ []))
  missed n x events error many out h =
      let whats : List What = what.Error error ∷ [] in
      let none : Scene = record { session = opening; around = nowhere } in
      record {
        ended_well = λ k l u. absurd (omega (arith, l, u));
        going = λ k left l u. subst (λ (es : List What). Has (scene_at k left x) es) (sym (other_events k n events whats (λ e. apart k n left x many u out (sym e)))) (h.going k left l u);
        beside = λ k o. elim (cases_eq n k) [
          | inl e ↦
              subst (λ (j : ℕ). Has none (events_of j (events ++ of_session n whats))) e
              (subst (λ (es : List What). Has none es) (sym (own_events n events whats)) (read_on none none (events_of n events) whats (h.beside n out) (life.error error none)))
          | inr differ ↦ subst (λ (es : List What). Has none es) (sym (other_events k n events whats differ)) (h.beside k o)
        ];
      }

  left : (n : ℕ) (session : SessionState) (x : World) (events : List Event) → IsThere n session x → AreStanding kinds sessions n x → AreReading n x events
      → AreReading (n + 1) (with_scene n (exited (scene_at n session x)).scene x) (events ++ of_session n (exited (scene_at n session x)).events)
  left n session x events there stands h =
      let s : Scene = scene_at n session x in
      let whats : List What = (exited s).events in
      let y : World = with_scene n (exited s).scene x in
      let now : Has s (events_of n events) = h.going n session (omega arith) there in
      let more : (allows_all reader (seen_after reader start (events_of n events)) whats ≡ true) × Last (seen_after reader (seen_after reader start (events_of n events)) whats) =
      life.exits s (stands.lines n session (omega arith) there) (seen_after reader start (events_of n events)) now.fits in
      let own : Ends (events_of n events ++ whats) = grind (arith, nat_tests, allows_all-append, seen_after-append) in
      record {
        ended_well = grind (arith, nat_tests, cases_eq, own_events, other_events);
        going = λ k t l u. elim (place_set x.sessions (n - 1) (exited s).scene.session (k - 1) t u.there) [
          | inl is ↦ absurd (omega (arith, is.0, l, u.some, there.some))
          | inr other ↦
              let e : n ≢ k = λ q. other.0 (omega (arith, q)) in
              subst (λ (es : List What). Has (scene_at k t y) es) (sym (other_events k n events whats e))
              (read_elsewhere t (around k x) (around k y) (events_of k events) (exit_keeps_kinds s) refl (h.going k t (omega (arith, l)) (record { some = u.some; there = other.1 })))
        ];
        beside = λ k out. subst (λ (es : List What). Has (record { session = opening; around = nowhere }) es) (sym (other_events k n events whats (apart n k session x stands.many there out))) (h.beside k out);
      }

  -- so all of this is kept by a run
  reading_law : CourseLaw kinds sessions AreReading
  reading_law = record {
    turns = λ n session x events w line there stands h. turned n session x events w line there stands h;
    misses = λ n x events error out stands h. missed n x events error stands.many out h;
    exits = λ n session x events there stands h. left n session x events there stands h;
  }

  first_read : (x : World) → ((n : ℕ) (session : SessionState) → IsThere n session x → session ≡ opening) → table_of x.kinds ≡ kinds → table_of nowhere.kinds ≡ kinds → AreReading 1 x []
  first_read x fresh table none = record {
    ended_well = λ n l u. absurd (omega (arith, l, u));
    going = λ n session l u.
        subst (λ (z : SessionState). Has (scene_at n z x) []) (sym (fresh n session u)) (record { allowed = refl; fits = life.opens (around n x) table });
    beside = λ n out. record { allowed = refl; fits = life.opens nowhere none };
  }

  have_lived : (x : World) (events : List Event) → table_of nowhere.kinds ≡ kinds → AreReading (sessions + 1) x events → HaveLived kinds reader Fits start Last sessions events
  have_lived x events table h = grind (arith, nat_tests, cases_eq, cases_lt)

-- From the life of a session to the events of each session in a transcript, where the hooks on the shelf differ and the kinds are sound.
pub lives_in_run : {Seen : Type 0} (reader : Reader Seen) (Fits : Seen → Scene → Type 0) (start : Seen) (Last : Seen → Type 0) (reads : Reading) (w : Option ℕ) (options : Options) (kinds : List Kind) (shelf : ShelfState) (lines : List (List ℕ))
    → IsSound (table_of kinds) → AreDistinct (held shelf) → IsLife (table_of kinds) reader Fits start Last
    → HaveLived (table_of kinds) reader Fits start Last options.sessions (transcript_by reads w options kinds shelf lines)
lives_in_run reader Fits start Last reads w options kinds shelf lines sound differ life =
    let x : World = opened options kinds shelf in
    let nowhere : Around = around 0 x in
    have_lived (table_of kinds) reader Fits start Last life options.sessions nowhere (ended (course_by reads w options kinds shelf lines)).world (transcript_by reads w options kinds shelf lines) refl
    (run_keeps (table_of kinds) options.sessions (AreReading (table_of kinds) reader Fits start Last life options.sessions nowhere) (reading_law (table_of kinds) reader Fits start Last life options.sessions nowhere)
    reads w options kinds shelf lines refl refl sound differ
    (first_read (table_of kinds) reader Fits start Last life options.sessions nowhere x (λ n session u. replicated options.sessions (n - 1) opening session u.there) refl refl))

-- What is seen in the end is as it is to be for each number, where that is so of a session that has just opened.
pub last_of_all : {Seen : Type 0} {kinds : KindTable} {reader : Reader Seen} {Fits : Seen → Scene → Type 0} {start : Seen} {Last : Seen → Type 0} {sessions : ℕ} {events : List Event}
    → HaveLived kinds reader Fits start Last sessions events → ((seen : Seen) (around : Around) → Fits seen (record { session = opening; around = around }) → Last seen)
    → (n : ℕ) → Last (seen_after reader start (events_of n events))
last_of_all {reader = reader} {start = start} {sessions = sessions} {events = events} h fresh n =
    elim (cases_eq n 0) [
      | inl e ↦ let o = h.opens n (inl e) in fresh (seen_after reader start (events_of n events)) o.0 o.2
      | inr some ↦ elim (cases_lt sessions n) [
        | inl past ↦ let o = h.opens n (inr past) in fresh (seen_after reader start (events_of n events)) o.0 o.2
        | inr within ↦ h.lasts n (omega (arith, some)) within
      ]
    ]

-- A session says that it ends once, and nothing behind that.

-- the reader lets what says neither pass, and the session goes on
passes : (event : What) → is_ordinary event ≡ true → (ending.allows event false ≡ true) × (ending.next event false ≡ false)
passes event h = grind (arith, nat_tests)

all_pass : {events : List What} → AreSaid is_ordinary events → (allows_all ending false events ≡ true) × (seen_after ending false events ≡ false)
all_pass said_none = (refl, refl)
all_pass (said_more {event = event} {events = events} h hs) = grind (arith, nat_tests, all_pass hs, passes)

-- the session hasn't said that it ends
abbrev pub IsOn : Bool → Scene → Type 0
IsOn ended s = ended ≡ false

from_going : (t : Scene) (events : List What) → (allows_all ending false events ≡ true) × (seen_after ending false events ≡ false) → (ended : Bool) → IsOn ended t → IsRead ending IsOn ended t events
from_going t events read ended on = subst (λ (b : Bool). IsRead ending IsOn b t events) (sym on) (record { allowed = read.0; fits = read.1 })

turn_of_goes : (s : Scene) (done : Done) (refusal : Option Error) → AreSaid is_ordinary done.events → Reads ending IsOn s (turn_of done refusal).moment.scene (turn_of done refusal).events
unfolding recovered
turn_of_goes s done None h = record { so = from_going _ _ (all_pass h) }
turn_of_goes s done (Some error) h =
    read_both ending IsOn {t = done.moment.scene} (record { so = from_going _ _ (all_pass h) })
    (read_both ending IsOn {t = done.moment.scene} {xs = what.Error error ∷ []} (record { so = from_going done.moment.scene (what.Error error ∷ []) (refl, refl) }) (record { so = from_going _ _ (all_pass (recovery_ordinary done.moment.scene)) }))

turn_goes : (w : Option ℕ) (line : Option Command) (m : Moment) → Reads ending IsOn m.scene (turn w line m).moment.scene (turn w line m).events
unfolding turn
turn_goes w line m =
    let done : Done = does_all w (line_elements line m.scene.session) m in
    turn_of_goes m.scene done done.refusal (elements_ordinary w (line_elements line m.scene.session) m (line_spoken false line m.scene.session (λ usual. absurd (cc usual))))

-- what a session says at its exit
exit_said : (s : Scene) → (allows_all ending false (exited s).events ≡ true) × (seen_after ending false (exited s).events ≡ true)
unfolding exited
exit_said s =
    let rolled : Ended = for_each level_rolled_back s.session.levels s in
    let rest : List What = (context_gone top_context (switched top_context rolled.scene).scene).events in
    let first = all_pass (rollback_ordinary s) in
    grind (arith, nat_tests, allows_all-append, seen_after-append, all_pass, gone_ordinary)

-- In the life of a session its end is said once, last.
pub exits_life : (kinds : KindTable) → IsLife kinds ending IsOn false (λ ended. ended ≡ true)
exits_life kinds = record {
  opens = λ around table. refl;
  elsewhere = λ ended session a b same descriptors on. on;
  error = λ error s. record { so = from_going s (what.Error error ∷ []) (refl, refl) };
  turns = λ w line m h. turn_goes w line m;
  exits = λ s h ended on. subst (λ (b : Bool). (allows_all ending b (exited s).events ≡ true) × (seen_after ending b (exited s).events ≡ true)) (sym on) (exit_said s);
}
