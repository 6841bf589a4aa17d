-- A line that asks for nothing: how it is read, and that it leaves the run as it is.
use Rattle.pgs_turns.proofs.Base.{◌≡◌, ℕ, zero, suc, ◌+◌, ◌<◌, ◌≤◌, Bool, true, false, List, [], ◌∷◌, ◌++◌, length, Option, Some, None, Ok, refl, sym, ap, ◌∙◌, subst, arith, ◌==◌, if◌then◌else◌, nat_lt, slice_get, slice_set, unwrap_or, nat_tests, take_all}
use Rattle.pgs_turns.proofs.Words.{IsKept, Event, is_comment, prefix_of, read_line, said, risen, taken, SessionState, Moment, moment, session_at, Course, after_command, after_turn, turn, turn_of, asked_all, asked_by_command, asked_by_turn, StoreState, session_of, Said, said_in, Run, world_in, GoesOn, TakesTurn}
use Rattle.pgs_command.specs.declared.commands.Command.TheVariants as command
use Rattle.session_rules.specs.Elements.{Element}
use Rattle.session_rules.specs.Commands.{elements_of}
use Rattle.session_rules.specs.Does.{does_all}
use Rattle.pgs_turns.proofs.SessionLemmas.{same_run, session_there}
use Rattle.pgs_turns.proofs.ToldHooks.{tells_none}
use Rattle.pgs_turns.proofs.TurnLemmas.{at_place}

nothing_done : (session : SessionState) → elements_of command.Nothing session ≡ []
unfolding elements_of
nothing_done session = grind (arith, nat_tests, session.levels)

idle_turn : (w : Option ℕ) (m : Moment) → turn w (Some command.Nothing) m ≡ record { moment = m; events = []; wanted = false }
unfolding turn does_all
idle_turn w m = ap (λ (xs : List Element). turn_of (does_all w xs m) (does_all w xs m).refusal) (nothing_done m.scene.session)

pub idle_asks : (w : Option ℕ) (m : Moment) → asked_by_turn w (Some command.Nothing) m ≡ 0
unfolding asked_by_turn asked_all
idle_asks w m = ap (λ (xs : List Element). asked_all w xs m) (nothing_done m.scene.session)

set_same : {A : Type 0} (xs : List A) (place : ℕ) (x : A) → slice_get xs place ≡ Some x → slice_set xs place x ≡ xs
set_same [] place x h = refl
set_same (y ∷ ys) zero x h = ap (λ z. z ∷ ys) (let same : y ≡ x = cc h in sym same)
set_same (y ∷ ys) (suc place) x h = ap (λ zs. y ∷ zs) (set_same ys place x h)

pub idle_course : (w : Option ℕ) (course : Course) (session : SessionState) → session_at 1 course.world ≡ Some session
    → after_turn course 1 (turn w (Some command.Nothing) (moment 1 session course.world)) ≡ record { world = course.world; events = course.events ++ []; performed = course.performed + 1; wanted = false }
idle_course w course session there =
    ap (after_turn course 1) (idle_turn w (moment 1 session course.world))
    ∙ ap (λ (sessions : List SessionState). record { world = record course.world { sessions = sessions }; events = course.events ++ []; performed = course.performed + 1; wanted = false }) (set_same course.world.sessions 0 session there)

-- it asks for no memory of any session
idle_command_asks : (w : Option ℕ) (n : ℕ) (course : Course) (session : Option SessionState) → asked_by_command w n course 1 (Some command.Nothing) session ≡ 0
idle_command_asks w n course None = refl
idle_command_asks w n course (Some session) = by_number (1 == n)
  where
    by_number : (b : Bool) → (if b then asked_by_turn w (Some command.Nothing) (moment 1 session course.world) else 0) ≡ 0
    by_number true = idle_asks w (moment 1 session course.world)
    by_number false = refl

-- what such a line says
abbrev pub idle : Said
idle = record { session = 1; command = Some command.Nothing }

-- the first session's turn of it
module _ (a : Run) (store : StoreState) (there : slice_get a.stores 0 ≡ Some store) (shown : List Event → Type 0) (shows : shown []) where
  there_in : (descriptors : ℕ) (course : Course) → course.world ≡ world_in descriptors a → session_at 1 course.world ≡ Some (session_of store a.space)
  there_in descriptors course e = ap (session_at 1) e ∙ at_place 1 0 (world_in descriptors a) refl ∙ session_there a 0 store there

  goes_on : (descriptors : ℕ) (w : Option ℕ) (course : Course) → course.world ≡ world_in descriptors a → GoesOn course (after_command w course 1 (Some command.Nothing) (Some (session_of store a.space))) descriptors a shown false
  goes_on descriptors w course e = grind (arith, nat_tests, idle_course w course (session_of store a.space) (there_in descriptors course e), there_in descriptors course e, tells_none course.world, course.world)

  idle_taken : TakesTurn idle a a shown false
  idle_taken = record {
    leads = λ descriptors has w course f e.
        subst (λ (o : Option SessionState). GoesOn course (after_command w course 1 (Some command.Nothing) o) descriptors a shown false) (sym (there_in descriptors course e)) (goes_on descriptors w course e);
    asks = λ is descriptors has w course f e account. ap (risen (taken a.space account)) (sym (idle_command_asks w (account + 1) course (session_at 1 course.world)));
    grows = grind (arith, nat_tests);
    has = λ descriptors has. has;
    calls = omega arith;
    counted = λ e. absurd (cc e);
    same = same_run a;
  }

  pub idle_turned : (said : Said) → said ≡ idle → TakesTurn said a a shown false
  idle_turned said is = subst (λ (s : Said). TakesTurn s a a shown false) (sym is) idle_taken

pub first_there : {A : Type 0} (xs : List A) → 0 < length xs → (x : A) × (slice_get xs 0 ≡ Some x)
first_there [] some = absurd (omega (arith, some))
first_there (x ∷ xs) some = (x, refl)

-- An empty line, or one that begins with `#`, of at most 512 bytes, is read so.
hash_has_no_prefix : (bs : List ℕ) → prefix_of (35 ∷ bs) ≡ None
hash_has_no_prefix x0 = grind (arith, nat_tests)

hash_line : (bs : List ℕ) → length (35 ∷ bs) ≤ 512 → read_line (35 ∷ bs) ≡ Ok (record { session = 1; command = command.Nothing })
unfolding read_line
hash_line bs short =
    let test : nat_lt 512 (length (35 ∷ bs)) ≡ false = grind (arith, nat_tests, short) in
    ap (λ (p : Option ℕ). said (unwrap_or p 1) (if nat_lt 512 (length (35 ∷ bs)) then None else Some command.Nothing)) (hash_has_no_prefix bs)
    ∙ ap (λ (b : Bool). said 1 (if b then None else Some command.Nothing)) test

comment_says : (line : List ℕ) → is_comment line ≡ true → length line ≤ 512 → read_line line ≡ Ok (record { session = 1; command = command.Nothing })
unfolding read_line
comment_says [] is short = refl
comment_says (b ∷ bs) is short =
    let hash : b ≡ 35 = grind (arith, nat_tests, is) in
    subst (λ (h : ℕ). read_line (h ∷ bs) ≡ Ok (record { session = 1; command = command.Nothing })) (sym hash) (hash_line bs short)

kept_comment : (line kept : List ℕ) (long : Bool) → IsKept line kept long → is_comment kept ≡ true → long ≡ false → read_line line ≡ Ok (record { session = 1; command = command.Nothing })
kept_comment line kept long k is short =
    let few : length line ≤ 512 = grind (arith, nat_tests, k.cut.1, short) in
    comment_says line (ap is_comment (sym (take_all 512 line few) ∙ sym k.front) ∙ is) few

pub comment_is_idle : (line kept : List ℕ) (long : Bool) → IsKept line kept long → is_comment kept ≡ true → long ≡ false → said_in (read_line line) ≡ idle
comment_is_idle line kept long k is short = ap said_in (kept_comment line kept long k is short)
