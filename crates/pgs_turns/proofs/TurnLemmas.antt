-- What a line's turn makes of a run, from what it makes of its session.
use Rattle.pgs_turns.proofs.Base.{◌≡◌, ◌≢◌, ℕ, ◌+◌, ◌-◌, ◌<◌, ◌≤◌, inl, inr, Bool, true, false, List, [], ◌∷◌, length, get_or, Option, Some, None, refl, sym, ap, ◌∙◌, subst, arith, slice_get, slice_set, cases_eq, nat_tests, get_or-set_same, get_or-set_other, slice_get_past}
use Rattle.pgs_turns.proofs.Words.{Event, What, Asks, Space, risen, taken, Holding, SessionState, Around, Moment, World, around, moment, session_at, with_scene, Course, Turn, after_command, after_turn, missing, of_session, turn, asked_by_command, asked_by_turn, CountsHooks, HooksCounted, other_line, own_line, StandsBetweenLines, turn_counts_hooks, more_runs, none_run, stands_between_elsewhere, StoreState, session_of, StaysBeside, Fits, IsBetweenLines, Takes, most_steps, scene_in, empty_around, fitting, fitting_fits, Said, AreStanding, HaveDescriptors, Run, one_of, sessions_in, world_in, TellHooks, GoesOn, IsWithin, TakesTurn}
use Rattle.pgs_step.specs.declared.events.What.TheVariants as what
use Rattle.addr_space.proofs.Asked.{raised-set}
use Rattle.session_core.specs.Turns.{Turned, moment_in}
use Rattle.pgs_turns.proofs.LockLemmas.{others_locked}
use Rattle.pgs_turns.proofs.PinLemmas.{others_pinned}
use Rattle.pgs_turns.proofs.ToldHooks.{tells_nothing, tells_of_one}
use Rattle.pgs_turns.proofs.SessionLemmas.{Changed, each_behind, fit_behind, have_behind, keys_fit_behind, few_behind, lines_stay, locks_fit_behind, pins_fit_behind, place_set, same_behind, same_run, session_there, world_behind}

-- the session of a number
pub at_place : (n place : ℕ) (world : World) → n ≡ place + 1 → session_at n world ≡ slice_get world.sessions place
at_place n place world is = grind (arith, nat_tests)

-- what accounts took where one of them took so many bytes
pub took_own : (account n : ℕ) (s t : Space) → account < length s.taken → Asks account n s t → taken t account ≡ risen (taken s account) n
took_own account n s t within asks =
    ap (λ (counts : List ℕ). get_or counts account 0) (asks ∙ sym (raised-set s.taken account n)) ∙ get_or-set_same s.taken account (risen (taken s account) n) 0 within

pub took_other : (own account n : ℕ) (s t : Space) → account ≢ own → Asks own n s t → taken t account ≡ taken s account
took_other own account n s t other asks =
    ap (λ (counts : List ℕ). get_or counts account 0) (asks ∙ sym (raised-set s.taken own n)) ∙ get_or-set_other s.taken own account (risen (taken s own) n) 0 other

takes_other : (wanted : Bool) (own account n : ℕ) (s t : Space) → account ≢ own → Takes wanted own n s t → taken t account ≡ taken s account
takes_other false own account n s t other asks = took_other own account n s t other asks
takes_other true own account n s t other asks = took_other own account asks.0 s t other asks.1

asks_where_done : (wanted : Bool) (account n : ℕ) (s t : Space) → wanted ≡ false → Takes wanted account n s t → Asks account n s t
asks_where_done x0 account n s t is h = grind (arith, nat_tests)

-- a line of a session that isn't there
module _ (a : Run) (said : Said) (shown : List Event → Type 0) (past : length a.stores < said.session) (few : length (sessions_in a.stores a.space) ≡ length a.stores)
    (shows : shown (of_session said.session (what.Error (missing said.command) ∷ []))) where
  none_at : (descriptors : ℕ) (course : Course) → course.world ≡ world_in descriptors a → session_at said.session course.world ≡ None
  none_at descriptors course e = grind (arith, nat_tests, at_place said.session (said.session - 1) (world_in descriptors a) (omega (arith, past)), slice_get_past (sessions_in a.stores a.space) (said.session - 1) (omega (arith, past, few)))

  pub missing_turn : TakesTurn said a a shown false
  missing_turn = record {
    leads = λ descriptors has w course f e.
        let goes : GoesOn course (after_command w course said.session said.command None) descriptors a shown false = record {
          world_is = e;
          more = of_session said.session (what.Error (missing said.command) ∷ []);
          events = refl;
          shows = shows;
          hooks = tells_nothing course.world said.session (what.Error (missing said.command) ∷ []) (more_runs (what.Error (missing said.command)) refl none_run);
          performed_is = refl;
          wanted_is = refl;
        } in
        subst (λ (o : Option SessionState). GoesOn course (after_command w course said.session said.command o) descriptors a shown false) (sym (none_at descriptors course e)) goes;
    asks = λ is descriptors has w course f e account.
        ap (λ (o : Option SessionState). risen (taken a.space account) (asked_by_command w (account + 1) course said.session said.command o)) (sym (none_at descriptors course e));
    grows = grind (arith, nat_tests);
    has = λ descriptors has. has;
    calls = omega arith;
    counted = λ e. absurd (cc e);
    same = same_run a;
  }

-- a line of a session that is there
module _ (a b : Run) (place : ℕ) (store left : StoreState) (said : Said) (during : List What → Type 0) (shown : List Event → Type 0) (wanted : Bool)
    (standing : AreStanding 0 a) (there : slice_get a.stores place ≡ Some store) (stores : b.stores ≡ slice_set a.stores place left) (number : said.session ≡ place + 1)
    (turned : Turned said.command (one_of a store) (one_of b left) during wanted) (lines : IsBetweenLines (one_of b left)) (beside : StaysBeside left)
    (shows : (ys : List What) → during ys → shown (of_session said.session ys)) where
  change : Changed a b place store left
  change = record {
    there = there;
    stores = stores;
    moves = turned.moves;
    descriptors_are = turned.grows.descriptors;
    fail = turned.fail;
    took = λ account other.
        let w : Option ℕ = fitting wanted b.calls.count in
        takes_other wanted store.tree.account account (asked_by_turn w said.command (moment_in (one_of a store) empty_around)) a.space b.space other
        (turned.taken empty_around w (fitting_fits wanted b.calls.count));
    balances = turned.balances;
  }

  session : SessionState
  session = session_of store a.space

  -- its surroundings
  abbrev surroundings : ℕ → Around
  surroundings descriptors = around said.session (world_in descriptors a)

  abbrev turn_in : Option ℕ → World → Turn
  turn_in w world = turn w said.command (moment said.session (session_of store a.space) world)

  there_in : (descriptors : ℕ) (course : Course) → course.world ≡ world_in descriptors a → session_at said.session course.world ≡ Some (session_of store a.space)
  there_in descriptors course e = ap (session_at said.session) e ∙ at_place said.session place (world_in descriptors a) number ∙ session_there a place store there

  -- the session in its surroundings, as the rules see it before the line, where these are seen so
  abbrev moment_at : Around → Moment
  moment_at scene_around = record { scene = record { session = session_of store a.space; around = scene_around }; calls = a.calls.count; fail = a.calls.fail }

  module _ (descriptors : ℕ) (has : HaveDescriptors descriptors a) (w : Option ℕ) (f : Fits wanted b.calls.count w) where
    -- as many descriptors are its share as its store has, others have locked what is held for them, and pin what is counted for them
    seen_is : (scene_in (one_of a store) (surroundings descriptors)).around ≡ surroundings descriptors
    seen_is =
        ap (λ (n : ℕ). record (scene_in (one_of a store) (surroundings descriptors)).around { descriptors = n }) (has place store there)
        ∙ ap (λ (hs : List Holding). record (surroundings descriptors) { locked = hs; pinned = (scene_in (one_of a store) (surroundings descriptors)).around.pinned })
        (sym (others_locked a place store there standing.each standing.locks said.session number))
        ∙ ap (λ (ns : List ℕ). record (surroundings descriptors) { pinned = ns })
        (sym (others_pinned a.stores a.space a.commons.pins place store (session_there a place store there) standing.pins said.session number))

    led : (turn_in w (world_in descriptors a)).moment ≡ moment_in (one_of b left) (surroundings descriptors)
    led = subst (λ (x : Around). (turn w said.command (moment_at x)).moment ≡ moment_in (one_of b left) (surroundings descriptors)) seen_is (turned.moment (surroundings descriptors) w f)

    told : during (turn_in w (world_in descriptors a)).events
    told = subst (λ (x : Around). during (turn w said.command (moment_at x)).events) seen_is (turned.says (surroundings descriptors) w f)

    wants : (turn_in w (world_in descriptors a)).wanted ≡ wanted
    wants = subst (λ (x : Around). (turn w said.command (moment_at x)).wanted ≡ wanted) seen_is (turned.wanted_is (surroundings descriptors) w f)

    took_of : Takes wanted store.tree.account (asked_by_turn w said.command (moment said.session (session_of store a.space) (world_in descriptors a))) a.space b.space
    took_of = subst (λ (x : Around). Takes wanted store.tree.account (asked_by_turn w said.command (moment_at x)) a.space b.space) seen_is (turned.taken (surroundings descriptors) w f)

  -- what its events say of its hooks, and so of those of the run
  stands_there : (descriptors : ℕ) → StandsBetweenLines (moment said.session (session_of store a.space) (world_in descriptors a)).scene
  stands_there descriptors =
      let own : StandsBetweenLines (scene_in (one_of a store) empty_around) = (standing.lines place store (omega arith) there).stands empty_around in
      stands_between_elsewhere (session_of store a.space) (scene_in (one_of a store) empty_around).around (surroundings descriptors) own.stands.hooks refl own

  tells : (descriptors : ℕ) (w : Option ℕ)
      → TellHooks (world_in descriptors a) (record (with_scene said.session (turn_in w (world_in descriptors a)).moment.scene (world_in descriptors a)) { calls = (turn_in w (world_in descriptors a)).moment.calls })
      (of_session said.session (turn_in w (world_in descriptors a)).events)
  tells descriptors w = grind (arith, nat_tests, tells_of_one (world_in descriptors a) said.session place (turn_in w (world_in descriptors a)).moment.calls (session_of store a.space) (turn_in w (world_in descriptors a)).moment.scene (turn_in w (world_in descriptors a)).events number (session_there a place store there) (turn_counts_hooks w said.command (moment said.session (session_of store a.space) (world_in descriptors a)) (stands_there descriptors)) (stands_there descriptors).stands.hooks.out, session_there a place store there, turn_counts_hooks w said.command (moment said.session (session_of store a.space) (world_in descriptors a)) (stands_there descriptors), stands_there descriptors)

  goes_on : (descriptors : ℕ) → HaveDescriptors descriptors a → (w : Option ℕ) (course : Course) → Fits wanted b.calls.count w → course.world ≡ world_in descriptors a
      → GoesOn course (after_turn course said.session (turn_in w course.world)) descriptors b shown wanted
  goes_on descriptors has w course f e = record {
    world_is =
        ap (λ (x : World). record (with_scene said.session (turn_in w x).moment.scene x) { calls = (turn_in w x).moment.calls }) e
        ∙ ap (λ (m : Moment). record (with_scene said.session m.scene (world_in descriptors a)) { calls = m.calls }) (led descriptors has w f)
        ∙ world_behind a b place store left change standing.each descriptors said.session (surroundings descriptors) number;
    more = of_session said.session (turn_in w course.world).events;
    events = refl;
    shows = shows _ (subst (λ (x : World). during (turn_in w x).events) (sym e) (told descriptors has w f));
    hooks =
        subst (λ (x : World). TellHooks x (record (with_scene said.session (turn_in w x).moment.scene x) { calls = (turn_in w x).moment.calls }) (of_session said.session (turn_in w x).events)) (sym e)
        (tells descriptors w);
    performed_is = refl;
    wanted_is = ap (λ (x : World). (turn_in w x).wanted) e ∙ wants descriptors has w f;
  }

  -- what the line asks for the session of each account
  took : wanted ≡ false → (descriptors : ℕ) → HaveDescriptors descriptors a → (w : Option ℕ) (course : Course) → Fits false b.calls.count w → course.world ≡ world_in descriptors a
      → (account : ℕ) → taken b.space account ≡ risen (taken a.space account) (asked_by_command w (account + 1) course said.session said.command (Some (session_of store a.space)))
  took is descriptors has w course f e account =
      let own = standing.each place store there in
      let fits : Fits wanted b.calls.count w = subst (λ (v : Bool). Fits v b.calls.count w) (sym is) f in
      let asks : Asks store.tree.account (asked_by_turn w said.command (moment said.session (session_of store a.space) (world_in descriptors a))) a.space b.space =
      asks_where_done wanted store.tree.account _ a.space b.space is (took_of descriptors has w fits) in
      elim (cases_eq account place) [
        | inl same ↦
            let number_is : account + 1 ≡ said.session = omega (arith, same, number) in
            let asked : asked_by_command w (account + 1) course said.session said.command (Some (session_of store a.space)) ≡ asked_by_turn w said.command (moment said.session (session_of store a.space) (world_in descriptors a)) =
            ap (λ (n : ℕ). asked_by_command w n course said.session said.command (Some (session_of store a.space))) number_is
            ∙ own_line w course said.session said.command (session_of store a.space)
            ∙ ap (λ (x : World). asked_by_turn w said.command (moment said.session (session_of store a.space) x)) e in
            let at : store.tree.account ≡ account = own.account ∙ sym same in
            let n : ℕ = asked_by_turn w said.command (moment said.session (session_of store a.space) (world_in descriptors a)) in
            took_own account n a.space b.space (subst (λ (k : ℕ). k < length a.space.taken) at own.keeps.agrees.account) (subst (λ (k : ℕ). Asks k n a.space b.space) at asks)
            ∙ ap (risen (taken a.space account)) (sym asked)
        | inr other ↦
            let none = other_line w (account + 1) course said.session said.command (Some (session_of store a.space)) (λ z. other (omega (arith, z, number))) in
            took_other store.tree.account account _ a.space b.space (λ z. other (omega (arith, z, own.account))) asks
            ∙ ap (risen (taken a.space account)) (sym none)
      ]

  -- a count of one session, and those of the others
  raised_place : (f : StoreState → ℕ) (bound : ℕ) → f left ≤ f store + most_steps → ((j : ℕ) (st : StoreState) → slice_get a.stores j ≡ Some st → f st ≤ bound) → (j : ℕ) (st : StoreState) → slice_get b.stores j ≡ Some st → f st ≤ bound + most_steps
  raised_place f bound grows h j st now = grind (arith, nat_tests, place_set)

  within : (bound : ℕ) → IsWithin bound a → IsWithin (bound + most_steps) b
  within bound h = record {
    calls = omega (arith, h.calls, turned.grows.calls);
    contexts = raised_place (λ s. s.tree.next) bound turned.grows.contexts h.contexts;
    owners = raised_place (λ s. s.owners.next_owner) bound turned.grows.owners h.owners;
    serials = raised_place (λ s. s.owners.next_serial) bound turned.grows.serials h.serials;
  }

  pub turn_taken : TakesTurn said a b shown wanted
  turn_taken = record {
    leads = λ descriptors has w course f e.
        subst (λ (o : Option SessionState). GoesOn course (after_command w course said.session said.command o) descriptors b shown wanted) (sym (there_in descriptors course e)) (goes_on descriptors has w course f e);
    asks = λ is descriptors has w course f e account.
        took is descriptors has w course f e account
        ∙ ap (λ (o : Option SessionState). risen (taken a.space account) (asked_by_command w (account + 1) course said.session said.command o)) (sym (there_in descriptors course e));
    grows = within;
    has = have_behind a b place store left change standing.each;
    calls = turned.calls;
    counted = turned.counted;
    same = same_behind a b place store left change standing.each;
  }

  events_of : List What
  events_of = (turn (fitting wanted b.calls.count) said.command (moment_in (one_of a store) empty_around)).events

  counts : HooksCounted (session_of store a.space).contexts a.shelf (session_of left b.space).contexts b.shelf events_of
  unfolding events_of
  counts =
      let w : Option ℕ = fitting wanted b.calls.count in
      let own : IsBetweenLines (one_of a store) = standing.lines place store (omega arith) there in
      subst (λ (m : Moment). CountsHooks (scene_in (one_of a store) empty_around) m.scene (turn w said.command (moment_in (one_of a store) empty_around)).events)
      (turned.moment empty_around w (fitting_fits wanted b.calls.count)) (turn_counts_hooks w said.command (moment_in (one_of a store) empty_around) (own.stands empty_around))

  pub turn_standing : AreStanding 0 b
  turn_standing = record {
    each = each_behind a b place store left change standing.each lines.keeps beside;
    lines = λ j st from now. elim (place_set a.stores place left j st (ap (λ (all : List StoreState). slice_get all j) (sym stores) ∙ now)) [
      | inl own ↦ subst (λ (s : StoreState). IsBetweenLines (one_of b s)) (sym own.1) lines
      | inr other ↦ lines_stay a b place store left change standing.each standing.hooks events_of counts standing.kinds standing.pins standing.few j st other.0 other.1 now (standing.lines j st from other.1)
    ];
    hooks = fit_behind a b place store left change standing.each standing.hooks events_of counts;
    kinds = keys_fit_behind a b place store left change standing.each standing.kinds;
    locks = locks_fit_behind a b place store left change standing.each standing.locks;
    pins = pins_fit_behind a b place store left change standing.each standing.pins;
    few = few_behind a b place store left change standing.each standing.few;
    alike = (standing.alike.0, have_behind a b place store left change standing.each standing.alike.0 standing.alike.1);
  }
