-- What the ends of all sessions make of a run, from what each makes of its session.
use Rattle.pgs_turns.proofs.Base.{nat_tests, ◌≡◌, ℕ, zero, suc, ◌+◌, ◌-◌, ◌<◌, inl, inr, List, [], ◌∷◌, ◌++◌, length, drop, Some, refl, sym, ap, ◌∙◌, subst, arith, append_assoc, append-nil, slice_get, slice_set, replicate, length-map, slice_get_within}
use Rattle.pgs_turns.proofs.Words.{Empty, Event, What, taken, Kind, Hook, waiting, ShelfState, Holding, SessionState, opening, Around, Scene, World, around, with_scene, exited, Course, after_exit, at_start, ended, exits, of_session, CountsHooks, HooksCounted, exited_counts_hooks, HasExited, Stands, owners_of, StoreState, session_of, StaysBeside, Calls, IsBetweenLines, scene_in, empty_around, AreStanding, HaveDescriptors, IsOpening, Run, SameRun, one_of, sessions_in, world_in, TellHooks, AllExit}
use Rattle.addr_space.specs.Space.{held}
use Rattle.context_rules.specs.Contexts.{Contexts}
use Rattle.session_rules.specs.Acts.{Ended}
use Rattle.session_rules.proofs.HookSteps.{IsNumbered}
use Rattle.session_rules.proofs.EndsStand.{exited_stands}
use Rattle.session_core.specs.Ended.{Ends}
use Rattle.pgs_turns.proofs.LockLemmas.{others_locked}
use Rattle.pgs_turns.proofs.PinLemmas.{others_pinned}
use Rattle.pgs_turns.proofs.SessionLemmas.{Changed, each_behind, fit_behind, have_behind, keys_fit_behind, few_behind, lines_stay, locks_fit_behind, pins_fit_behind, place_set, same_behind, same_on, same_run, session_there, sessions_behind, world_behind}
use Rattle.pgs_turns.proofs.KindLemmas.{gone_holds_none, none_held_together}
use Rattle.pgs_turns.proofs.ToldHooks.{none_waiting, tells_both, tells_none, tells_of_one}
use Rattle.pgs_turns.proofs.TurnLemmas.{took_other, took_own}

-- A course whose lines are done, and where it stands once the sessions before this place have ended.
pub record Remains (place : ℕ) (descriptors : ℕ) (run : Run) (shown : List Event → Type 0) (course : Course) : Type 0 where
  pub middle : Course
  pub rest : ended course ≡ exits (place + 1) (drop place (sessions_in run.stores run.space)) middle
  pub world_is : middle.world ≡ world_in descriptors run
  pub has : HaveDescriptors descriptors run
  pub more : List Event
  pub events : middle.events ≡ course.events ++ more
  pub shows : shown more
  pub hooks : TellHooks course.world middle.world more

-- the sessions before this place have ended
pub record HaveExited (place : ℕ) (a run : Run) (shown : List Event → Type 0) : Type 0 where
  pub leads : (descriptors : ℕ) → HaveDescriptors descriptors a → (course : Course) → course.world ≡ world_in descriptors a → Remains place descriptors run shown course
  pub calls : run.calls ≡ a.calls
  pub given_back : (account : ℕ) → account < place → held run.space account ≡ 0
  pub gone : (j : ℕ) (store : StoreState) → j < place → slice_get run.stores j ≡ Some store → owners_of store.owners ≡ Empty
  pub waits : (j : ℕ) (session : SessionState) → j < place → slice_get (sessions_in run.stores run.space) j ≡ Some session → waiting session.contexts ≡ []
  pub asks : (account : ℕ) → taken run.space account ≡ taken a.space account
  pub same : SameRun a run

pub none_exited : (a : Run) (shown : List Event → Type 0) → shown [] → HaveExited 0 a a shown
none_exited a shown h = record {
  leads = λ descriptors has course e. record {
    middle = course;
    rest = ap (λ (sessions : List SessionState). exits 1 sessions course) (ap (λ (x : World). x.sessions) e);
    world_is = e;
    has = has;
    more = [];
    events = sym (append-nil course.events);
    shows = h;
    hooks = tells_none course.world;
  };
  calls = refl;
  given_back = λ account less. absurd (omega (arith, less));
  gone = λ j store less there. absurd (omega (arith, less));
  waits = λ j session less there. absurd (omega (arith, less));
  asks = λ account. refl;
  same = same_run a;
}

-- what stands behind a place
drop_at : {A : Type 0} (xs : List A) (place : ℕ) (x : A) → slice_get xs place ≡ Some x → drop place xs ≡ x ∷ drop (suc place) xs
drop_at [] place x h = absurd (cc h)
drop_at {A = A} (y ∷ ys) zero x h = let same : y ≡ x = cc h in ap (λ (z : A). z ∷ ys) same
drop_at (y ∷ ys) (suc place) x h = drop_at ys place x h

drop_set : {A : Type 0} (xs : List A) (place : ℕ) (y : A) → drop (suc place) (slice_set xs place y) ≡ drop (suc place) xs
drop_set [] place y = refl
drop_set (x ∷ xs) zero y = refl
drop_set (x ∷ xs) (suc place) y = drop_set xs place y

drop_all : {A : Type 0} (xs : List A) (n : ℕ) → n ≡ length xs → drop n xs ≡ []
drop_all [] zero h = refl
drop_all [] (suc n) h = refl
drop_all (x ∷ xs) zero h = absurd (omega (arith, h))
drop_all (x ∷ xs) (suc n) h = drop_all xs n (omega (arith, h))

-- the contexts of a session that stands have different numbers, below the next one
numbered_of : (s : Scene) → Stands s → IsNumbered s
numbered_of s h = record { once = h.contexts.once; below = h.contexts.below }

-- one session more ends
module _ (start a b : Run) (place : ℕ) (store left : StoreState) (during : List What → Type 0) (before shown : List Event → Type 0)
    (standing : AreStanding place a) (there : slice_get a.stores place ≡ Some store) (stores : b.stores ≡ slice_set a.stores place left)
    (ends : Ends exited (one_of a store) (one_of b left) during) (empty : held b.space store.tree.account ≡ 0) (beside : StaysBeside left)
    (joins : (xs : List Event) (ys : List What) → before xs → during ys → shown (xs ++ of_session (place + 1) ys)) where
  change : Changed a b place store left
  change = grind (arith, nat_tests, took_other)

  -- the end of the session in its surroundings there
  abbrev ended_in : World → Ended
  ended_in world = exited (record { session = session_of store a.space; around = around (place + 1) world })

  -- the session in its surroundings, where these are seen so: as many descriptors are its share as its store has, others have locked what is
  -- held for them, and pin what is counted for them
  abbrev scene_at : Around → Scene
  scene_at scene_around = record { session = session_of store a.space; around = scene_around }

  abbrev surroundings : ℕ → Around
  surroundings descriptors = around (place + 1) (world_in descriptors a)

  seen_is : (descriptors : ℕ) → HaveDescriptors descriptors a → (scene_in (one_of a store) (surroundings descriptors)).around ≡ surroundings descriptors
  seen_is descriptors has =
      ap (λ (n : ℕ). record (scene_in (one_of a store) (surroundings descriptors)).around { descriptors = n }) (has place store there)
      ∙ ap (λ (hs : List Holding). record (surroundings descriptors) { locked = hs; pinned = (scene_in (one_of a store) (surroundings descriptors)).around.pinned })
      (sym (others_locked a place store there standing.each standing.locks (place + 1) refl))
      ∙ ap (λ (ns : List ℕ). record (surroundings descriptors) { pinned = ns })
      (sym (others_pinned a.stores a.space a.commons.pins place store (session_there a place store there) standing.pins (place + 1) refl))

  world_is : (descriptors : ℕ) → HaveDescriptors descriptors a → with_scene (place + 1) (ended_in (world_in descriptors a)).scene (world_in descriptors a) ≡ world_in descriptors b
  world_is descriptors has =
      let here : Around = surroundings descriptors in
      let led : (ended_in (world_in descriptors a)).scene ≡ scene_in (one_of b left) here =
      subst (λ (x : Around). (exited (scene_at x)).scene ≡ scene_in (one_of b left) here) (seen_is descriptors has) (ends.acted.leads here) in
      ap (λ (s : Scene). with_scene (place + 1) s (world_in descriptors a)) led
      ∙ ap (λ (c : Calls). record (with_scene (place + 1) (scene_in (one_of b left) here) (world_in descriptors a)) { calls = c.count }) (sym ends.calls)
      ∙ world_behind a b place store left change standing.each descriptors (place + 1) here refl

  told : (descriptors : ℕ) → HaveDescriptors descriptors a → during (ended_in (world_in descriptors a)).events
  told descriptors has = subst (λ (x : Around). during (exited (scene_at x)).events) (seen_is descriptors has) (ends.acted.says (surroundings descriptors))

  -- what its events say of its hooks, and so of those of the run
  tells : (descriptors : ℕ)
      → TellHooks (world_in descriptors a) (with_scene (place + 1) (ended_in (world_in descriptors a)).scene (world_in descriptors a)) (of_session (place + 1) (ended_in (world_in descriptors a)).events)
  tells descriptors =
      let own : Stands (scene_in (one_of a store) empty_around) = ((standing.lines place store (omega arith) there).stands empty_around).stands in
      let scene : Scene = record { session = session_of store a.space; around = around (place + 1) (world_in descriptors a) } in
      tells_of_one (world_in descriptors a) (place + 1) place (world_in descriptors a).calls (session_of store a.space) (ended_in (world_in descriptors a)).scene (ended_in (world_in descriptors a)).events refl
      (session_there a place store there) (exited_counts_hooks scene (record { once = own.contexts.once; below = own.contexts.below })) own.hooks.out

  remains : (descriptors : ℕ) (course : Course) → Remains place descriptors a before course → Remains (place + 1) descriptors b shown course
  remains descriptors course r =
      let next : Course = after_exit (place + 1) r.middle (ended_in r.middle.world) in
      let here = drop_at (sessions_in a.stores a.space) place (session_of store a.space) (session_there a place store there) in
      let up : suc place ≡ place + 1 = omega arith in
      let behind : drop (suc place) (sessions_in a.stores a.space) ≡ drop (place + 1) (sessions_in b.stores b.space) =
      sym (drop_set (sessions_in a.stores a.space) place (session_of left b.space)) ∙ ap (drop (suc place)) (sym (sessions_behind a b place store left change standing.each))
      ∙ ap (λ (n : ℕ). drop n (sessions_in b.stores b.space)) up in
      record {
        middle = next;
        rest = r.rest ∙ ap (λ (sessions : List SessionState). exits (place + 1) sessions r.middle) here ∙ ap (λ (sessions : List SessionState). exits (place + 1 + 1) sessions next) behind;
        world_is = ap (λ (x : World). with_scene (place + 1) (ended_in x).scene x) r.world_is ∙ world_is descriptors r.has;
        has = have_behind a b place store left change standing.each descriptors r.has;
        more = r.more ++ of_session (place + 1) (ended_in r.middle.world).events;
        events = ap (λ (xs : List Event). xs ++ of_session (place + 1) (ended_in r.middle.world).events) r.events ∙ append_assoc course.events r.more (of_session (place + 1) (ended_in r.middle.world).events);
        shows = joins r.more (ended_in r.middle.world).events r.shows (subst (λ (x : World). during (ended_in x).events) (sym r.world_is) (told descriptors r.has));
        hooks = tells_both course.world r.middle.world next.world r.more (of_session (place + 1) (ended_in r.middle.world).events) r.hooks
            (subst (λ (x : World). TellHooks x (with_scene (place + 1) (ended_in x).scene x) (of_session (place + 1) (ended_in x).events)) (sym r.world_is) (tells descriptors));
      }

  -- the session's owners are gone, and no hook waits in it
  has_exited : HasExited (scene_in (one_of b left) empty_around)
  has_exited =
      let own : IsBetweenLines (one_of a store) = standing.lines place store (omega arith) there in
      subst HasExited (ends.acted.leads empty_around) (exited_stands (scene_in (one_of a store) empty_around) (own.stands empty_around).stands)

  left_without_owners : owners_of left.owners ≡ Empty
  unfolding session_of
  left_without_owners = has_exited.owners

  left_without_hooks : waiting (session_of left b.space).contexts ≡ []
  left_without_hooks = ap (λ (contexts : Contexts). waiting contexts) has_exited.contexts

  pub one_more_exited : HaveExited place start a before → HaveExited (place + 1) start b shown
  one_more_exited h = grind (arith, nat_tests, remains, h.leads, h.calls, held b.space, h.given_back, place_set, left_without_owners, h.gone, sessions_behind a b place store left change standing.each, change, left_without_hooks, h.waits, took_own, h.asks, took_other, same_on, h.same, same_behind a b place store left change standing.each)

  events_of : List What
  events_of = (exited (scene_in (one_of a store) empty_around)).events

  counts : HooksCounted (session_of store a.space).contexts a.shelf (session_of left b.space).contexts b.shelf events_of
  unfolding events_of
  counts =
      let own : IsBetweenLines (one_of a store) = standing.lines place store (omega arith) there in
      subst (λ (s : Scene). CountsHooks (scene_in (one_of a store) empty_around) s (exited (scene_in (one_of a store) empty_around)).events) (ends.acted.leads empty_around)
      (exited_counts_hooks (scene_in (one_of a store) empty_around) (numbered_of (scene_in (one_of a store) empty_around) (own.stands empty_around).stands))

  pub exit_standing : AreStanding (place + 1) b
  exit_standing = record {
    each = each_behind a b place store left change standing.each ends.keeps beside;
    lines = λ j st from now. elim (place_set a.stores place left j st (ap (λ (all : List StoreState). slice_get all j) (sym stores) ∙ now)) [
      | inl own ↦ absurd (omega (arith, own.0, from))
      | inr other ↦ lines_stay a b place store left change standing.each standing.hooks events_of counts standing.kinds standing.pins standing.few j st other.0 other.1 now (standing.lines j st (omega (arith, from)) other.1)
    ];
    hooks = fit_behind a b place store left change standing.each standing.hooks events_of counts;
    kinds = keys_fit_behind a b place store left change standing.each standing.kinds;
    locks = locks_fit_behind a b place store left change standing.each standing.locks;
    pins = pins_fit_behind a b place store left change standing.each standing.pins;
    few = few_behind a b place store left change standing.each standing.few;
    alike = (standing.alike.0, have_behind a b place store left change standing.each standing.alike.0 standing.alike.1);
  }

-- all sessions have ended
pub all_exited : (n : ℕ) (a b : Run) (shown : List Event → Type 0) → n ≡ length a.stores → HaveExited n a b shown → AllExit a b shown
all_exited n a b shown all h = record {
  leads = λ descriptors has course e.
      let r = h.leads descriptors has course e in
      let none : drop n (sessions_in b.stores b.space) ≡ [] = drop_all (sessions_in b.stores b.space) n (all ∙ sym h.same.sessions ∙ sym (length-map b.stores (λ (s : StoreState). session_of s b.space))) in
      let done : ended course ≡ r.middle = r.rest ∙ ap (λ (sessions : List SessionState). exits (n + 1) sessions r.middle) none in (
        r.more,
        ap (λ (c : Course). c.events) done ∙ r.events,
        r.shows,
        ap (λ (c : Course). c.world) done ∙ r.world_is,
        subst (λ (c : Course). TellHooks course.world c.world r.more) (sym done) r.hooks,
      );
  calls = h.calls;
  given_back = λ account less. h.given_back account (omega (arith, less, all));
  asks = h.asks;
  none = λ kind key. none_held_together kind key b.stores
      (λ place store there. gone_holds_none kind key store (h.gone place store (omega (arith, all, h.same.sessions, slice_get_within b.stores place store there)) there));
  waiting = none_waiting (sessions_in b.stores b.space)
      (λ place session there.
      let many = length-map b.stores (λ (s : StoreState). session_of s b.space) in
      h.waits place session (omega (arith, all, h.same.sessions, many, slice_get_within (sessions_in b.stores b.space) place session there)) there);
  same = h.same;
}

-- sessions as they opened leave the hooks as they are
opening_leaves : (shelf : ShelfState) (scene_around : Around) → (exited (record { session = opening; around = record scene_around { shelf = shelf } })).scene.around.shelf ≡ shelf
unfolding exited opening
opening_leaves shelf scene_around =
    ap (λ (spent : List Hook). record { fresh = shelf.fresh; spent = spent; out = shelf.out - 0 }) (append-nil shelf.spent)
    ∙ ap (λ (out : ℕ). record { fresh = shelf.fresh; spent = shelf.spent; out = out }) (omega arith)

pub exits_leave : (n count : ℕ) (course : Course) → (exits n (replicate count opening) course).world.shelf ≡ course.world.shelf
exits_leave n zero course = refl
exits_leave n (suc count) course =
    exits_leave (n + 1) count (after_exit n course (exited (record { session = opening; around = around n course.world })))
    ∙ opening_leaves course.world.shelf (around n course.world)

pub opened_leave : (a b : Run) (shown : List Event → Type 0) (descriptors : ℕ) → HaveDescriptors descriptors a → IsOpening a → AllExit a b shown → b.shelf ≡ a.shelf
opened_leave a b shown descriptors has opens ends =
    let course : Course = at_start (world_in descriptors a) in
    let left = ends.leads descriptors has course refl in
    sym (ap (λ (x : World). x.shelf) left.3)
    ∙ ap (λ (sessions : List SessionState). (exits 1 sessions course).world.shelf) opens.sessions
    ∙ exits_leave 1 (length a.stores) course

-- and the kinds
kinds_leave : (kinds : List Kind) (scene_around : Around) → (exited (record { session = opening; around = record scene_around { kinds = kinds } })).scene.around.kinds ≡ kinds
unfolding exited opening
kinds_leave kinds scene_around = refl

pub exits_leave_kinds : (n count : ℕ) (course : Course) → (exits n (replicate count opening) course).world.kinds ≡ course.world.kinds
exits_leave_kinds n zero course = refl
exits_leave_kinds n (suc count) course =
    exits_leave_kinds (n + 1) count (after_exit n course (exited (record { session = opening; around = around n course.world })))
    ∙ kinds_leave course.world.kinds (around n course.world)

pub opened_leave_kinds : (a b : Run) (shown : List Event → Type 0) (descriptors : ℕ) → HaveDescriptors descriptors a → IsOpening a → AllExit a b shown → b.commons.kinds ≡ a.commons.kinds
opened_leave_kinds a b shown descriptors has opens ends =
    let course : Course = at_start (world_in descriptors a) in
    let left = ends.leads descriptors has course refl in
    sym (ap (λ (x : World). x.kinds) left.3)
    ∙ ap (λ (sessions : List SessionState). (exits 1 sessions course).world.kinds) opens.sessions
    ∙ exits_leave_kinds 1 (length a.stores) course
