-- The end of one level, read by itself: what each event of it may name, and the events of contexts and owners that go.
use Rattle.session_laws.proofs.Words.{◌≡◌, ℕ, ◌+◌, Bool, true, false, not, List, [], ◌∷◌, ◌++◌, map, Option, Some, refl, sym, ap, ◌∙◌, subst, arith, append-nil, append_assoc, ◌-◌, if◌then◌else◌, None, ◌==◌, ◌&&◌, filter, option_to_list, ◌⊎◌, nat_lt, list_all, and_from, and_parts, eq-eqb, eqb-true, or_cases, or_left, or_right, Forest, Empty, Node, Once, children, has, is_above, removed, size, at, subtree, order, order_at, has_children, at_absent, children_absent, left_apart, removed_absent, nat_tests}
use Rattle.session_laws.proofs.Scenes.{What, Hook, Contexts, Context, callbacks, gone_events, Item, Phase, BeforeLocks, Locks, AfterLocks, Lock, owner_count, table_of, KindTable, own_released, released, Step, ReleasesLocks, ReleasesAllLocks, release_steps, StandingPlan, Scene, plan_at, plan_changed, plans_but, Ended, for_each, where_there, Keeper, NoOne, TheDescriptors, TheKind, ThePlans, descriptor_left, given_back, left_to, owner_released, phase_released, plan_becomes, plan_left, plan_settled, plan_stays, step_done}
use Rattle.session_laws.proofs.Rules.{Reader, allows_all, is_one_of, seen_after, allows_all-append, seen_after-append, at_left, once_left, is_there-without_other, Awaited, Begun, Leaving, Neither, awaited_behind, begun_behind, contexts_inside, ends_behind, ends_with, is_within_some, owners_inside, plans_behind, staying, with_end, Node as Kept, is_there, is_within, without, lone_left}
use Rattle.session_laws.proofs.StepsOf.{AreOf, no_step, numbers_of, passes, steps_of, unlocks, unlocks_all, warns, gives_up}
use Rattle.session_laws.proofs.Parents.{by_children, FitsTree, fits_gone, same_within, alike_swept}
use Rattle.pgs_step.specs.declared.ids.TheConstants.KindId.{PLAN_REFERENCE, FILE, FIRST_EXTENSION}
use Rattle.session_laws.proofs.Lives.{IsRead, Reads, read_both, read_none}
use Rattle.session_laws.proofs.ParentsLife.{fits_alike}
use Rattle.pgs_step.specs.declared.events.What.TheVariants as what
use Rattle.lock_local.specs.Changes as locks

-- an event that begins a level or its end, or makes a context or an owner
abbrev pub is_edge : What → Bool
is_edge (what.AbortLevel level) = true
is_edge (what.BeginLevel level) = true
is_edge (what.Create context name parent) = true
is_edge (what.Owner owner) = true
is_edge (what.OwnerIn owner parent) = true
is_edge other = false

-- what an event may name in the end of this level
abbrev pub is_confined : Begun → What → Leaving → Bool
is_confined entry event leaving = owners_inside event leaving entry && contexts_inside event leaving entry

-- the reader of the end of this level alone
abbrev pub confined : Begun → Reader Leaving
confined entry = record { next = staying.next; allows = λ event leaving. is_confined entry event leaving && not (is_edge event) }

-- only this level is in its end, if any
abbrev pub InEnd : Begun → List Begun → Type 0
InEnd entry [] = Unit {0}
InEnd entry (level ∷ levels) = (level ≡ entry) × InEnd entry levels

filter_in : (entry : Begun) (test : Begun → Bool) (ends : List Begun) → InEnd entry ends → InEnd entry (filter test ends)
filter_in entry test [] h = tt
filter_in entry test (level ∷ levels) h = grind (arith, nat_tests, filter_in entry test levels h.1)

no_more_ends : (event : What) (levels ends : List Begun) → is_edge event ≡ false → with_end event levels ends ≡ ends
no_more_ends event levels ends h = grind (arith, nat_tests)

pub next_in : (entry : Begun) (event : What) (leaving : Leaving) → is_edge event ≡ false → InEnd entry leaving.ends → InEnd entry (ends_behind event leaving.begun leaving.ends)
next_in entry event leaving h k =
    subst (InEnd entry) (sym (no_more_ends event leaving.begun (filter (λ level. not (ends_with event level)) leaving.ends) h)) (filter_in entry (λ level. not (ends_with event level)) leaving.ends k)

no_more_begun : (event : What) (awaited : Awaited) (levels : List Begun) → is_edge event ≡ false → begun_behind event awaited levels ≡ levels
no_more_begun event awaited levels h = grind (arith, nat_tests)

no_more_plans : (event : What) (plans : List ℕ) → is_edge event ≡ false → plans_behind event plans ≡ plans
no_more_plans event plans h = grind (arith, nat_tests)

none_awaited : (event : What) → is_edge event ≡ false → awaited_behind event Neither ≡ Neither
none_awaited event h = grind (arith, nat_tests)

-- the end is over where the level's context isn't there
abbrev pub IsOver : Begun → Leaving → Type 0
IsOver entry leaving = (c : ℕ) → entry.context ≡ Some c → is_there c leaving.parents.contexts ≡ false → leaving.ends ≡ []

pub none_left : (entry : Begun) (test : Begun → Bool) (ends : List Begun) → InEnd entry ends → test entry ≡ false → filter test ends ≡ []
none_left entry test [] h out = refl
none_left entry test (level ∷ levels) h out =
    rw (ap test h.0 ∙ out) (none_left entry test levels h.1 out)

-- so it is behind each event
empty_ends : (event : What) (begun ends : List Begun) → is_edge event ≡ false → ends ≡ [] → ends_behind event begun ends ≡ []
empty_ends event begun ends h e = ap (ends_behind event begun) e ∙ no_more_ends event begun [] h

pub next_over : (entry : Begun) (event : What) (leaving : Leaving) → is_edge event ≡ false → InEnd entry leaving.ends → IsOver entry leaving → IsOver entry (staying.next event leaving)
next_over entry event leaving h k o c is away = grind (arith, nat_tests, empty_ends, none_left, eq-eqb, is_there-without_other)

pub all_in : (test : Begun → Bool) (entry : Begun) (ends : List Begun) → InEnd entry ends → test entry ≡ true → list_all test ends ≡ true
all_in test entry [] h k = refl
all_in test entry (level ∷ levels) h k = and_from (test level) (list_all test levels) (ap test h.0 ∙ k) (all_in test entry levels h.1 k)

-- What that reader allows is allowed where no other level is in its end, and none is then.
pub record Stayed (entry : Begun) (leaving : Leaving) (events : List What) : Type 0 where
  pub allowed : allows_all staying leaving events ≡ true
  pub ends : InEnd entry (seen_after staying leaving events).ends
  pub begun : (seen_after staying leaving events).begun ≡ leaving.begun
  pub plans : (seen_after staying leaving events).plans ≡ leaving.plans
  pub awaited : leaving.awaited ≡ Neither → (seen_after staying leaving events).awaited ≡ Neither
  pub over : IsOver entry leaving → IsOver entry (seen_after staying leaving events)
  pub closed : leaving.ends ≡ [] → (seen_after staying leaving events).ends ≡ []

no_edge : (b : Bool) → not b ≡ true → b ≡ false
no_edge b h = grind (arith, nat_tests)

pub confined_stays : (entry : Begun) (leaving : Leaving) (events : List What) → InEnd entry leaving.ends → allows_all (confined entry) leaving events ≡ true → Stayed entry leaving events
confined_stays entry leaving [] k h = record { allowed = refl; ends = k; begun = refl; plans = refl; awaited = λ aw. aw; over = λ o. o; closed = λ e. e }
confined_stays entry leaving (event ∷ events) k h =
    let p : ((is_confined entry event leaving && not (is_edge event)) ≡ true) × (allows_all (confined entry) (staying.next event leaving) events ≡ true) = grind (arith, nat_tests, and_parts) in
    let q : (is_confined entry event leaving ≡ true) × (not (is_edge event) ≡ true) = and_parts (is_confined entry event leaving) (not (is_edge event)) p.0 in
    let calm : is_edge event ≡ false = no_edge (is_edge event) q.1 in
    let more : Stayed entry (staying.next event leaving) events =
    confined_stays entry (staying.next event leaving) events (next_in entry event leaving calm k) p.1 in
    record {
      allowed = and_from (staying.allows event leaving) (allows_all staying (staying.next event leaving) events) (all_in (is_confined_by event leaving) entry leaving.ends k q.0) more.allowed;
      ends = more.ends;
      begun = more.begun ∙ no_more_begun event leaving.awaited leaving.begun calm;
      plans = more.plans ∙ no_more_plans event leaving.plans calm;
      awaited = λ aw. more.awaited (ap (awaited_behind event) aw ∙ none_awaited event calm);
      over = λ o. more.over (next_over entry event leaving calm k o);
      closed = λ e. more.closed (empty_ends event leaving.begun leaving.ends calm e);
    }
  where
    is_confined_by : What → Leaving → Begun → Bool
    is_confined_by event leaving level = owners_inside event leaving level && contexts_inside event leaving level

-- and both readers see the same
pub confined_sees : (entry : Begun) (leaving : Leaving) (events : List What) → seen_after (confined entry) leaving events ≡ seen_after staying leaving events
confined_sees entry leaving [] = refl
confined_sees entry leaving (event ∷ events) = confined_sees entry (staying.next event leaving) events

-- what lies within a root lies within some of the roots
pub within_some : (roots : List ℕ) (within : ℕ → ℕ → Bool) (root n : ℕ) → is_one_of root roots ≡ true → within root n ≡ true → is_within_some roots within n ≡ true
within_some [] within root n h k = absurd (cc h)
within_some (first ∷ rest) within root n h k = grind (arith, nat_tests, within_some rest within root n, or_cases, or_left, eqb-true, or_right)

-- the contexts that the end of a level may touch, and all below them
abbrev pub roots_of : Begun → List ℕ
roots_of entry = option_to_list entry.context ++ entry.portals

-- an event that names one context, which lies within a root
pub context_confined : (entry : Begun) (leaving : Leaving) (root n : ℕ) → is_one_of root (roots_of entry) ≡ true → is_within root n leaving.parents.contexts ≡ true
    → list_all (is_within_some (roots_of entry) (λ root n. is_within root n leaving.parents.contexts)) (n ∷ []) ≡ true
context_confined entry leaving root n h k =
    and_from (is_within_some (roots_of entry) (λ root n. is_within root n leaving.parents.contexts) n) true (within_some (roots_of entry) (λ root n. is_within root n leaving.parents.contexts) root n h k) refl

-- one owner, which lies within that of the level
pub owner_confined : (entry : Begun) (leaving : Leaving) (root n : ℕ) → entry.owner ≡ Some root → is_within root n leaving.parents.owners ≡ true
    → list_all (is_within_some (option_to_list entry.owner) (λ root n. is_within root n leaving.parents.owners)) (n ∷ []) ≡ true
owner_confined entry leaving root n h k = grind (arith, nat_tests, option_to_list, and_from, or_left)

-- each of these numbers is within the root when it goes
abbrev pub GoInside : ℕ → List Kept → List ℕ → Type 0
GoInside root nodes [] = Unit {0}
GoInside root nodes (n ∷ ns) = (is_within root n nodes ≡ true) × GoInside root (without n nodes) ns

pub root_within : (root : ℕ) (nodes : List Kept) → is_within root root nodes ≡ true
root_within root nodes = or_left (root == root) _ (eq-eqb root root refl)

and_the_root : (root : ℕ) (nodes : List Kept) (ns : List ℕ) → GoInside root nodes ns → GoInside root nodes (ns ++ (root ∷ []))
and_the_root root nodes [] h = (root_within root nodes, tt)
and_the_root root nodes (n ∷ ns) h = (h.0, and_the_root root (without n nodes) ns h.1)

module _ {A : Type 0} where
  pub below_within : (m n : ℕ) (nodes : List Kept) (t : Forest A) → FitsTree nodes t → has m (children n t) ≡ true → is_within n m nodes ≡ true
  below_within m n nodes t f here =
      same_within n m nodes t f (has_children m n t f.once here) ∙ or_right (m == n) (is_above n m t) here

  -- what is below a node, in the order in which it goes
  pub below_inside : (n : ℕ) (nodes : List Kept) (t : Forest A) → FitsTree nodes t → GoInside n nodes (order (children n t))
  below_inside n nodes t f =
      by_children (λ u ns. (kept : List Kept) → FitsTree kept u → GoInside n kept ns) n (λ u once e kept fit. tt)
      (λ m ns u once here leaf rest kept fit. (below_within m n kept u fit here, rest (without m kept) (fits_gone m kept u fit (has_children m n u once here) leaf))) (size (children n t) + 1) t (omega arith) f.once nodes f

  pub node_inside : (n : ℕ) (nodes : List Kept) (t : Forest A) → FitsTree nodes t → GoInside n nodes (order_at n t)
  node_inside n nodes t f = and_the_root n nodes (order (children n t)) (below_inside n nodes t f)

-- Contexts that go are confined, and those that go behind them still go inside.
pub record Confined (entry : Begun) (root : ℕ) (leaving : Leaving) (rest : List ℕ) (events : List What) : Type 0 where
  pub allowed : allows_all (confined entry) leaving events ≡ true
  pub left : GoInside root (seen_after (confined entry) leaving events).parents.contexts rest
  pub owners : (seen_after (confined entry) leaving events).parents.owners ≡ leaving.parents.owners
  pub plans : (seen_after (confined entry) leaving events).plans ≡ leaving.plans

confined_both : (entry : Begun) (root : ℕ) (leaving : Leaving) (ms ns : List ℕ) (xs ys : List What) → Confined entry root leaving ms xs
    → (GoInside root (seen_after (confined entry) leaving xs).parents.contexts ms → Confined entry root (seen_after (confined entry) leaving xs) ns ys) → Confined entry root leaving ns (xs ++ ys)
confined_both entry root leaving ms ns xs ys a more = grind (arith, nat_tests, allows_all-append, seen_after-append)

module _ (entry : Begun) (root : ℕ) (one : is_one_of root (roots_of entry) ≡ true) where
  callbacks_confined : (n : ℕ) (hooks : List Hook) (leaving : Leaving) (rest : List ℕ) → is_within root n leaving.parents.contexts ≡ true → GoInside root leaving.parents.contexts rest
      → Confined entry root leaving rest (callbacks n hooks)
  callbacks_confined n [] leaving rest h k = record { allowed = refl; left = k; owners = refl; plans = refl }
  callbacks_confined n (hook ∷ hooks) leaving rest h k =
      let more : Confined entry root (staying.next (what.Callback hook.word n) leaving) rest (callbacks n hooks) =
      callbacks_confined n hooks (staying.next (what.Callback hook.word n) leaving) rest h k in
      grind (arith, nat_tests, and_from, context_confined)

  deleted_confined : (n : ℕ) (leaving : Leaving) (rest : List ℕ) → GoInside root leaving.parents.contexts (n ∷ rest) → Confined entry root leaving rest (what.Delete n ∷ [])
  deleted_confined n leaving rest h = grind (arith, nat_tests, and_from, or_right, context_confined)

  pub gone_confined : (t : Contexts) (leaving : Leaving) (rest : List ℕ) → GoInside root leaving.parents.contexts (order t ++ rest) → Confined entry root leaving rest (gone_events t)
  gone_confined Empty leaving rest h = record { allowed = refl; left = h; owners = refl; plans = refl }
  gone_confined (Node n c below beside) leaving rest h =
      confined_both entry root leaving (n ∷ (order beside ++ rest)) rest (gone_events below) (callbacks n c.hooks ++ (what.Delete n ∷ gone_events beside))
      (gone_confined below leaving (n ∷ (order beside ++ rest)) (subst (GoInside root leaving.parents.contexts) (append_assoc (order below) (n ∷ order beside) rest) h))
      (λ k. confined_both entry root _ (n ∷ (order beside ++ rest)) rest (callbacks n c.hooks) (what.Delete n ∷ gone_events beside) (callbacks_confined n c.hooks _ (n ∷ (order beside ++ rest)) k.0 k)
      (λ j. confined_both entry root _ (order beside ++ rest) rest (what.Delete n ∷ []) (gone_events beside) (deleted_confined n _ (order beside ++ rest) j) (gone_confined beside _ rest)))

-- owners that go
pub owners_confined : (entry : Begun) (root : ℕ) (ns : List ℕ) (leaving : Leaving) → entry.owner ≡ Some root → GoInside root leaving.parents.owners ns → allows_all (confined entry) leaving (map (λ n. what.OwnerGone n) ns) ≡ true
owners_confined entry root [] leaving is h = refl
owners_confined entry root (n ∷ ns) leaving is h = grind (arith, nat_tests, owners_confined entry root ns, and_from, owner_confined)

-- The release of an owner in the end of a level that aborts names nothing outside the level.

-- a context with nothing below it, on which no hook waits
pub record IsBare (n : ℕ) (t : Contexts) : Type 0 where
  pub lone : children n t ≡ Empty
  pub free : (c : Context) → at n t ≡ Some c → c.hooks ≡ []

bare_removed : (m k : ℕ) (t : Contexts) → Once t → IsBare m t → IsBare m (removed k t)
bare_removed m k t o h = grind (arith, nat_tests, removed_absent, children_absent, at_absent, left_apart, lone_left, at_left)

-- what is said where such a context goes
bare_gone : (n : ℕ) (t : Contexts) → IsBare n t → (gone_events (subtree n t) ≡ []) ⊎ (gone_events (subtree n t) ≡ what.Delete n ∷ [])
bare_gone n t h = grind (arith, nat_tests)

-- the contexts of plans are known, and bare
abbrev pub AreBare : List StandingPlan → Contexts → List ℕ → Type 0
AreBare [] t known = Unit {0}
AreBare (plan ∷ plans) t known = (is_one_of plan.context known ≡ true) × IsBare plan.context t × AreBare plans t known

still_bare : (k : ℕ) (t : Contexts) (known : List ℕ) → Once t → (plans : List StandingPlan) → AreBare plans t known → AreBare plans (removed k t) known
still_bare k t known o [] h = tt
still_bare k t known o (plan ∷ plans) h = (h.0, bare_removed plan.context k t o h.1, still_bare k t known o plans h.2)

bare_but : (n : ℕ) (t : Contexts) (known : List ℕ) (plans : List StandingPlan) → AreBare plans t known → AreBare (plans_but n plans) t known
bare_but n t known [] h = tt
bare_but n t known (plan ∷ plans) h = grind (arith, nat_tests, bare_but n t known plans h.2)

bare_changed : (n : ℕ) (q : StandingPlan) (t : Contexts) (known : List ℕ) → is_one_of q.context known ≡ true → IsBare q.context t → (plans : List StandingPlan) → AreBare plans t known → AreBare (plan_changed n (λ old. q) plans) t known
bare_changed n q t known k b [] h = tt
bare_changed n q t known k b (plan ∷ plans) h = grind (arith, nat_tests, bare_changed n q t known k b plans h.2)

record Found (p : StandingPlan) (t : Contexts) (known : List ℕ) : Type 0 where
  known_is : is_one_of p.context known ≡ true
  bare : IsBare p.context t

bare_at : (n : ℕ) (p : StandingPlan) (t : Contexts) (known : List ℕ) (plans : List StandingPlan) → plan_at n plans ≡ Some p → AreBare plans t known → Found p t known
bare_at n p t known [] is h = absurd (cc is)
bare_at n p t known (plan ∷ plans) is h = grind (arith, nat_tests, bare_at n p t known plans)

-- what holds within a release: these owners are seen, each number of a context stands once, and the plans' contexts are bare
pub record InRelease (root : ℕ) (nodes : List Kept) (leaving : Leaving) (s : Scene) : Type 0 where
  pub owners : leaving.parents.owners ≡ nodes
  pub tree : FitsTree nodes s.session.owners
  pub once : Once s.session.contexts
  pub plans : AreBare s.session.plans s.session.contexts leaving.plans

module _ (entry : Begun) (root : ℕ) (own : entry.owner ≡ Some root) (nodes : List Kept) where
  abbrev Released : Scene → Scene → List What → Type 0
  Released s t events = Reads (confined entry) (InRelease root nodes) s t events

  -- events that change nothing of what is seen here
  record Passes (leaving : Leaving) (events : List What) : Type 0 where
    allowed : allows_all (confined entry) leaving events ≡ true
    parents : (seen_after (confined entry) leaving events).parents.owners ≡ leaving.parents.owners
    plans : (seen_after (confined entry) leaving events).plans ≡ leaving.plans

  pass_one : (event : What) (events : List What) (leaving : Leaving) → (confined entry).allows event leaving ≡ true → (staying.next event leaving).parents.owners ≡ leaving.parents.owners
      → (staying.next event leaving).plans ≡ leaving.plans → Passes (staying.next event leaving) events → Passes leaving (event ∷ events)
  pass_one event events leaving a p q more = grind (arith, nat_tests, and_from)

  pass_none : (leaving : Leaving) → Passes leaving []
  pass_none leaving = record { allowed = refl; parents = refl; plans = refl }

  lock_allowed : (object : ℕ) (mode : _) (count n : ℕ) (leaving : Leaving) → is_within root n leaving.parents.owners ≡ true → (confined entry).allows (what.ReleaseLock object mode count n) leaving ≡ true
  lock_allowed object mode count n leaving h =
      and_from (is_confined entry (what.ReleaseLock object mode count n) leaving) true (and_from _ true (owner_confined entry leaving root n own h) refl) refl

  pass_lock : (object : ℕ) (mode : _) (count n : ℕ) (events : List What) (leaving : Leaving) → is_within root n leaving.parents.owners ≡ true
      → (((later : Leaving) → is_within root n later.parents.owners ≡ true → Passes later events)) → Passes leaving (what.ReleaseLock object mode count n ∷ events)
  pass_lock object mode count n events leaving h more =
      pass_one (what.ReleaseLock object mode count n) events leaving (lock_allowed object mode count n leaving h) refl refl (more (staying.next (what.ReleaseLock object mode count n) leaving) h)

  locks_pass : (n : ℕ) (all : List Lock) (leaving : Leaving) → is_within root n leaving.parents.owners ≡ true → Passes leaving (locks.releases n all)
  locks_pass n [] leaving h = pass_none leaving
  locks_pass n (lock ∷ all) leaving h = go (owner_count n lock == 0) (locks_pass n all)
    where
      go : (b : Bool) → ((later : Leaving) → is_within root n later.parents.owners ≡ true → Passes later (locks.releases n all))
          → Passes leaving ((if b then [] else what.ReleaseLock lock.object lock.mode (owner_count n lock) n ∷ []) ++ locks.releases n all)
      go true more = more leaving h
      go false more = pass_lock lock.object lock.mode (owner_count n lock) n (locks.releases n all) leaving h more

  all_pass : (n : ℕ) (all : List Lock) (leaving : Leaving) → is_within root n leaving.parents.owners ≡ true → Passes leaving (locks.releases_of_all n all)
  all_pass n [] leaving h = pass_none leaving
  all_pass n (lock ∷ all) leaving h = pass_lock lock.object lock.mode _ n (locks.releases_of_all n all) leaving h (all_pass n all)

  -- where contexts and plans stay as they are
  passing : (s t : Scene) (events : List What) → t.session.owners ≡ s.session.owners → t.session.contexts ≡ s.session.contexts → t.session.plans ≡ s.session.plans → ((leaving : Leaving) → leaving.parents.owners ≡ nodes → Passes leaving events) → Released s t events
  passing s t events o c p h = grind (arith, nat_tests)

  -- a plan that goes directly behind the release of a reference to it
  record Behind (leaving : Leaving) (s : Scene) : Type 0 where
    fits : InRelease root nodes leaving s
    left : leaving.plan_left ≡ true

  gone_behind : (leaving : Leaving) (s : Scene) (p q : StandingPlan) (n : ℕ) → Behind leaving s → plan_at n s.session.plans ≡ Some p → q.context ≡ p.context
      → IsRead (confined entry) (InRelease root nodes) leaving (plan_settled q s).scene (plan_settled q s).events
  gone_behind leaving s p q n b is same =
      let t : Contexts = s.session.contexts in
      let k : ℕ = q.context in
      let found : Found p t leaving.plans = bare_at n p t leaving.plans s.session.plans is b.fits.plans in
      let bare : IsBare k t = subst (λ (m : ℕ). IsBare m t) (sym same) found.bare in
      let known : is_one_of k leaving.plans ≡ true = ap (λ (m : ℕ). is_one_of m leaving.plans) same ∙ found.known_is in
      let plans : AreBare (plans_but q.number s.session.plans) (removed k t) leaving.plans = grind (arith, nat_tests, bare_but, still_bare) in
      let read : (events : List What) → (events ≡ []) ⊎ (events ≡ what.Delete k ∷ []) → IsRead (confined entry) (InRelease root nodes) leaving (plan_settled q s).scene events = grind (arith, nat_tests, once_left, and_from) in
      subst (IsRead (confined entry) (InRelease root nodes) leaving (plan_settled q s).scene) (sym (append-nil (gone_events (subtree k t)))) (read (gone_events (subtree k t)) (bare_gone k t bare))

  stays_behind : (leaving : Leaving) (s : Scene) (p q : StandingPlan) (n : ℕ) → Behind leaving s → plan_at n s.session.plans ≡ Some p → q.context ≡ p.context
      → IsRead (confined entry) (InRelease root nodes) leaving (plan_stays q s).scene []
  stays_behind leaving s p q n b is same =
      let t : Contexts = s.session.contexts in
      let found : Found p t leaving.plans = bare_at n p t leaving.plans s.session.plans is b.fits.plans in
      grind (arith, nat_tests, bare_changed)

  plan_behind : (n : ℕ) (leaving : Leaving) (s : Scene) → Behind leaving s → IsRead (confined entry) (InRelease root nodes) leaving (plan_left n s).scene (plan_left n s).events
  plan_behind n leaving s b = go (plan_at n s.session.plans) refl
    where
      by : (d : Bool) (q : StandingPlan) → IsRead (confined entry) (InRelease root nodes) leaving (plan_settled q s).scene (plan_settled q s).events → IsRead (confined entry) (InRelease root nodes) leaving (plan_stays q s).scene (plan_stays q s).events
          → IsRead (confined entry) (InRelease root nodes) leaving (elim d as (λ _. Ended) [ true ↦ plan_settled q s | false ↦ plan_stays q s ]).scene (elim d as (λ _. Ended) [ true ↦ plan_settled q s | false ↦ plan_stays q s ]).events
      by d q a c = grind (arith, nat_tests)

      go : (o : Option StandingPlan) → plan_at n s.session.plans ≡ o
          → IsRead (confined entry) (InRelease root nodes) leaving (where_there o (λ plan. plan_becomes (record plan { references = plan.references - 1 })) s).scene (where_there o (λ plan. plan_becomes (record plan { references = plan.references - 1 })) s).events
      go None is = record { allowed = refl; fits = b.fits }
      go (Some p) is =
          let q : StandingPlan = record p { references = p.references - 1 } in
          by (q.discarded && (q.references == 0)) q (gone_behind leaving s p q n b is refl) (stays_behind leaving s p q n b is refl)

  -- what else follows a release
  closed_so : (file : ℕ) (s : Scene) → Released s (descriptor_left file s).scene (descriptor_left file s).events
  closed_so file s = grind (arith, nat_tests, passing, pass_one, pass_none, read_none)

  other_left : (a b : Bool) (place key : ℕ) (s : Scene)
      → Released s (left_to (if a then TheDescriptors else (if b then NoOne else TheKind place)) key s).scene (left_to (if a then TheDescriptors else (if b then NoOne else TheKind place)) key s).events
  other_left a b place key s = grind (arith, nat_tests, closed_so, read_none, passing, pass_none)

  given_behind : (item : Item) (leaving : Leaving) (s : Scene) → InRelease root nodes leaving s → leaving.plan_left ≡ (item.kind.0 == PLAN_REFERENCE.0)
      → IsRead (confined entry) (InRelease root nodes) leaving (given_back item s).scene (given_back item s).events
  given_behind item leaving s k left = go (item.kind.0 == PLAN_REFERENCE.0) left
    where
      keeper : Bool → Keeper
      keeper b = if b then ThePlans else (if item.kind.0 == FILE.0 then TheDescriptors else (if nat_lt item.kind.0 FIRST_EXTENSION then NoOne else TheKind (item.kind.0 - FIRST_EXTENSION)))

      go : (b : Bool) → leaving.plan_left ≡ b → IsRead (confined entry) (InRelease root nodes) leaving (left_to (keeper b) item.key s).scene (left_to (keeper b) item.key s).events
      go true is = plan_behind item.key leaving s (record { fits = k; left = is })
      go false is = (other_left (item.kind.0 == FILE.0) (nat_lt item.kind.0 FIRST_EXTENSION) (item.kind.0 - FIRST_EXTENSION) item.key s).so leaving k

  release_allowed : (item : Item) (n : ℕ) (leaving : Leaving) → is_within root n leaving.parents.owners ≡ true → (confined entry).allows (what.Release item n) leaving ≡ true
  release_allowed item n leaving h =
      and_from (is_confined entry (what.Release item n) leaving) true (and_from _ true (owner_confined entry leaving root n own h) refl) refl

  -- the release of an item, and what follows it
  pair_so : (item : Item) (n : ℕ) (s : Scene) → is_within root n nodes ≡ true → Released s (given_back item s).scene (what.Release item n ∷ (given_back item s).events)
  pair_so item n s h = record {
    so = λ leaving k.
        let within : is_within root n leaving.parents.owners ≡ true = ap (is_within root n) k.owners ∙ h in
        let more : IsRead (confined entry) (InRelease root nodes) (staying.next (what.Release item n) leaving) (given_back item s).scene (given_back item s).events =
        given_behind item (staying.next (what.Release item n) leaving) s (record { owners = k.owners; tree = k.tree; once = k.once; plans = k.plans }) refl in
        record { allowed = and_from ((confined entry).allows (what.Release item n) leaving) _ (release_allowed item n leaving within) more.allowed; fits = more.fits };
  }

module _ (entry : Begun) (root : ℕ) (own : entry.owner ≡ Some root) (nodes : List Kept) where
  abbrev Inside : ℕ → Type 0
  Inside n = is_within root n nodes ≡ true

  steps_read : (steps : List Step) → AreOf Inside false steps → (s : Scene) → Reads (confined entry) (InRelease root nodes) s (for_each step_done steps s).scene (for_each step_done steps s).events
  steps_read _ no_step s = read_none (confined entry) (InRelease root nodes) s
  steps_read _ (warns e h) s = absurd (cc e)
  steps_read _ (passes e h) s = absurd (cc e)
  steps_read _ (gives_up {item = item} {n = n} {rest = rest} p h) s = read_both (confined entry) (InRelease root nodes) (pair_so entry root own nodes item n s p) (steps_read rest h (given_back item s).scene)
  steps_read _ (unlocks {n = n} {rest = rest} p h) s =
      read_both (confined entry) (InRelease root nodes)
      (passing entry root own nodes s (step_done (ReleasesLocks n) s).scene (locks.releases n s.session.locks) refl refl refl (λ leaving k. locks_pass entry root own nodes n s.session.locks leaving (ap (is_within root n) k ∙ p)))
      (steps_read rest h (step_done (ReleasesLocks n) s).scene)
  steps_read _ (unlocks_all {n = n} {rest = rest} p h) s =
      read_both (confined entry) (InRelease root nodes)
      (passing entry root own nodes s (step_done (ReleasesAllLocks n) s).scene (locks.releases_of_all n s.session.locks) refl refl refl (λ leaving k. all_pass entry root own nodes n s.session.locks leaving (ap (is_within root n) k ∙ p)))
      (steps_read rest h (step_done (ReleasesAllLocks n) s).scene)

  -- the owners of a phase are those of the scene before it
  changed_so : (kinds : KindTable) (phase : Phase) (s : Scene) → Reads (confined entry) (InRelease root nodes) s (record s { session = record s.session { owners = released kinds phase root s.session.owners } }) []
  changed_so kinds phase s = record {
    so = λ leaving k. record {
      allowed = refl;
      fits = record { owners = k.owners; tree = fits_alike nodes s.session.owners (released kinds phase root s.session.owners) (alike_swept (own_released kinds phase) root s.session.owners) k.tree; once = k.once; plans = k.plans };
    };
  }

  phase_read : (top : Bool) (phase : Phase) (s : Scene) → Inside root → Reads (confined entry) (InRelease root nodes) s (phase_released false top root phase s).scene (phase_released false top root phase s).events
  phase_read top phase s here = record {
    so = λ leaving k.
        let kinds : KindTable = table_of s.around.kinds in
        let steps : List Step = release_steps kinds phase false top root s.session.owners in
        let all : Reads (confined entry) (InRelease root nodes) s (phase_released false top root phase s).scene (phase_released false top root phase s).events =
        read_both (confined entry) (InRelease root nodes)
        (steps_read steps (steps_of Inside kinds phase false top root s.session.owners here (numbers_of Inside (children root s.session.owners) (λ m u. below_within m root nodes s.session.owners k.tree u))) s) (changed_so kinds phase (for_each step_done steps s).scene) in
        all.so leaving k;
  }

  -- An owner is released, and names nothing outside itself.
  pub owner_read : (top : Bool) (s : Scene) → Inside root → Reads (confined entry) (InRelease root nodes) s (owner_released false top root s).scene (owner_released false top root s).events
  owner_read top s here =
      let a : Scene = (phase_released false top root BeforeLocks s).scene in
      let b : Scene = (phase_released false top root Locks a).scene in
      let c : Scene = (phase_released false top root AfterLocks b).scene in
      grind (arith, nat_tests, read_both, phase_read top BeforeLocks s here, phase_read top Locks a here, phase_read top AfterLocks b here, read_none (confined entry) (InRelease root nodes) c)
