-- What the reader of levels has seen fits the levels, the portals and the plans of a session, and what says nothing of levels keeps that.
use Rattle.session_laws.proofs.Words.{◌≡◌, ℕ, codes, ◌+◌, ◌≤◌, Bool, true, false, if◌then◌else◌, List, [], ◌∷◌, ◌++◌, map, length, Option, Some, refl, sym, ap, ◌∙◌, subst, inl, inr, ◌-◌, None, arith, ◌==◌, ◌&&◌, ◌||◌, filter, ◌⊎◌, All, list_all, list_any, and_from, cases_Bool, eq-eqb, eqb-true, or_left, or_right, All-head, All-tail, nat_tests}
use Rattle.session_laws.proofs.Scenes.{What, LevelState, OpenPortal, StandingPlan, portals_context, Scene, Moment, KindId, Phase, Text, Element, PortalContext, plan_at, plan_changed, plans_but, portal_changed, Ended, changes, portal_becomes, say, switched, where_there, Keeper, NoOne, TheDescriptors, TheKind, ThePlans, item_released, keeper_of, owner_gone, owner_moved, phase_released, plan_becomes, plan_left, plan_settled, plan_made, portal_made, new_context_made, chunk_resized, memory_taken, taken_by, contexts_become, tells, does, IsDead, IsLive, IsPortal, Stands}
use Rattle.session_laws.proofs.Rules.{allows_all, is_one_of, seen_after, Acts, Keeps, Lowers, is_word, last, next, Follows, OwnerLeaves, item_releases, phase_keeps, AreSaid, said_more, said_none, said_report, ContextLeaves, FileLeaves, KeyLeaves, Part, Sight, StackLeaves, children_go, goes, hook_waits_so, item_comes, item_goes, locks_one, makes_context, moves_context, of_levels, of_plans, of_portals, owner_goes, owner_makes, owner_moves, pushes, says, unlocks, unseen_contexts, unseen_files, unseen_keys, unseen_locks, unseen_owners, unseen_stack, by_either, by_order, said_both, said_one, Awaited, Begun, Leaving, Neither, awaited_behind, begun_behind, contexts_inside, is_named, level_begun, owners_inside, staying, with_portal, with_context, depth_small}
use Rattle.session_laws.proofs.Lives.{Reads, read_both}
use Rattle.context_rules.specs.Reports.{report}
use Rattle.context_rules.specs.Chunks.{freed, written}
use Rattle.session_laws.proofs.OwnWork.{WorkLeaves, IsOwnWork, own_follows}
use Rattle.pgs_step.specs.declared.events.What.TheVariants as what

-- whether a level of this number began
abbrev pub has_begun : ℕ → List Begun → Bool
has_begun level begun = list_any (λ other. other.level == level) begun

-- what a level that began last with this number is like: its context and its owner are these
pub record IsBegun (n : ℕ) (c o : Option ℕ) (begun : List Begun) : Type 0 where
  pub there : has_begun n begun ≡ true
  pub context : (level_begun n begun).context ≡ c
  pub owner : (level_begun n begun).owner ≡ o

-- each level of these, the deepest first, began with its context and its owner
abbrev pub AreBegun : List LevelState → List Begun → Type 0
AreBegun [] begun = Unit {0}
AreBegun (level ∷ levels) begun = IsBegun (length levels + 1) level.context level.owner begun × AreBegun levels begun

-- a portal's context was made since its level and each above that began
pub record IsSeen (p : OpenPortal) (begun : List Begun) : Type 0 where
  pub so : (n level : ℕ) → p.context ≡ Some n → 1 ≤ level → level ≤ p.created → is_one_of n (level_begun level begun).portals ≡ true

abbrev pub AreSeen : List OpenPortal → List Begun → Type 0
AreSeen [] begun = Unit {0}
AreSeen (p ∷ ps) begun = IsSeen p begun × AreSeen ps begun

-- the contexts of plans are known
abbrev pub AreKnown : List StandingPlan → List ℕ → Type 0
AreKnown [] known = Unit {0}
AreKnown (plan ∷ plans) known = (is_one_of plan.context known ≡ true) × AreKnown plans known

-- What is seen fits the session's levels, portals and plans. No level is in its end, and none is being made.
pub record Seen (leaving : Leaving) (s : Scene) : Type 0 where
  pub begun : AreBegun s.session.levels leaving.begun
  pub portals : AreSeen s.session.portals leaving.begun
  pub plans : AreKnown s.session.plans leaving.plans
  pub awaited : leaving.awaited ≡ Neither
  pub ends : leaving.ends ≡ []

-- levels that began are the same but for more contexts of portals
pub record Grows (a b : List Begun) : Type 0 where
  pub there : (n : ℕ) → has_begun n a ≡ true → has_begun n b ≡ true
  pub context : (n : ℕ) → (level_begun n b).context ≡ (level_begun n a).context
  pub owner : (n : ℕ) → (level_begun n b).owner ≡ (level_begun n a).owner
  pub portals : (m n : ℕ) → is_one_of m (level_begun n a).portals ≡ true → is_one_of m (level_begun n b).portals ≡ true

grows_same : (a : List Begun) → Grows a a
grows_same a = record { there = λ n h. h; context = λ n. refl; owner = λ n. refl; portals = λ m n h. h }

grows_both : (a b c : List Begun) → Grows a b → Grows b c → Grows a c
grows_both a b c g h = grind (arith, nat_tests)

pub number_of : (n : ℕ) (begun : List Begun) → (level_begun n begun).level ≡ n
number_of n [] = refl
number_of n (first ∷ rest) = elim (cases_Bool (first.level == n)) [ inl y ↦ rw y (eqb-true first.level n y) | inr z ↦ rw z (number_of n rest) ]

-- the first of a list is looked up, or the others are
pub level_here : (n : ℕ) (first : Begun) (rest : List Begun) → (first.level == n) ≡ true → level_begun n (first ∷ rest) ≡ first
level_here n first rest y = rw y refl

pub level_later : (n : ℕ) (first : Begun) (rest : List Begun) → (first.level == n) ≡ false → level_begun n (first ∷ rest) ≡ level_begun n rest
level_later n first rest z = rw z refl

-- each level that began gets the context of a portal
abbrev with_one : ℕ → Begun → Begun
with_one context level = record level { portals = context ∷ level.portals }

level_with : (context n : ℕ) (begun : List Begun) → level_begun n (map (with_one context) begun) ≡ (if has_begun n begun then with_one context (level_begun n begun) else level_begun n begun)
level_with context n [] = refl
level_with context n (first ∷ rest) = elim (cases_Bool (first.level == n)) [ inl y ↦ rw y refl | inr z ↦ rw z (level_with context n rest) ]

has_with : (context n : ℕ) (begun : List Begun) → has_begun n (map (with_one context) begun) ≡ has_begun n begun
has_with context n [] = refl
has_with context n (first ∷ rest) = ap (λ (b : Bool). (first.level == n) || b) (has_with context n rest)

pub grows_either : (b : Bool) (context : ℕ) (begun : List Begun)
    → Grows begun (elim b as (λ _. List Begun) [ true ↦ map (λ (level : Begun). record level { portals = context ∷ level.portals }) begun | false ↦ begun ])
grows_either b context begun = grind (arith, nat_tests, has_with, level_with, or_right, grows_same)

-- a portal's context that is made now is seen
pub new_seen : (context n : ℕ) (begun : List Begun) → has_begun n begun ≡ true → is_one_of context (level_begun n (with_portal (codes "PortalContext") context begun)).portals ≡ true
new_seen context n begun h = rw (level_with context n begun, h) (or_left (context == context) (is_one_of context (level_begun n begun).portals) (eq-eqb context context refl))

-- an event that neither begins a level nor its end
abbrev pub is_calm : What → Bool
is_calm (what.BeginLevel level) = false
is_calm (what.AbortLevel level) = false
is_calm other = true

abbrev pub AreCalm : List What → Type 0
AreCalm = AreSaid is_calm

begun_grows : (event : What) (begun : List Begun) → is_calm event ≡ true → Grows begun (begun_behind event Neither begun)
begun_grows (what.BeginLevel level) begun h = absurd (cc h)
begun_grows (what.Create context name parent) begun h = grows_either (is_named name (codes "PortalContext")) context begun
begun_grows (what.Owner owner) begun h = grows_same begun
begun_grows (what.OwnerIn owner parent) begun h = grows_same begun
begun_grows other begun h = grows_same begun

pub none_awaited : (event : What) → is_calm event ≡ true → awaited_behind event Neither ≡ Neither
none_awaited event h = grind (arith, nat_tests)

-- where no level is in its end, each event is allowed
pub nothing_ends : (event : What) (leaving : Leaving) → leaving.ends ≡ [] → staying.allows event leaving ≡ true
nothing_ends event leaving en = ap (λ (ends : List Begun). list_all (λ level. owners_inside event leaving level && contexts_inside event leaving level) ends) en

pub record Calming (leaving : Leaving) (events : List What) : Type 0 where
  pub allowed : allows_all staying leaving events ≡ true
  pub ends : (seen_after staying leaving events).ends ≡ []

pub calm_all : {events : List What} → AreCalm events → (leaving : Leaving) → leaving.ends ≡ [] → Calming leaving events
calm_all said_none leaving en = record { allowed = refl; ends = en }
calm_all (said_more {event = event} {events = events} h hs) leaving en = grind (arith, nat_tests, calm_all hs (staying.next event leaving), and_from, nothing_ends)

-- what fits still fits where more contexts of portals and of plans are known
pub begun_still : (a b : List Begun) → Grows a b → (levels : List LevelState) → AreBegun levels a → AreBegun levels b
begun_still a b g [] h = tt
begun_still a b g (level ∷ levels) h = grind (arith, nat_tests, begun_still a b g levels h.1)

pub seen_still : (a b : List Begun) → Grows a b → (ps : List OpenPortal) → AreSeen ps a → AreSeen ps b
seen_still a b g [] h = tt
seen_still a b g (p ∷ ps) h = (record { so = λ n level is low high. g.portals n level (h.0.so n level is low high) }, seen_still a b g ps h.1)

pub known_still : (a b : List ℕ) → ((n : ℕ) → is_one_of n a ≡ true → is_one_of n b ≡ true) → (plans : List StandingPlan) → AreKnown plans a → AreKnown plans b
known_still a b g [] h = tt
known_still a b g (plan ∷ plans) h = (g plan.context h.0, known_still a b g plans h.1)

-- The law of what leaves levels as they are.
pub record Works (s t : Scene) (events : List What) : Type 0 where
  pub levels : t.session.levels ≡ s.session.levels
  pub reads : Reads staying Seen s t events

pub works_both : {s t u : Scene} {xs ys : List What} → Works s t xs → Works t u ys → Works s u (xs ++ ys)
works_both a b = record { levels = b.levels ∙ a.levels; reads = read_both staying Seen a.reads b.reads }

-- portals and plans that say no more of contexts than others
abbrev pub FewerPortals : List OpenPortal → List OpenPortal → Type 0
FewerPortals ps qs = (begun : List Begun) → AreSeen ps begun → AreSeen qs begun

abbrev pub FewerPlans : List StandingPlan → List StandingPlan → Type 0
FewerPlans ps qs = (known : List ℕ) → AreKnown ps known → AreKnown qs known

-- what leaves levels as they are, says nothing of them, and knows no more contexts of portals and plans
pub record Lessens (s t : Scene) (events : List What) : Type 0 where
  pub levels : t.session.levels ≡ s.session.levels
  pub portals : FewerPortals s.session.portals t.session.portals
  pub plans : FewerPlans s.session.plans t.session.plans
  pub calm : AreCalm events

pub lessens_none : (s : Scene) → Lessens s s []
lessens_none s = record { levels = refl; portals = λ begun k. k; plans = λ known k. k; calm = said_none }

pub lessens_both : {s t u : Scene} {xs ys : List What} → Lessens s t xs → Lessens t u ys → Lessens s u (xs ++ ys)
lessens_both a b = grind (arith, nat_tests, said_both)

-- what is seen of levels, portals and plans, whatever is in its end
pub record Sees (leaving : Leaving) (s : Scene) : Type 0 where
  pub begun : AreBegun s.session.levels leaving.begun
  pub portals : AreSeen s.session.portals leaving.begun
  pub plans : AreKnown s.session.plans leaving.plans

-- what calm events leave of what was seen, where no level is being made
pub record Grown (a b : Leaving) : Type 0 where
  pub grows : Grows a.begun b.begun
  pub plans : (n : ℕ) → is_one_of n a.plans ≡ true → is_one_of n b.plans ≡ true
  pub awaited : b.awaited ≡ Neither

pub grown_all : {events : List What} → AreCalm events → (leaving : Leaving) → leaving.awaited ≡ Neither → Grown leaving (seen_after staying leaving events)
grown_all said_none leaving aw = record { grows = grows_same leaving.begun; plans = λ n k. k; awaited = aw }
grown_all (said_more {event = event} {events = events} h hs) leaving aw =
    let later : Leaving = staying.next event leaving in
    let one : Grows leaving.begun later.begun = subst (λ (a : Awaited). Grows leaving.begun (begun_behind event a leaving.begun)) (sym aw) (begun_grows event leaving.begun h) in
    let more : Grown later (seen_after staying later events) = grown_all hs later (ap (awaited_behind event) aw ∙ none_awaited event h) in
    grind (arith, nat_tests, grows_both)

-- such acts keep what is seen
pub record Kept (leaving : Leaving) (t : Scene) : Type 0 where
  pub sees : Sees leaving t
  pub awaited : leaving.awaited ≡ Neither

pub lessens_sees : (s t : Scene) (events : List What) (leaving : Leaving) → Lessens s t events → Sees leaving s → leaving.awaited ≡ Neither → Kept (seen_after staying leaving events) t
lessens_sees s t events leaving l k aw =
    let g : Grown leaving (seen_after staying leaving events) = grown_all l.calm leaving aw in
    let now : Leaving = seen_after staying leaving events in
    grind (arith, nat_tests, begun_still, seen_still, known_still)

pub works_of : {s t : Scene} {events : List What} → Lessens s t events → Works s t events
works_of {s = s} {t = t} {events = events} l = record {
  levels = l.levels;
  reads = record {
    so = λ leaving k.
        let c : Calming leaving events = calm_all l.calm leaving k.ends in
        let kept : Kept (seen_after staying leaving events) t = lessens_sees s t events leaving l (record { begun = k.begun; portals = k.portals; plans = k.plans }) k.awaited in
        record {
          allowed = c.allowed;
          fits = record { begun = kept.sees.begun; portals = kept.sees.portals; plans = kept.sees.plans; awaited = kept.awaited; ends = c.ends };
        };
  };
}

-- Each element that neither makes nor ends a level leaves levels as they are, and what is seen of levels fits behind it.

lessening : (s t : Scene) (events : List What) → t.session.levels ≡ s.session.levels → FewerPortals s.session.portals t.session.portals → FewerPlans s.session.plans t.session.plans → AreCalm events → Lessens s t events
lessening s t events levels portals plans h = record { levels = levels; portals = portals; plans = plans; calm = h }

-- what leaves levels, portals and plans as they are
pub unmoved : (s t : Scene) (events : List What) → t.session.levels ≡ s.session.levels → t.session.portals ≡ s.session.portals → t.session.plans ≡ s.session.plans → AreCalm events → Lessens s t events
unmoved s t events l p q h =
    lessening s t events l (λ begun k. subst (λ (ps : List OpenPortal). AreSeen ps begun) (sym p) k) (λ known k. subst (λ (plans : List StandingPlan). AreKnown plans known) (sym q) k) h

abbrev sees_inside : Part → Bool
sees_inside of_levels = true
sees_inside of_portals = true
sees_inside of_plans = true
sees_inside other = false

sight : Sight sees_inside is_calm Lessens
sight = record { both = λ a b. lessens_both a b; aside = λ s t same said. unmoved s t _ (same.so of_levels refl) (same.so of_portals refl) (same.so of_plans refl) said }

pub by_said : (event : What) → is_calm event ≡ true → Keeps Lessens (say event)
by_said event h = says sees_inside is_calm Lessens sight event h

pub by_switch : (n : ℕ) → Keeps Lessens (switched n)
by_switch n = record { so = λ s. unmoved s _ [] refl refl refl said_none }

-- portals
seen_changed : (name : Text) (change : OpenPortal → OpenPortal) → Lowers change → (ps : List OpenPortal) → FewerPortals ps (portal_changed name change ps)
seen_changed name change l [] begun h = tt
seen_changed name change l (p ∷ ps) begun h = grind (arith, nat_tests, seen_changed name change l ps begun h.1)

pub by_portal : (name : Text) (change : OpenPortal → OpenPortal) → Lowers change → Keeps Lessens (portal_becomes name change)
by_portal name change l = record { so = λ s. lessening s _ [] refl (seen_changed name change l s.session.portals) (λ known k. k) said_none }

pub seen_filter : (test : OpenPortal → Bool) (ps : List OpenPortal) → FewerPortals ps (filter test ps)
seen_filter test [] begun h = tt
seen_filter test (p ∷ ps) begun h = elim (cases_Bool (test p)) [ inl y ↦ rw y (h.0, seen_filter test ps begun h.1) | inr z ↦ rw z (seen_filter test ps begun h.1) ]

-- what the ends of portals are made of
pub inside_acts : Acts Lessens
inside_acts = search (lessens_none, lessens_both, by_portal, lessening, seen_filter, said_none, goes, sight, children_go)

-- plans
known_but : (n : ℕ) (plans : List StandingPlan) → FewerPlans plans (plans_but n plans)
known_but n [] known h = tt
known_but n (plan ∷ plans) known h = elim (cases_Bool (plan.number == n)) [ inl y ↦ rw y (known_but n plans known h.1) | inr z ↦ rw z (h.0, known_but n plans known h.1) ]

known_changed : (n : ℕ) (change : StandingPlan → StandingPlan) (known : List ℕ) (plans : List StandingPlan) → ((p : StandingPlan) → is_one_of p.context known ≡ true → is_one_of (change p).context known ≡ true)
    → AreKnown plans known → AreKnown (plan_changed n change plans) known
known_changed n change known [] k h = tt
known_changed n change known (plan ∷ plans) k h = grind (arith, nat_tests, known_changed n change known plans k h.1)

known_at : (n : ℕ) (p : StandingPlan) (known : List ℕ) (plans : List StandingPlan) → plan_at n plans ≡ Some p → AreKnown plans known → is_one_of p.context known ≡ true
known_at n p known [] is h = absurd (cc is)
known_at n p known (plan ∷ plans) is h = grind (arith, nat_tests, known_at n p known plans)

plans_become : (change : List StandingPlan → List StandingPlan) → ((plans : List StandingPlan) → FewerPlans plans (change plans)) → Keeps Lessens (changes (λ session. record session { plans = change session.plans }))
plans_become change h = record { so = λ s. lessening s _ [] refl (λ begun k. k) (h s.session.plans) said_none }

by_settled : (q : StandingPlan) → Keeps Lessens (plan_settled q)
by_settled q = by_order Lessens inside_acts (next (plans_become (plans_but q.number) (known_but q.number)) (next (inside_acts.gone q.context) last))

plan_is : (n : ℕ) (p q : StandingPlan) (s : Scene) → plan_at n s.session.plans ≡ Some p → q.context ≡ p.context → Lessens s (plan_becomes q s).scene (plan_becomes q s).events
plan_is n p q s is same = grind (arith, nat_tests, by_either, inside_acts, by_settled q, lessening, known_changed, known_at, said_none)

plan_goes : (n : ℕ) → Keeps Lessens (plan_left n)
plan_goes n = record { so = λ s. go s (plan_at n s.session.plans) refl }
  where
    go : (s : Scene) (o : Option StandingPlan) → plan_at n s.session.plans ≡ o
        → Lessens s (where_there o (λ plan. plan_becomes (record plan { references = plan.references - 1 })) s).scene (where_there o (λ plan. plan_becomes (record plan { references = plan.references - 1 })) s).events
    go s None is = lessens_none s
    go s (Some p) is = plan_is n p (record p { references = p.references - 1 }) s is refl

-- items that are taken and released
file_leaves : FileLeaves Lessens
file_leaves = unseen_files sees_inside is_calm Lessens sight refl (λ file. refl) (λ file. refl)

keys : KeyLeaves Lessens
keys = unseen_keys sees_inside is_calm Lessens sight refl

owners : OwnerLeaves Lessens
owners = unseen_owners sees_inside is_calm Lessens sight refl (λ item n. refl) (λ item n. refl) (item_comes sees_inside is_calm Lessens sight refl refl (λ item n. refl))

takes : (keeper : Keeper) (key : ℕ) → Keeps Lessens (taken_by keeper key)
takes NoOne key = record { so = lessens_none }
takes ThePlans key = record { so = (plans_become (plan_changed key (λ plan. record plan { references = plan.references + 1 })) (λ plans known k. known_changed key _ known plans (λ p j. j) k)).so }
takes TheDescriptors key = file_leaves.used key
takes (TheKind place) key = keys.opened place key

pub inside_released : (owner : ℕ) (kind : KindId) (key : ℕ) → Keeps Lessens (item_released owner kind key)
inside_released = item_releases Lessens inside_acts plan_goes file_leaves.closed keys.closed (item_goes sees_inside is_calm Lessens sight refl (λ item n. refl))

pub inside_phase : (commit top : Bool) (n : ℕ) (phase : Phase) → Keeps Lessens (phase_released commit top n phase)
inside_phase =
    phase_keeps Lessens inside_acts plan_goes file_leaves.closed keys.closed owners
    (unseen_locks sees_inside is_calm Lessens sight refl (λ object mode count owner. refl) (λ object mode count from to. refl))

pub by_discarded : (n : ℕ) → Keeps Lessens (owner_gone n)
by_discarded = owner_goes sees_inside is_calm Lessens sight refl (λ n. refl)

pub by_moved : (n parent : ℕ) → Keeps Lessens (owner_moved n parent)
by_moved = owner_moves sees_inside is_calm Lessens sight refl (λ n parent. refl)

pub inside_stack : StackLeaves Lessens
inside_stack = unseen_stack sees_inside is_calm Lessens sight refl (λ snapshot. refl)

-- So what each element is made of keeps what is seen of levels.
pub works_act : {act : Scene → Ended} → Keeps Lessens act → Keeps Works act
works_act h = record { so = λ s. works_of (h.so s) }

quietly : (act : Scene → Ended) → ((s : Scene) → Lessens s (act s).scene (act s).events) → Keeps Works act
quietly act h = record { so = λ s. works_of (h s) }

word_calm : (event : What) → is_word event ≡ true → is_calm event ≡ true
word_calm event h = grind (arith, nat_tests)

contexts : ContextLeaves Lessens
contexts = unseen_contexts sees_inside is_calm Lessens sight refl refl refl (λ word n. refl) (λ n. refl) (λ n. refl)

works_acts : Acts Works
works_acts = grind (arith, nat_tests, works_both, works_act, by_portal, inside_acts)

pub work_leaves : ((plan : ℕ) → Keeps Works (plan_made plan)) → WorkLeaves Works
work_leaves planned = record {
  leaves = record {
    acts = works_acts;
    word = λ event h. works_act (by_said event (word_calm event h));
    switch = λ n. works_act (by_switch n);
    portal_new = λ name object rows bad. quietly (portal_made name object rows bad) (λ s. lessening s _ [] refl (λ begun k. (record { so = λ n level is low high. absurd (cc is) }, k)) (λ known k. k) said_none);
    plan = λ n p q s is same. works_of (plan_is n p q s is same);
    alone = λ n. works_act (contexts.alone n);
    cleared = λ n. works_act (contexts.cleared n);
    allocated = λ name bytes zeroed n. quietly (memory_taken name bytes zeroed n) (λ s. unmoved s _ [] refl refl refl said_none);
    fitted = λ name bytes. quietly (chunk_resized name bytes) (λ s. unmoved s _ [] refl refl refl said_none);
    given = λ name. quietly (contexts_become (freed name)) (λ s. unmoved s _ [] refl refl refl said_none);
    put = λ name place bytes. quietly (contexts_become (written name place bytes)) (λ s. unmoved s _ [] refl refl refl said_none);
    reported = quietly (λ s. tells (report s.session.contexts) s) (λ s. unmoved s s _ refl refl refl (said_report (λ depth n name stats. refl) (λ total. refl) s.session.contexts));
    released = λ owner kind key. works_act (inside_released owner kind key);
  };
  moves = record { hooked = λ n hook. works_act (hook_waits_so sees_inside is_calm Lessens sight refl refl refl (λ word n. refl) n hook); shifted = λ n parent. works_act (moves_context sees_inside is_calm Lessens sight refl refl refl (λ n parent. refl) n parent) };
  made = λ parent name protected kind. works_act (makes_context sees_inside is_calm Lessens sight refl refl refl (λ n parent name. refl) parent name protected kind);
  planned = planned;
  owner = λ parent. works_act (owner_makes sees_inside is_calm Lessens sight refl refl (λ n. refl) (λ n parent. refl) parent);
  taken = λ owner kind key. works_act (by_order Lessens inside_acts (next (takes (keeper_of kind) key) (next (owners.remembered owner kind key) last)));
  locked = λ object mode n. works_act (locks_one sees_inside is_calm Lessens sight refl (λ object mode count owner. refl) (λ object mode owner. refl) object mode n);
  unlocked = λ object mode n. works_act (unlocks sees_inside is_calm Lessens sight refl (λ object mode count owner. refl) object mode n);
  used = λ file. works_act (file_leaves.used file);
  pushed = λ snapshot. works_act (pushes sees_inside is_calm Lessens sight refl (λ snapshot. refl) snapshot);
  popped = works_act inside_stack.popped;
  phase = λ commit top n phase. works_act (inside_phase commit top n phase);
  discarded = λ n. works_act (by_discarded n);
}

-- Each element that neither makes nor ends a level keeps what is seen of levels.

-- events that are calm, where more is known of portals and plans behind them
works_by : (s t : Scene) (events : List What) → t.session.levels ≡ s.session.levels → AreCalm events
    → ((leaving : Leaving) → Seen leaving s → AreSeen s.session.portals (seen_after staying leaving events).begun → AreSeen t.session.portals (seen_after staying leaving events).begun)
    → ((leaving : Leaving) → Seen leaving s → AreKnown s.session.plans (seen_after staying leaving events).plans → AreKnown t.session.plans (seen_after staying leaving events).plans)
    → Works s t events
works_by s t events same h portals plans = record {
  levels = same;
  reads = record {
    so = λ leaving k.
        let c : Calming leaving events = calm_all h leaving k.ends in
        let now : Leaving = seen_after staying leaving events in
        let g : Grown leaving now = grown_all h leaving k.awaited in
        record {
          allowed = c.allowed;
          fits = record {
            begun = subst (λ (levels : List LevelState). AreBegun levels now.begun) (sym same) (begun_still leaving.begun now.begun g.grows s.session.levels k.begun);
            portals = portals leaving k (seen_still leaving.begun now.begun g.grows s.session.portals k.portals);
            plans = plans leaving k (known_still leaving.plans now.plans g.plans s.session.plans k.plans);
            awaited = g.awaited;
            ends = c.ends;
          };
        };
  };
}

-- a portal gets its context
abbrev pub AreLow : ℕ → List OpenPortal → Type 0
AreLow most [] = Unit {0}
AreLow most (p ∷ ps) = (p.created ≤ most) × AreLow most ps

live_low : (p : OpenPortal) (levels : List LevelState) → IsLive p levels ⊎ IsDead p levels → p.created ≤ length levels
live_low p levels s = elim s [ inl l ↦ omega (arith, l.within, l.active, depth_small levels) | inr d ↦ omega (arith, d.created) ]

pub low_of : (ps : List OpenPortal) (s : Scene) → All (λ p. IsPortal p s.session.levels s.session.contexts s.session.owners s.session.current) ps → AreLow (length s.session.levels) ps
low_of [] s h = tt
low_of (p ∷ ps) s h =
    let here : IsPortal p s.session.levels s.session.contexts s.session.owners s.session.current =
    All-head (λ p. IsPortal p s.session.levels s.session.contexts s.session.owners s.session.current) p ps h in
    (live_low p s.session.levels here.stage, low_of ps s (All-tail (λ p. IsPortal p s.session.levels s.session.contexts s.session.owners s.session.current) p ps h))

levels_began : (levels : List LevelState) (begun : List Begun) → AreBegun levels begun → (n : ℕ) → 1 ≤ n → n ≤ length levels → has_begun n begun ≡ true
levels_began [] begun h n low high = absurd (omega (arith, low, high))
levels_began (level ∷ levels) begun h n low high = grind (arith, nat_tests, levels_began levels begun h.1 n low)

named_seen : (name : Text) (n most : ℕ) (begun : List Begun) → ((level : ℕ) → 1 ≤ level → level ≤ most → is_one_of n (level_begun level begun).portals ≡ true) → (ps : List OpenPortal) → AreLow most ps → AreSeen ps begun
    → AreSeen (portal_changed name (λ p. record p { context = Some n }) ps) begun
named_seen name n most begun new [] low h = tt
named_seen name n most begun new (p ∷ ps) low h = grind (arith, nat_tests, named_seen name n most begun new ps low.1 h.1)

portal_context_works : (name : Text) (s : Scene) → Stands s → Works s (new_context_made (PortalContext name) s).scene (new_context_made (PortalContext name) s).events
portal_context_works name s h =
    let n : ℕ = s.session.next_context in
    works_by s _ (what.Create n (codes "PortalContext") portals_context ∷ []) refl (said_one _ refl)
    (λ leaving k still.
    named_seen name n (length s.session.levels) (with_portal (codes "PortalContext") n (with_context leaving.awaited n leaving.begun))
    (λ level low high.
    subst (λ (a : Awaited). is_one_of n (level_begun level (with_portal (codes "PortalContext") n (with_context a n leaving.begun))).portals ≡ true) (sym k.awaited)
    (new_seen n level leaving.begun (levels_began s.session.levels leaving.begun k.begun level low high)))
    s.session.portals (low_of s.session.portals s h.portals.each) still)
    (λ leaving k still. still)

-- a plan is made
known_more : (known : List ℕ) (plans : List StandingPlan) (plan : StandingPlan) → is_one_of plan.context known ≡ true → AreKnown plans known → AreKnown (plans ++ (plan ∷ [])) known
known_more known [] plan h k = (h, tt)
known_more known (first ∷ plans) plan h k = (k.0, known_more known plans plan h k.1)

plan_is_made : (plan : ℕ) → Keeps Works (plan_made plan)
plan_is_made plan = search (works_by, said_one, known_more, or_left, eq-eqb)

pub element_works : (w : Option ℕ) (x : Element) (m : Moment) → Stands m.scene → IsOwnWork x → Follows Works m.scene (does w x m)
element_works w x m h own = own_follows Works (work_leaves plan_is_made) w x m own (λ name. portal_context_works name m.scene h)
