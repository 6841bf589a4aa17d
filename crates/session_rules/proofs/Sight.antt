-- Laws that see some parts of a scene alone, and to which some events say nothing: they have the leaves that change other parts.
use Rattle.session_rules.proofs.Base.{◌≡◌, ℕ, ◌-◌, Bool, true, false, if◌then◌else◌, List, [], ◌∷◌, ◌++◌, codes, Option, Some, None, refl, ◌==◌, ◌&&◌, length, take, arith, nat_tests}
use Rattle.session_rules.proofs.Below.{What, Item, KindId, Phase, Mode, CtxKind, changed, children, subtree, Hook, ShelfState, zeros, Context, Contexts, is_among, Lock, Kind, OwnerTree, released, Active, Stats, order_at, Total, last_of, line_of}
use Rattle.session_rules.proofs.Rules.{Scene, Text, plan_at, changes, children_gone, context_cleared, context_cleared_alone, context_gone, in_order, portal_becomes, say, where_there, context_moved, lock_given_back, snapshot_popped, stack_lowered, stack_popped, LevelState, OpenPortal, StandingPlan, cache_context, last_of as last_snapshot, Keeper, NoOne, TheDescriptors, TheKind, ThePlans, descriptor_left, given_back, item_released, keeper_of, key_left, owner_gone, owner_moved, phase_released, plan_becomes, plan_left, plan_settled, plan_stays, context_made, held, left as bytes_left, owner_made, plan_made, descriptor_given, files, hook_waits, item_taken, lock_taken, remembers, snapshot_pushed, taken_by}
use Rattle.session_rules.proofs.Leaves.{Acts, EndLeaves, Keeps, Law, Leaves, LevelLeaves, is_level_word, is_word}
use Rattle.session_rules.proofs.Chunked.{LeavesHooks, by_allocated, by_freed, by_resized, by_written}
use Rattle.session_rules.proofs.ReleaseSteps.{ItemGoes, LockLeaves, OwnerLeaves, item_given_back, item_releases, phase_keeps}
use Rattle.session_rules.proofs.Said.{AreSaid, said_all_locks, said_alone, said_cleared, said_gone, said_lock_passes, said_lock_releases, said_map, said_more, said_moved, said_none, said_one, said_pops, said_report, said_touch}
use Rattle.session_rules.proofs.Walk.{by_either, by_there}

-- the parts of a scene that change
pub data Part : Type 0 where
  of_levels : Part
  of_portals : Part
  of_plans : Part
  of_contexts : Part
  of_next_context : Part
  of_shelf : Part
  of_owners : Part
  of_next_owner : Part
  of_next_serial : Part
  of_locks : Part
  of_recent : Part
  of_descriptors : Part
  of_snapshots : Part
  of_kinds : Part

abbrev pub IsSame : Part → Scene → Scene → Type 0
IsSame of_levels s t = t.session.levels ≡ s.session.levels
IsSame of_portals s t = t.session.portals ≡ s.session.portals
IsSame of_plans s t = t.session.plans ≡ s.session.plans
IsSame of_contexts s t = t.session.contexts ≡ s.session.contexts
IsSame of_next_context s t = t.session.next_context ≡ s.session.next_context
IsSame of_shelf s t = t.around.shelf ≡ s.around.shelf
IsSame of_owners s t = t.session.owners ≡ s.session.owners
IsSame of_next_owner s t = t.session.next_owner ≡ s.session.next_owner
IsSame of_next_serial s t = t.session.next_serial ≡ s.session.next_serial
IsSame of_locks s t = t.session.locks ≡ s.session.locks
IsSame of_recent s t = t.session.recent ≡ s.session.recent
IsSame of_descriptors s t = t.around.descriptors ≡ s.around.descriptors
IsSame of_snapshots s t = t.session.snapshots ≡ s.session.snapshots
IsSame of_kinds s t = t.around.kinds ≡ s.around.kinds

-- of a law that sees none of these
abbrev pub no_part : Part → Bool
no_part part = false

-- what is seen is the same in two scenes
pub record Same (sees : Part → Bool) (s t : Scene) : Type 0 where
  pub so : (part : Part) → sees part ≡ true → IsSame part s t

-- What a law owes that sees no more than these parts, and takes no notice of events that pass the test.
pub record Sight (sees : Part → Bool) (P : What → Bool) (R : Law) : Type 0 where
  pub both : {s t u : Scene} {xs ys : List What} → R s t xs → R t u ys → R s u (xs ++ ys)
  pub aside : (s t : Scene) {events : List What} → Same sees s t → AreSaid P events → R s t events

-- the words that it takes no notice of: those of elements, and the lines of a report
pub record Words (P : What → Bool) : Type 0 where
  pub word : (event : What) → is_word event ≡ true → P event ≡ true
  pub line : (depth n : ℕ) (name : Text) (stats : Stats) → P (line_of depth n name stats) ≡ true
  pub total : (total : Total) → P (last_of total) ≡ true

-- What it owes for each part that changes: for contexts, for an item that is forgotten, for owners and their items, locks, descriptors, snapshots and extension kinds.
pub record ContextLeaves (R : Law) : Type 0 where
  pub gone : (n : ℕ) → Keeps R (context_gone n)
  pub children : (n : ℕ) → Keeps R (children_gone n)
  pub alone : (n : ℕ) → Keeps R (context_cleared_alone n)
  pub cleared : (n : ℕ) → Keeps R (context_cleared n)
  pub chunk : (s : Scene) (n : ℕ) (f : Context → Context) → LeavesHooks f → R s (record s { session = record s.session { contexts = changed n f s.session.contexts } }) []

pub record FileLeaves (R : Law) : Type 0 where
  pub used : (file : ℕ) → Keeps R (descriptor_given file)
  pub closed : (file : ℕ) → Keeps R (descriptor_left file)

pub record StackLeaves (R : Law) : Type 0 where
  pub popped : Keeps R snapshot_popped
  pub stack_gone : (level : ℕ) → Keeps R (stack_popped level)
  pub stack_passed : (level : ℕ) → Keeps R (stack_lowered level)

pub record KeyLeaves (R : Law) : Type 0 where
  pub opened : (place key : ℕ) → Keeps R (taken_by (TheKind place) key)
  pub closed : (place key : ℕ) → Keeps R (key_left place key)

module _ (sees : Part → Bool) (s : Scene) where
  same_all : Same sees s s
  same_all = grind (arith, nat_tests)

  but_levels : sees of_levels ≡ false → (levels : List LevelState) → Same sees s (record s { session = record s.session { levels = levels } })
  but_levels h0 levels = grind (arith, nat_tests)

  but_portals : sees of_portals ≡ false → (portals : List OpenPortal) → Same sees s (record s { session = record s.session { portals = portals } })
  but_portals h0 portals = grind (arith, nat_tests)

  but_plans : sees of_plans ≡ false → (plans : List StandingPlan) → Same sees s (record s { session = record s.session { plans = plans } })
  but_plans h0 plans = grind (arith, nat_tests)

  but_contexts : sees of_contexts ≡ false → sees of_next_context ≡ false → sees of_shelf ≡ false → (contexts : Contexts) (n : ℕ) (shelf : ShelfState) → Same sees s (record { session = record s.session { contexts = contexts; next_context = n }; around = record s.around { shelf = shelf } })
  but_contexts h0 h1 h2 contexts n shelf = grind (arith, nat_tests)

  but_owners : sees of_owners ≡ false → (owners : OwnerTree) → Same sees s (record s { session = record s.session { owners = owners } })
  but_owners h0 owners = grind (arith, nat_tests)

  but_new_owner : sees of_owners ≡ false → sees of_next_owner ≡ false → (owners : OwnerTree) (n : ℕ) → Same sees s (record s { session = record s.session { owners = owners; next_owner = n } })
  but_new_owner h0 h1 owners n = grind (arith, nat_tests)

  but_new_item : sees of_owners ≡ false → sees of_next_serial ≡ false → (owners : OwnerTree) (n : ℕ) → Same sees s (record s { session = record s.session { owners = owners; next_serial = n } })
  but_new_item h0 h1 owners n = grind (arith, nat_tests)

  but_locks : sees of_locks ≡ false → (locks : List Lock) → Same sees s (record s { session = record s.session { locks = locks } })
  but_locks h0 locks = grind (arith, nat_tests)

  but_recent : sees of_recent ≡ false → (recent : List ℕ) → Same sees s (record s { session = record s.session { recent = recent } })
  but_recent h0 recent = grind (arith, nat_tests)

  but_snapshots : sees of_snapshots ≡ false → (snapshots : List Active) → Same sees s (record s { session = record s.session { snapshots = snapshots } })
  but_snapshots h0 snapshots = grind (arith, nat_tests)

  but_kinds : sees of_kinds ≡ false → (kinds : List Kind) → Same sees s (record s { around = record s.around { kinds = kinds } })
  but_kinds h0 kinds = grind (arith, nat_tests)

  but_current : (n : ℕ) → Same sees s (record s { session = record s.session { current = n } })
  but_current n = grind (arith, nat_tests)

module _ (sees : Part → Bool) (P : What → Bool) (R : Law) (o : Sight sees P R) where
  pub none_so : (s : Scene) → R s s []
  none_so s = o.aside s s (same_all sees s) said_none

  pub says : (event : What) → P event ≡ true → Keeps R (say event)
  says event h = record { so = λ s. o.aside s s (same_all sees s) (said_one event h) }

  -- contexts that go; where a law sees no portals, ends of portals owe no more
  module _ (contexts : sees of_contexts ≡ false) (next_context : sees of_next_context ≡ false) (shelf : sees of_shelf ≡ false) where
    unseen : (s : Scene) (t : Contexts) (n : ℕ) (hooks : ShelfState) {events : List What} → AreSaid P events → R s (record { session = record s.session { contexts = t; next_context = n }; around = record s.around { shelf = hooks } }) events
    unseen s t n hooks said = o.aside s _ (but_contexts sees s contexts next_context shelf t n hooks) said

    pub goes : ((word n : ℕ) → P (What.Callback word n) ≡ true) → ((n : ℕ) → P (What.Delete n) ≡ true) → (n : ℕ) → Keeps R (context_gone n)
    goes called deleted n = record { so = λ s. unseen s _ _ _ (said_gone called deleted (subtree n s.session.contexts)) }

    pub children_go : ((word n : ℕ) → P (What.Callback word n) ≡ true) → ((n : ℕ) → P (What.Delete n) ≡ true) → (n : ℕ) → Keeps R (children_gone n)
    children_go called deleted n = record { so = λ s. unseen s _ _ _ (said_gone called deleted (children n s.session.contexts)) }

    pub makes_context : ((n parent : ℕ) (name : Text) → P (What.Create n name parent) ≡ true) → (parent : ℕ) (name : Text) (protected : Bool) (kind : CtxKind) → Keeps R (context_made parent name protected kind)
    makes_context created parent name protected kind = record { so = λ s. unseen s _ _ _ (said_one _ (created s.session.next_context parent name)) }

    pub hook_waits_so : ((word n : ℕ) → P (What.Hook word n) ≡ true) → (n : ℕ) (hook : Hook) → Keeps R (hook_waits n hook)
    hook_waits_so hooked n hook = record { so = λ s. unseen s _ _ _ (said_one _ (hooked hook.word n)) }

    pub moves_context : ((n parent : ℕ) → P (What.Move n parent) ≡ true) → (n parent : ℕ) → Keeps R (context_moved n parent)
    moves_context moved n parent = record { so = λ s. unseen s _ _ _ (said_moved moved n parent s.session.contexts) }

    -- no context is seen
    pub unseen_contexts : ((word n : ℕ) → P (What.Callback word n) ≡ true) → ((n : ℕ) → P (What.Delete n) ≡ true) → ((n : ℕ) → P (What.Reset n) ≡ true) → ContextLeaves R
    unseen_contexts called deleted reset = record {
      gone = goes called deleted;
      children = children_go called deleted;
      alone = λ n. record { so = λ s. unseen s _ _ _ (said_alone called reset n s.session.contexts) };
      cleared = λ n. record { so = λ s. unseen s _ _ _ (said_cleared called deleted reset n s.session.contexts) };
      chunk = λ s n f h. unseen s _ _ _ said_none;
    }

  -- no owner and no item is seen
  module _ (owners : sees of_owners ≡ false) where
    owners_so : (s : Scene) (t : OwnerTree) {events : List What} → AreSaid P events → R s (record s { session = record s.session { owners = t } }) events
    owners_so s t said = o.aside s _ (but_owners sees s owners t) said

    pub item_goes : ((item : Item) (n : ℕ) → P (What.Release item n) ≡ true) → ItemGoes R
    item_goes said n kind key item s is = owners_so s _ (said_one _ (said item n))

    pub item_comes : sees of_next_serial ≡ false → ((item : Item) (n : ℕ) → P (What.Acquire item n) ≡ true) → (n : ℕ) (kind : KindId) (key : ℕ) → Keeps R (remembers n kind key)
    item_comes serial acquired n kind key = record { so = λ s. o.aside s _ (but_new_item sees s owners serial _ _) (said_one _ (acquired _ n)) }

    pub unseen_owners : ((item : Item) (n : ℕ) → P (What.Release item n) ≡ true) → ((item : Item) (n : ℕ) → P (What.NotClosed item n) ≡ true) → ((n : ℕ) (kind : KindId) (key : ℕ) → Keeps R (remembers n kind key)) → OwnerLeaves R
    unseen_owners said warns remembered = record {
      releasing = λ item n. says (What.Release item n) (said item n);
      warned = λ item n s. o.aside s s (same_all sees s) (said_more (warns item n) (said_one (What.Release item n) (said item n)));
      remembered = remembered;
      swept = λ kinds phase n s. owners_so s _ said_none;
    }

    pub owner_goes : ((n : ℕ) → P (What.OwnerGone n) ≡ true) → (n : ℕ) → Keeps R (owner_gone n)
    owner_goes gone n = record { so = λ s. owners_so s _ (said_map (λ (k : ℕ). What.OwnerGone k) gone (order_at n s.session.owners)) }

    pub owner_moves : ((n parent : ℕ) → P (What.MoveOwner n parent) ≡ true) → (n parent : ℕ) → Keeps R (owner_moved n parent)
    owner_moves moved n parent = record { so = λ s. owners_so s _ (said_one _ (moved n parent)) }

    pub owner_makes : sees of_next_owner ≡ false → ((n : ℕ) → P (What.Owner n) ≡ true) → ((n parent : ℕ) → P (What.OwnerIn n parent) ≡ true) → (parent : Option ℕ) → Keeps R (owner_made parent)
    owner_makes next_owner made made_in None = record { so = λ s. o.aside s _ (but_new_owner sees s owners next_owner _ _) (said_one _ (made s.session.next_owner)) }
    owner_makes next_owner made made_in (Some parent) = record { so = λ s. o.aside s _ (but_new_owner sees s owners next_owner _ _) (said_one _ (made_in s.session.next_owner parent)) }

  -- no lock is seen
  module _ (off : sees of_locks ≡ false) (unlocked : (object : ℕ) (mode : Mode) (count owner : ℕ) → P (What.ReleaseLock object mode count owner) ≡ true) where
    locks_so : (s : Scene) (locks : List Lock) {events : List What} → AreSaid P events → R s (record s { session = record s.session { locks = locks } }) events
    locks_so s locks said = o.aside s _ (but_locks sees s off locks) said

    pub unseen_locks : ((object : ℕ) (mode : Mode) (count from to : ℕ) → P (What.PassLock object mode count from to) ≡ true) → LockLeaves R
    unseen_locks passed = record {
      let_go = λ owner. record { so = λ s. locks_so s _ (said_lock_releases unlocked owner s.session.locks) };
      passed = λ from to. record { so = λ s. locks_so s _ (said_lock_passes passed from to s.session.locks) };
      all_gone = λ top. record { so = λ s. locks_so s _ (said_all_locks unlocked top s.session.locks) };
    }

    pub unlocks : (object : ℕ) (mode : Mode) (n : ℕ) → Keeps R (lock_given_back object mode n)
    unlocks object mode n = record { so = λ s. locks_so s _ (said_one _ (unlocked object mode 1 n)) }

    pub locks_one : ((object : ℕ) (mode : Mode) (owner : ℕ) → P (What.AcquireLock object mode owner) ≡ true) → (object : ℕ) (mode : Mode) (n : ℕ) → Keeps R (lock_taken object mode n)
    locks_one locked object mode n = record { so = λ s. locks_so s _ (said_one _ (locked object mode n)) }

  -- no descriptor is seen
  pub unseen_files : sees of_recent ≡ false → ((file : ℕ) → P (What.DescriptorOpened file) ≡ true) → ((file : ℕ) → P (What.DescriptorClosed file) ≡ true) → FileLeaves R
  unseen_files off opened closed = record {
    used = λ file. record { so = λ s. o.aside s _ (but_recent sees s off _) (said_touch opened closed file (files s)) };
    closed = λ file. record { so = λ s. left file s (is_among file s.session.recent) refl };
  }
    where
      left : (file : ℕ) (s : Scene) (b : Bool) → is_among file s.session.recent ≡ b → R s (descriptor_left file s).scene (descriptor_left file s).events
      left file s true is = rw is (o.aside s _ (but_recent sees s off _) (said_one (What.DescriptorClosed file) (closed file)))
      left file s false is = rw is (none_so s)

  -- no active snapshot is seen
  module _ (off : sees of_snapshots ≡ false) where
    stack_so : (s : Scene) (snapshots : List Active) {events : List What} → AreSaid P events → R s (record s { session = record s.session { snapshots = snapshots } }) events
    stack_so s snapshots said = o.aside s _ (but_snapshots sees s off snapshots) said

    pub unseen_stack : ((snapshot : ℕ) → P (What.Pop snapshot) ≡ true) → StackLeaves R
    unseen_stack popped = record {
      popped = record { so = λ s. pops s (last_snapshot s.session.snapshots) };
      stack_gone = λ level. record { so = λ s. stack_so s _ (said_pops popped level s.session.snapshots) };
      stack_passed = λ level. record { so = λ s. stack_so s _ said_none };
    }
      where
        pops : (s : Scene) (entry : Option Active)
            → R s (where_there entry (λ entry. in_order (changes (λ session. record session { snapshots = take (length session.snapshots - 1) session.snapshots }) ∷ say (What.Pop entry.snapshot) ∷ [])) s).scene
            (where_there entry (λ entry. in_order (changes (λ session. record session { snapshots = take (length session.snapshots - 1) session.snapshots }) ∷ say (What.Pop entry.snapshot) ∷ [])) s).events
        pops s None = none_so s
        pops s (Some entry) = stack_so s _ (said_one (What.Pop entry.snapshot) (popped entry.snapshot))

    pub pushes : ((snapshot : ℕ) → P (What.Push snapshot) ≡ true) → (snapshot : ℕ) → Keeps R (snapshot_pushed snapshot)
    pushes pushed snapshot = record { so = λ s. stack_so s _ (said_one (What.Push snapshot) (pushed snapshot)) }

  -- no extension kind is seen
  pub unseen_keys : sees of_kinds ≡ false → KeyLeaves R
  unseen_keys off = record {
    opened = λ place key. record { so = λ s. o.aside s _ (but_kinds sees s off _) said_none };
    closed = λ place key. record { so = λ s. o.aside s _ (but_kinds sees s off _) said_none };
  }

  -- no portal and no plan is seen
  module _ (portals : sees of_portals ≡ false) (plans : sees of_plans ≡ false) where
    portals_so : (s : Scene) (portals : List OpenPortal) → R s (record s { session = record s.session { portals = portals } }) []
    portals_so s new = o.aside s _ (but_portals sees s portals new) said_none

    plans_so : (s : Scene) (plans : List StandingPlan) → R s (record s { session = record s.session { plans = plans } }) []
    plans_so s new = o.aside s _ (but_plans sees s plans new) said_none

    pub places : (name : Text) (n : ℕ) → Keeps R (portal_becomes name (λ p. record p { context = Some n }))
    places name n = record { so = λ s. portals_so s _ }

    pub plans_one : ((parent : ℕ) (name : Text) (protected : Bool) (kind : CtxKind) → Keeps R (context_made parent name protected kind)) → (plan : ℕ) → Keeps R (plan_made plan)
    plans_one made plan = record { so = λ s. o.both (plans_so s _) (o.both ((made cache_context (codes "CachedPlan") true CtxKind.Small).so _) (none_so _)) }

    module _ (gone : (n : ℕ) → Keeps R (context_gone n)) (children : (n : ℕ) → Keeps R (children_gone n)) where
      pub acts_of : Acts R
      acts_of = record {
        none = none_so;
        both = λ h k. o.both h k;
        portal = λ name change low. record { so = λ s. portals_so s _ };
        portal_goes = λ name. record { so = λ s. portals_so s _ };
        gone = gone;
        children = children;
      }

      plan_so : (plan : StandingPlan) (s : Scene) → R s (plan_becomes plan s).scene (plan_becomes plan s).events
      plan_so plan s =
          by_either R acts_of (plan.discarded && (plan.references == 0)) (plan_settled plan s) (plan_stays plan s) (o.both (plans_so s _) (o.both ((gone plan.context).so _) (none_so _))) (plans_so s _)

      plan_goes : (key : ℕ) → Keeps R (plan_left key)
      plan_goes key = record { so = λ s. (by_there R acts_of (plan_at key s.session.plans) _ (λ (plan : StandingPlan). record { so = plan_so (record plan { references = plan.references - 1 }) })).so s }

      -- an item that is given back, one that is released, and a phase of a release
      module _ (closed : (file : ℕ) → Keeps R (descriptor_left file)) (key_closed : (place key : ℕ) → Keeps R (key_left place key)) where
        pub gives_back : (item : Item) → Keeps R (given_back item)
        gives_back = item_given_back R acts_of plan_goes closed key_closed

        pub releases : ItemGoes R → (owner : ℕ) (kind : KindId) (key : ℕ) → Keeps R (item_released owner kind key)
        releases = item_releases R acts_of plan_goes closed key_closed

        pub phase_so : OwnerLeaves R → LockLeaves R → (commit top : Bool) (m : ℕ) (phase : Phase) → Keeps R (phase_released commit top m phase)
        phase_so = phase_keeps R acts_of plan_goes closed key_closed

    pub takes : FileLeaves R → KeyLeaves R → (keeper : Keeper) (key : ℕ) → Keeps R (taken_by keeper key)
    takes f y NoOne key = record { so = none_so }
    takes f y ThePlans key = record { so = λ s. plans_so s _ }
    takes f y TheDescriptors key = f.used key
    takes f y (TheKind place) key = y.opened place key

    pub taken_so : OwnerLeaves R → FileLeaves R → KeyLeaves R → (owner : ℕ) (kind : KindId) (key : ℕ) → Keeps R (item_taken owner kind key)
    taken_so n f y owner kind key = record { so = λ s. o.both ((takes f y (keeper_of kind) key).so s) (o.both ((n.remembered owner kind key).so _) (none_so _)) }

    -- all leaves
    module _ (c : ContextLeaves R) (w : Words P) where
      -- the law where the contexts become others
      abbrev Chunks : Scene → Contexts → Type 0
      Chunks s contexts = R s (record s { session = record s.session { contexts = contexts } }) []

      pub leaves_of : ((owner : ℕ) (kind : KindId) (key : ℕ) → Keeps R (item_released owner kind key)) → Leaves R
      leaves_of released = record {
        acts = acts_of c.gone c.children;
        word = λ event h. says event (w.word event h);
        switch = λ m. record { so = λ s. o.aside s _ (but_current sees s m) said_none };
        portal_new = λ name object rows bad. record { so = λ s. portals_so s _ };
        plan = λ m p q s is same. plan_so c.gone c.children q s;
        alone = c.alone;
        cleared = c.cleared;
        allocated = λ name bytes zeroed n. record { so = λ s. by_allocated (Chunks s) s.session.contexts (none_so s) (c.chunk s) n (bytes_left s) name bytes (if zeroed then zeros bytes else []) };
        fitted = λ name bytes. record { so = λ s. by_resized (Chunks s) s.session.contexts (none_so s) (c.chunk s) (held s.session) s.around.space name bytes };
        given = λ name. record { so = λ s. by_freed (Chunks s) s.session.contexts (none_so s) (c.chunk s) name };
        put = λ name place bytes. record { so = λ s. by_written (Chunks s) s.session.contexts (none_so s) (c.chunk s) name place bytes };
        reported = record { so = λ s. o.aside s s (same_all sees s) (said_report w.line w.total s.session.contexts) };
        released = released;
      }

      -- where it sees no level either
      pub level_leaves_of : ((event : What) → is_level_word event ≡ true → P event ≡ true) → ((owner : ℕ) (kind : KindId) (key : ℕ) → Keeps R (item_released owner kind key)) → sees of_levels ≡ false → StackLeaves R → LevelLeaves R
      level_leaves_of level released off stack = record {
        leaves = leaves_of released;
        levels = λ levels s. o.aside s _ (but_levels sees s off levels) said_none;
        level_word = λ event h. says event (level event h);
        popped = stack.popped;
        stack_gone = stack.stack_gone;
        stack_passed = stack.stack_passed;
      }

      pub end_leaves_of : ((event : What) → is_level_word event ≡ true → P event ≡ true) → OwnerLeaves R → ItemGoes R → LockLeaves R → FileLeaves R → KeyLeaves R → sees of_levels ≡ false → StackLeaves R → ((m : ℕ) → Keeps R (owner_gone m)) → ((m parent : ℕ) → Keeps R (owner_moved m parent)) → EndLeaves R
      end_leaves_of level n goes k f y off stack discarded moved = record {
        levels = level_leaves_of level (releases c.gone c.children f.closed y.closed goes) off stack;
        taken = taken_so n f y;
        phase = phase_so c.gone c.children f.closed y.closed n k;
        discarded = discarded;
        moved = moved;
      }
