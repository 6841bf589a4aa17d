-- The items that a phase releases, in order: by rising priority, and of one priority the newest first.
use Rattle.session_laws.proofs.Words.{◌≡◌, ℕ, ◌<◌, ◌≤◌, Bool, true, false, cond, nat_le, List, [], ◌∷◌, filter, All, refl, inl, inr, arith, not, ◌++◌, Option, Some, None, sym, subst, ap, ◌∙◌, if◌then◌else◌, ◌⊎◌, ◌==◌, ◌&&◌, ◌||◌, and_from, eq-eqb, lt-ltb, not_from_false, or_left, or_right, nat_tests, All-nil, All-cons, All-head, All-tail, All-filter, All-append, All-weaker, option_map, list_all-from_AllPass, append_assoc, append-nil, Empty, Node, AllNodes, has, same_item, option_map_or, cond-false, cond-true, both_ways, false_from_ne_true, ne_eqb, Forest, Once, at, children, parent_of, apart_of, first_child_other, has_at, has_children, children_in, once_children}
use Rattle.session_laws.proofs.Scenes.{Item, AreFalling, with_item, by_rank, is_of_phase, priority, release_order, What, Phase, BeforeLocks, Locks, AfterLocks, Mode, KindTable, row_of, Owner, OwnerTree, Step, ReleasesLocks, PassesLocks, ReleasesAllLocks, own_steps, releases_of, lock_step, steps_below, top_locks, Lock, IsInOrder, comes_before, lock_total, owner_count, Scene, Ended, behind, for_each, nothing, given_back, step_done, mode_number, table_of, own_released, release_steps, owner_released, phase_released}
use Rattle.session_laws.proofs.Rules.{allows_all, seen_after, allows_all-append, seen_after-append, AreSaid, said_more, said_none, AnItem, ALock, Member, Owned, Releasing, goes_before, is_warned, may_precede, member_of, ordering, owner_of, place_of, place_of_phase, is_above, all_swept, all_at, all_children}
use Rattle.session_laws.proofs.OwnerEnds.{Stays, given_quiet, step_stays, stays, stays_both}
use Rattle.session_laws.proofs.Warnings.{is_aside, same_itself}
use Rattle.session_laws.proofs.ParentsLife.{fits_alike}
use Rattle.session_laws.proofs.Parents.{FitsTree, same_above, alike_swept}
use Rattle.pgs_step.specs.declared.events.What.TheVariants as what
use Rattle.lifetime_laws.specs.Parents as replayed
use Rattle.lock_local.specs.Changes as locks

-- one goes before another: it has the lower rank, or the same and is newer
abbrev pub GoesBefore : (Item → ℕ) → Item → Item → Type 0
GoesBefore rank x y = (rank x < rank y) ⊎ ((rank x ≡ rank y) × (y.serial < x.serial))

-- each goes before those behind it
abbrev pub AreRanked : (Item → ℕ) → List Item → Type 0
AreRanked rank [] = Unit {0}
AreRanked rank (x ∷ xs) = All (GoesBefore rank x) xs × AreRanked rank xs

-- an item that is put among others is one of all
pub All-with_item : (P : Item → Type 0) (rank : Item → ℕ) (x : Item) (zs : List Item) → P x → All P zs → All P (with_item rank x zs)
All-with_item P rank x [] holds all = All-cons P x [] holds all
All-with_item P rank x (z ∷ zs) holds all =
    elim (nat_le (rank x) (rank z)) as (λ b. All P (cond b (x ∷ z ∷ zs) (z ∷ with_item rank x zs))) [
      | true ↦ All-cons P x (z ∷ zs) holds all
      | false ↦ All-cons P z (with_item rank x zs) (All-head P z zs all) (All-with_item P rank x zs holds (All-tail P z zs all))
    ]

pub All-by_rank : (P : Item → Type 0) (rank : Item → ℕ) (xs : List Item) → All P xs → All P (by_rank rank xs)
All-by_rank P rank [] all = all
All-by_rank P rank (x ∷ xs) all = All-with_item P rank x (by_rank rank xs) (All-head P x xs all) (All-by_rank P rank xs (All-tail P x xs all))

-- an item goes before all that are older, from the first on whose rank is no lower
front_goes : (rank : Item → ℕ) (x z : Item) (zs : List Item) → rank x ≤ rank z → All (GoesBefore rank z) zs → All (λ y. y.serial < x.serial) (z ∷ zs) → All (GoesBefore rank x) (z ∷ zs)
front_goes rank x z zs low ranked older = grind (arith, nat_tests, nat_tests)

ranked_with : (rank : Item → ℕ) (x : Item) (zs : List Item) → AreRanked rank zs → All (λ y. y.serial < x.serial) zs → AreRanked rank (with_item rank x zs)
ranked_with rank x [] h older = (All-nil (GoesBefore rank x), tt)
ranked_with rank x (z ∷ zs) h older = go (ranked_with rank x zs h.1 (All-tail (λ (y : Item). y.serial < x.serial) z zs older)) (nat_le (rank x) (rank z)) refl
  where
    go : AreRanked rank (with_item rank x zs) → (b : Bool) → nat_le (rank x) (rank z) ≡ b → AreRanked rank (cond b (x ∷ z ∷ zs) (z ∷ with_item rank x zs))
    go rest true e = (front_goes rank x z zs (grind (arith, nat_tests)) h.0 older, h)
    go rest false e = (All-with_item (GoesBefore rank z) rank x zs (inl (grind (arith, nat_tests))) h.0, rest)

ranked_by : (rank : Item → ℕ) (xs : List Item) → AreFalling xs → AreRanked rank (by_rank rank xs)
ranked_by rank [] h = tt
ranked_by rank (x ∷ xs) h = ranked_with rank x (by_rank rank xs) (ranked_by rank xs h.1) (All-by_rank (λ (y : Item). y.serial < x.serial) rank xs h.0)

pub falling_filter : (test : Item → Bool) (xs : List Item) → AreFalling xs → AreFalling (filter test xs)
falling_filter test [] h = tt
falling_filter test (x ∷ xs) h =
    elim (test x) as (λ b. AreFalling (cond b (x ∷ filter test xs) (filter test xs))) [
      | true ↦ (All-filter test (λ (y : Item). y.serial < x.serial) xs h.0, falling_filter test xs h.1)
      | false ↦ falling_filter test xs h.1
    ]

-- The items of a test that stand newest first, by their rank.
pub order_ranked : (test : Item → Bool) (rank : Item → ℕ) (xs : List Item) → AreFalling xs → AreRanked rank (by_rank rank (filter test xs))
order_ranked test rank xs h = ranked_by rank (filter test xs) (falling_filter test xs h)

-- each of them passes the test
passes_filter : (test : Item → Bool) (xs : List Item) → All (λ x. test x ≡ true) (filter test xs)
passes_filter test [] = All-nil (λ (x : Item). test x ≡ true)
passes_filter test (x ∷ xs) = grind (arith, nat_tests, passes_filter test xs)

pub order_passes : (test : Item → Bool) (rank : Item → ℕ) (xs : List Item) → All (λ x. test x ≡ true) (by_rank rank (filter test xs))
order_passes test rank xs = All-by_rank (λ (x : Item). test x ≡ true) rank (filter test xs) (passes_filter test xs)

-- What is read in a release that is going on: what it releases is in order, and all else is passed over.

-- a release that is going on, with what was released so far, the newest first, and the warning directly before
abbrev pub warned : Option Owned → List replayed.Node → Bool → List Member → Releasing
warned warning nodes aborts members = record { owners = nodes; batch = Some (record { aborts = aborts; members = members }); warning = warning }

abbrev pub in_batch : List replayed.Node → Bool → List Member → Releasing
in_batch nodes aborts members = warned None nodes aborts members

-- a member may come behind all these
abbrev pub MayFollow : List replayed.Node → List Member → Member → Type 0
MayFollow nodes members member = All (λ earlier. may_precede nodes earlier member ≡ true) members

-- the numbers stand for owners of which the first isn't the second, nor above it
pub record AreApart (nodes : List replayed.Node) (a b : ℕ) : Type 0 where
  pub below : is_above a b nodes ≡ false
  pub other : (a == b) ≡ false

-- which member may come before which

pub same_phase : (nodes : List replayed.Node) (a b : Member) → place_of a ≡ place_of b → is_above (owner_of a) (owner_of b) nodes ≡ false → ((owner_of a == owner_of b) ≡ false) ⊎ (goes_before a b ≡ true)
    → may_precede nodes a b ≡ true
same_phase nodes a b same out goes = grind (arith, nat_tests, or_right, and_from, eq-eqb, not_from_false, or_left)

module _ (kinds : KindTable) (nodes : List replayed.Node) (aborts : Bool) where
  -- The events are in order behind what was released so far, and leave that and what they release.
  pub record Adds (old new : List Member) (events : List What) : Type 0 where
    pub allowed : allows_all (ordering kinds) (in_batch nodes aborts old) events ≡ true
    pub behind : seen_after (ordering kinds) (in_batch nodes aborts old) events ≡ in_batch nodes aborts new

  pub adds_none : (members : List Member) → Adds members members []
  adds_none members = record { allowed = refl; behind = refl }

  pub adds_both : {old mid new : List Member} {xs ys : List What} → Adds old mid xs → Adds mid new ys → Adds old new (xs ++ ys)
  adds_both {old = old} {mid = mid} {new = new} {xs = xs} {ys = ys} a b = grind (arith, nat_tests, allows_all-append, seen_after-append)

  -- what is said besides is passed over
  aside_adds : (members : List Member) (event : What) → is_aside event ≡ true → Adds members members (event ∷ [])
  aside_adds members event h = grind (arith, nat_tests)

  pub adds_aside : (members : List Member) {events : List What} → AreSaid is_aside events → Adds members members events
  adds_aside members said_none = adds_none members
  adds_aside members (said_more {event = event} {events = events} h hs) = adds_both (aside_adds members event h) (adds_aside members hs)

  -- a lock that is released or passed
  pub adds_release_lock : (members : List Member) (object : ℕ) (mode : Mode) (count owner : ℕ) → MayFollow nodes members (ALock object (mode_number mode) owner)
      → Adds members (ALock object (mode_number mode) owner ∷ members) (what.ReleaseLock object mode count owner ∷ [])
  adds_release_lock members object mode count owner may = grind (arith, nat_tests, and_from, list_all-from_AllPass)

  pub adds_pass_lock : (members : List Member) (object : ℕ) (mode : Mode) (count from to : ℕ) → MayFollow nodes members (ALock object (mode_number mode) from)
      → Adds members (ALock object (mode_number mode) from ∷ members) (what.PassLock object mode count from to ∷ [])
  adds_pass_lock members object mode count from to may = grind (arith, nat_tests, and_from, list_all-from_AllPass)

  -- an item that is released, where it counts
  release_counts : (warning : Option Owned) (members : List Member) (item : Item) (n : ℕ) (member : Member)
      → member_of kinds (aborts || is_warned warning (what.Release item n)) (what.Release item n) ≡ Some member → MayFollow nodes members member
      → (allows_all (ordering kinds) (warned warning nodes aborts members) (what.Release item n ∷ []) ≡ true)
      × (seen_after (ordering kinds) (warned warning nodes aborts members) (what.Release item n ∷ []) ≡ in_batch nodes aborts (member ∷ members))
  release_counts warning members item n member is may = grind (arith, nat_tests, and_from, list_all-from_AllPass)

-- the member that an item is, where its phase releases it
abbrev pub item_member : KindTable → Phase → ℕ → Item → Member
item_member kinds phase n item = AnItem phase (priority kinds item) item.serial n

pub member_is : (kinds : KindTable) (phase : Phase) (n : ℕ) (item : Item) → is_of_phase kinds phase item ≡ true
    → option_map (λ row. AnItem row.phase row.priority item.serial n) (row_of kinds item.kind) ≡ Some (item_member kinds phase n item)
member_is kinds phase n item h = grind (arith, nat_tests)

module _ (kinds : KindTable) (nodes : List replayed.Node) (phase : Phase) (n : ℕ) where
  -- at abort a release counts as it stands
  pub adds_release : (members : List Member) (item : Item) → is_of_phase kinds phase item ≡ true → MayFollow nodes members (item_member kinds phase n item)
      → Adds kinds nodes true members (item_member kinds phase n item ∷ members) (what.Release item n ∷ [])
  adds_release members item h may =
      let all = release_counts kinds nodes true None members item n (item_member kinds phase n item) (member_is kinds phase n item h) may in
      record { allowed = all.0; behind = all.1 }

  -- at commit with its warning directly before it
  pub adds_warned : (members : List Member) (item : Item) → is_of_phase kinds phase item ≡ true → MayFollow nodes members (item_member kinds phase n item)
      → Adds kinds nodes false members (item_member kinds phase n item ∷ members) (what.NotClosed item n ∷ what.Release item n ∷ [])
  adds_warned members item h may =
      let same : (same_item item item && (n == n)) ≡ true = and_from (same_item item item) (n == n) (same_itself item) (eq-eqb n n refl) in
      let is : member_of kinds (same_item item item && (n == n)) (what.Release item n) ≡ Some (item_member kinds phase n item) = grind (arith, nat_tests, member_is) in
      let all = release_counts kinds nodes false (Some (record { item = item; owner = n })) members item n (item_member kinds phase n item) is may in
      record { allowed = all.0; behind = all.1 }

-- The steps of a release, one owner: its items in the order of the phase, or its locks.

module _ (kinds : KindTable) (nodes : List replayed.Node) (aborts : Bool) where
  -- Events that release what passes a test, in order behind what was released so far; and an act that says such events.
  pub record Grows (P : Member → Type 0) (old : List Member) (events : List What) : Type 0 where
    pub new : List Member
    pub adds : Adds kinds nodes aborts old (new ++ old) events
    pub are : All P new

  pub record Releases (P : Member → Type 0) (old : List Member) (s : Scene) (ended : Ended) : Type 0 where
    pub grows : Grows P old ended.events
    pub stays : Stays s ended.scene

  pub grows_none : (P : Member → Type 0) (old : List Member) → Grows P old []
  grows_none P old = record { new = []; adds = adds_none kinds nodes aborts old; are = All-nil P }

  pub grows_both : {P : Member → Type 0} {old : List Member} {xs ys : List What} → (a : Grows P old xs) → Grows P (a.new ++ old) ys → Grows P old (xs ++ ys)
  grows_both {P = P} {old = old} {xs = xs} {ys = ys} a b = record {
    new = b.new ++ a.new;
    adds = subst (λ (members : List Member). Adds kinds nodes aborts old members (xs ++ ys)) (sym (append_assoc b.new a.new old)) (adds_both kinds nodes aborts a.adds b.adds);
    are = All-append P b.new a.new b.are a.are;
  }

  abbrev pub grows_weaker : {P Q : Member → Type 0} {old : List Member} {events : List What} → ((m : Member) → P m → Q m) → Grows P old events → Grows Q old events
  grows_weaker {P = P} {Q = Q} f a = record { new = a.new; adds = a.adds; are = All-weaker P Q f a.new a.are }

  abbrev pub grows_one : {P : Member → Type 0} {old : List Member} {events : List What} (m : Member) → P m → Adds kinds nodes aborts old (m ∷ old) events → Grows P old events
  grows_one {P = P} m is h = record { new = m ∷ []; adds = h; are = All-cons P m [] is (All-nil P) }

  pub releases_none : (P : Member → Type 0) (old : List Member) (s : Scene) → Releases P old s (nothing s)
  releases_none P old s = record { grows = grows_none P old; stays = stays s }

  pub releases_both : {P : Member → Type 0} {old : List Member} {s : Scene} {first next : Ended} → (a : Releases P old s first) → Releases P (a.grows.new ++ old) first.scene next → Releases P old s (behind first.events next)
  releases_both {s = s} {first = first} {next = next} a b = record { grows = grows_both a.grows b.grows; stays = stays_both a.stays b.stays }

  abbrev pub releases_weaker : {P Q : Member → Type 0} {old : List Member} {s : Scene} {ended : Ended} → ((m : Member) → P m → Q m) → Releases P old s ended → Releases Q old s ended
  releases_weaker f a = record { grows = grows_weaker f a.grows; stays = a.stays }

-- what an owner releases in a phase of this place
abbrev pub IsOwn : ℕ → ℕ → Member → Type 0
IsOwn place n m = (place_of m ≡ place) × (owner_of m ≡ n)

-- whatever an owner may release in a phase of this place may come behind these
abbrev pub MayRelease : List replayed.Node → ℕ → ℕ → List Member → Type 0
MayRelease nodes place n old = (m : Member) → IsOwn place n m → MayFollow nodes old m

all_of : {A : Type 0} (P : A → Type 0) → ((x : A) → P x) → (xs : List A) → All P xs
all_of P f [] = All-nil P
all_of P f (x ∷ xs) = All-cons P x xs (f x) (all_of P f xs)

-- a member more may come before these, where it may come before each of them
one_more : {A : Type 0} (nodes : List replayed.Node) (member : A → Member) (old : List Member) (m : Member) (xs : List A) → All (λ x. may_precede nodes m (member x) ≡ true) xs → All (λ x. MayFollow nodes old (member x)) xs
    → All (λ x. MayFollow nodes (m ∷ old) (member x)) xs
one_more nodes member old m [] h k = All-nil (λ x. MayFollow nodes (m ∷ old) (member x))
one_more nodes member old m (x ∷ xs) h k = grind (arith, nat_tests, one_more nodes member old m xs)

module _ (kinds : KindTable) (nodes : List replayed.Node) (phase : Phase) (n : ℕ) (out : is_above n n nodes ≡ false) where
  item_goes : (x y : Item) → GoesBefore (priority kinds) x y → may_precede nodes (item_member kinds phase n x) (item_member kinds phase n y) ≡ true
  item_goes x y h = grind (arith, nat_tests, same_phase, or_left, lt-ltb, or_right, and_from, eq-eqb)

  -- an item of a phase
  one_item : (commit : Bool) (item : Item) (s : Scene) (old : List Member) → is_of_phase kinds phase item ≡ true → MayFollow nodes old (item_member kinds phase n item)
      → Adds kinds nodes (not commit) old (item_member kinds phase n item ∷ old) (for_each step_done (releases_of commit n (item ∷ [])) s).events
  one_item true item s old passes may =
      let aside : Adds kinds nodes false (item_member kinds phase n item ∷ old) (item_member kinds phase n item ∷ old) (given_back item s).events =
      adds_aside kinds nodes false (item_member kinds phase n item ∷ old) ((given_quiet item).so s).said in
      adds_both kinds nodes false (adds_warned kinds nodes phase n old item passes may) (subst (Adds kinds nodes false (item_member kinds phase n item ∷ old) (item_member kinds phase n item ∷ old)) (sym (append-nil _)) aside)
  one_item false item s old passes may =
      let aside : Adds kinds nodes true (item_member kinds phase n item ∷ old) (item_member kinds phase n item ∷ old) (given_back item s).events =
      adds_aside kinds nodes true (item_member kinds phase n item ∷ old) ((given_quiet item).so s).said in
      adds_both kinds nodes true (adds_release kinds nodes phase n old item passes may) (subst (Adds kinds nodes true (item_member kinds phase n item ∷ old) (item_member kinds phase n item ∷ old)) (sym (append-nil _)) aside)

  one_stays : (commit : Bool) (item : Item) (s : Scene) → Stays s (for_each step_done (releases_of commit n (item ∷ [])) s).scene
  one_stays commit item s = grind (arith, nat_tests, given_quiet item, stays)

-- one act for each of a list and then of another
pub each_both : {A : Type 0} (act : A → Scene → Ended) (xs ys : List A) (s : Scene) → for_each act (xs ++ ys) s ≡ behind (for_each act xs s).events (for_each act ys (for_each act xs s).scene)
each_both act [] ys s = refl
each_both act (x ∷ xs) ys s = search (each_both act xs ys, append_assoc)

releases_more : (commit : Bool) (n : ℕ) (item : Item) (items : List Item) → releases_of commit n (item ∷ items) ≡ releases_of commit n (item ∷ []) ++ releases_of commit n items
releases_more commit n item items = grind (arith, nat_tests)

module _ (kinds : KindTable) (nodes : List replayed.Node) (phase : Phase) (n : ℕ) (out : is_above n n nodes ≡ false) (commit : Bool) where
  -- the items of a phase, in its order
  items_release : (items : List Item) (s : Scene) (old : List Member) → AreRanked (priority kinds) items → All (λ item. is_of_phase kinds phase item ≡ true) items
      → All (λ item. MayFollow nodes old (item_member kinds phase n item)) items
      → Releases kinds nodes (not commit) (IsOwn (place_of_phase phase) n) old s (for_each step_done (releases_of commit n items) s)
  items_release [] s old ranked passes may = releases_none kinds nodes (not commit) (IsOwn (place_of_phase phase) n) old s
  items_release (item ∷ items) s old ranked passes may =
      let m : Member = item_member kinds phase n item in
      let mid : Scene = (for_each step_done (releases_of commit n (item ∷ [])) s).scene in
      let first : Releases kinds nodes (not commit) (IsOwn (place_of_phase phase) n) old s (for_each step_done (releases_of commit n (item ∷ [])) s) = record {
        grows = grows_one kinds nodes (not commit) m (refl, refl)
            (one_item kinds nodes phase n out commit item s old (All-head (λ (i : Item). is_of_phase kinds phase i ≡ true) item items passes) (All-head (λ (i : Item). MayFollow nodes old (item_member kinds phase n i)) item items may));
        stays = one_stays kinds nodes phase n out commit item s;
      } in
      let follow : All (λ (i : Item). MayFollow nodes (m ∷ old) (item_member kinds phase n i)) items =
      one_more nodes (item_member kinds phase n) old m items
      (All-weaker (GoesBefore (priority kinds) item) (λ (i : Item). may_precede nodes m (item_member kinds phase n i) ≡ true) (item_goes kinds nodes phase n out item) items ranked.0)
      (All-tail (λ (i : Item). MayFollow nodes old (item_member kinds phase n i)) item items may) in
      let rest : Releases kinds nodes (not commit) (IsOwn (place_of_phase phase) n) (m ∷ old) mid (for_each step_done (releases_of commit n items) mid) =
      items_release items mid (m ∷ old) ranked.1 (All-tail (λ (i : Item). is_of_phase kinds phase i ≡ true) item items passes) follow in
      grind (arith, nat_tests, releases_more commit n item items, each_both, releases_both kinds nodes (not commit) first rest)

  pub ordered_release : (items : List Item) (s : Scene) (old : List Member) → AreFalling items → MayRelease nodes (place_of_phase phase) n old
      → Releases kinds nodes (not commit) (IsOwn (place_of_phase phase) n) old s (for_each step_done (releases_of commit n (release_order kinds phase items)) s)
  ordered_release items s old falling may = search (items_release, order_ranked, order_passes, all_of)

-- The events of some of these locks, in their order.
data Told (tell : Lock → What) : List Lock → List What → Type 0 where
  told_none : Told tell [] []
  told_over : {lock : Lock} {all : List Lock} {events : List What} → Told tell all events → Told tell (lock ∷ all) events
  told_more : {lock : Lock} {all : List Lock} {events : List What} → Told tell all events → Told tell (lock ∷ all) (tell lock ∷ events)

told_either : {tell : Lock → What} (b : Bool) (lock : Lock) {all : List Lock} {events : List What} → Told tell all events → Told tell (lock ∷ all) ((if b then [] else tell lock ∷ []) ++ events)
told_either true lock h = told_over h
told_either false lock h = told_more h

told_releases : (n : ℕ) (all : List Lock) → Told (λ lock. what.ReleaseLock lock.object lock.mode (owner_count n lock) n) all (locks.releases n all)
told_releases n [] = told_none
told_releases n (lock ∷ all) = told_either (owner_count n lock == 0) lock (told_releases n all)

told_passes : (n to : ℕ) (all : List Lock) → Told (λ lock. what.PassLock lock.object lock.mode (owner_count n lock) n to) all (locks.passes n to all)
told_passes n to [] = told_none
told_passes n to (lock ∷ all) = told_either (owner_count n lock == 0) lock (told_passes n to all)

told_all : (n : ℕ) (all : List Lock) → Told (locks.release_whole n) all (locks.releases_of_all n all)
told_all n [] = told_none
told_all n (lock ∷ all) = told_more (told_all n all)

abbrev pub lock_member : ℕ → Lock → Member
lock_member n lock = ALock lock.object (mode_number lock.mode) n

module _ (kinds : KindTable) (nodes : List replayed.Node) (aborts : Bool) (n : ℕ) (out : is_above n n nodes ≡ false) where
  lock_goes : (x y : Lock) → comes_before x.object x.mode y.object y.mode ≡ true → may_precede nodes (lock_member n x) (lock_member n y) ≡ true
  lock_goes x y h = same_phase nodes (lock_member n x) (lock_member n y) refl out (inr h)

  -- locks that are told of in their order
  told_grows : (tell : Lock → What) → ((old : List Member) (lock : Lock) → MayFollow nodes old (lock_member n lock) → Adds kinds nodes aborts old (lock_member n lock ∷ old) (tell lock ∷ []))
      → {all : List Lock} {events : List What} → Told tell all events → (old : List Member) → IsInOrder all → All (λ lock. MayFollow nodes old (lock_member n lock)) all
      → Grows kinds nodes aborts (IsOwn 2 n) old events
  told_grows tell one told_none old order may = grows_none kinds nodes aborts (IsOwn 2 n) old
  told_grows tell one (told_over {lock = lock} {all = all} h) old order may = told_grows tell one h old order.1 (All-tail (λ (l : Lock). MayFollow nodes old (lock_member n l)) lock all may)
  told_grows tell one (told_more {lock = lock} {all = all} {events = events} h) old order may =
      let first : Grows kinds nodes aborts (IsOwn 2 n) old (tell lock ∷ []) =
      grows_one kinds nodes aborts (lock_member n lock) (refl, refl) (one old lock (All-head (λ (l : Lock). MayFollow nodes old (lock_member n l)) lock all may)) in
      let follow : All (λ (l : Lock). MayFollow nodes (lock_member n lock ∷ old) (lock_member n l)) all =
      one_more nodes (lock_member n) old (lock_member n lock) all
      (All-weaker (λ (l : Lock). comes_before lock.object lock.mode l.object l.mode ≡ true) (λ (l : Lock). may_precede nodes (lock_member n lock) (lock_member n l) ≡ true) (lock_goes lock) all order.0)
      (All-tail (λ (l : Lock). MayFollow nodes old (lock_member n l)) lock all may) in
      grows_both kinds nodes aborts first (told_grows tell one h (lock_member n lock ∷ old) order.1 follow)

  may_all : (old : List Member) (all : List Lock) → MayRelease nodes 2 n old → All (λ lock. MayFollow nodes old (lock_member n lock)) all
  may_all old all may = all_of (λ (l : Lock). MayFollow nodes old (lock_member n l)) (λ l. may (lock_member n l) (refl, refl)) all

-- what happens to the locks of an owner
pub data AreLockSteps (n : ℕ) : List Step → Type 0 where
  locks_stay : AreLockSteps n []
  locks_go : AreLockSteps n (ReleasesLocks n ∷ [])
  locks_pass : (to : ℕ) → AreLockSteps n (PassesLocks n to ∷ [])
  all_go : AreLockSteps n (ReleasesAllLocks n ∷ [])

module _ (kinds : KindTable) (nodes : List replayed.Node) (commit : Bool) (n : ℕ) (out : is_above n n nodes ≡ false) where
  -- the locks of an owner, in their order
  pub locks_release : {steps : List Step} → AreLockSteps n steps → (s : Scene) (old : List Member) → IsInOrder s.session.locks → MayRelease nodes 2 n old
      → Releases kinds nodes (not commit) (IsOwn 2 n) old s (for_each step_done steps s)
  locks_release locks_stay s old order may = releases_none kinds nodes (not commit) (IsOwn 2 n) old s
  locks_release locks_go s old order may = record {
    grows = subst (Grows kinds nodes (not commit) (IsOwn 2 n) old) (sym (append-nil (locks.releases n s.session.locks)))
        (told_grows kinds nodes (not commit) n out (λ lock. what.ReleaseLock lock.object lock.mode (owner_count n lock) n) (λ members lock h. adds_release_lock kinds nodes (not commit) members lock.object lock.mode (owner_count n lock) n h)
        (told_releases n s.session.locks) old order (may_all kinds nodes (not commit) n out old s.session.locks may));
    stays = step_stays (ReleasesLocks n) s;
  }
  locks_release (locks_pass to) s old order may = record {
    grows = subst (Grows kinds nodes (not commit) (IsOwn 2 n) old) (sym (append-nil (locks.passes n to s.session.locks)))
        (told_grows kinds nodes (not commit) n out (λ lock. what.PassLock lock.object lock.mode (owner_count n lock) n to) (λ members lock h. adds_pass_lock kinds nodes (not commit) members lock.object lock.mode (owner_count n lock) n to h)
        (told_passes n to s.session.locks) old order (may_all kinds nodes (not commit) n out old s.session.locks may));
    stays = step_stays (PassesLocks n to) s;
  }
  locks_release all_go s old order may = record {
    grows = subst (Grows kinds nodes (not commit) (IsOwn 2 n) old) (sym (append-nil (locks.releases_of_all n s.session.locks)))
        (told_grows kinds nodes (not commit) n out (locks.release_whole n) (λ members lock h. adds_release_lock kinds nodes (not commit) members lock.object lock.mode (lock_total lock) n h)
        (told_all n s.session.locks) old order (may_all kinds nodes (not commit) n out old s.session.locks may));
    stays = step_stays (ReleasesAllLocks n) s;
  }

  -- what an owner does by itself in a phase
  pub own_release : (phase : Phase) (owner : Owner) {steps : List Step} → AreLockSteps n steps → (s : Scene) (old : List Member) → AreFalling owner.items → IsInOrder s.session.locks
      → MayRelease nodes (place_of_phase phase) n old → Releases kinds nodes (not commit) (IsOwn (place_of_phase phase) n) old s (for_each step_done (own_steps kinds phase commit n owner steps) s)
  own_release Locks owner h s old falling order may = locks_release h s old order may
  own_release BeforeLocks owner h s old falling order may = ordered_release kinds nodes BeforeLocks n out commit owner.items s old falling may
  own_release AfterLocks owner h s old falling order may = ordered_release kinds nodes AfterLocks n out commit owner.items s old falling may

-- A phase of a release: each owner behind all below it.

-- A member is of an earlier phase, or of this one and its owner isn't one of these, nor above one.
abbrev pub IsClear : List replayed.Node → ℕ → (ℕ → Type 0) → Member → Type 0
IsClear nodes place In m = (place_of m < place) ⊎ ((place_of m ≡ place) × ((w : ℕ) → In w → AreApart nodes (owner_of m) w))

abbrev pub AreClear : List replayed.Node → ℕ → (ℕ → Type 0) → List Member → Type 0
AreClear nodes place In members = All (IsClear nodes place In) members

pub clear_weaker : (nodes : List replayed.Node) (place : ℕ) (In Out : ℕ → Type 0) (members : List Member) → ((w : ℕ) → Out w → In w) → AreClear nodes place In members → AreClear nodes place Out members
clear_weaker nodes place In Out members f h = grind (arith, nat_tests)

pub may_release : (nodes : List replayed.Node) (place n : ℕ) (members : List Member) → AreClear nodes place (λ w. w ≡ n) members → MayRelease nodes place n members
may_release nodes place n members h = grind (arith, nat_tests, same_phase)

-- Of a node, what is below it and what stands behind it: no owner is above one that is released later.
pub record Splits (nodes : List replayed.Node) (n : ℕ) (below beside : OwnerTree) : Type 0 where
  pub self : is_above n n nodes ≡ false
  pub up : (x : ℕ) → has x below ≡ true → AreApart nodes x n
  pub own : (w : ℕ) → has w beside ≡ true → AreApart nodes n w
  pub across : (x w : ℕ) → has x below ≡ true → has w beside ≡ true → AreApart nodes x w

abbrev pub AreWalked : List replayed.Node → OwnerTree → Type 0
AreWalked nodes Empty = Unit {0}
AreWalked nodes (Node n owner below beside) = Splits nodes n below beside × AreWalked nodes below × AreWalked nodes beside

-- the items of an owner stand newest first
abbrev pub Falls : Owner → Type 0
Falls owner = AreFalling owner.items

-- what is released of a forest in a phase of this place
abbrev pub IsOf : ℕ → OwnerTree → Member → Type 0
IsOf place t m = (place_of m ≡ place) × (has (owner_of m) t ≡ true)

below_locks : (commit top : Bool) (n parent : ℕ) → AreLockSteps n (if top then [] else lock_step commit n parent ∷ [])
below_locks commit true n parent = locks_stay
below_locks true false n parent = locks_pass parent
below_locks false false n parent = locks_go

pub owner_locks : (top commit : Bool) (n : ℕ) (parent : Option ℕ) → AreLockSteps n (top_locks top commit n parent)
owner_locks true commit n parent = all_go
owner_locks false commit n None = locks_stay
owner_locks false true n (Some parent) = locks_pass parent
owner_locks false false n (Some parent) = locks_go

module _ (kinds : KindTable) (nodes : List replayed.Node) (phase : Phase) (commit top : Bool) where
  -- a node behind all below it, and then what stands behind it
  node_clear : (n : ℕ) (owner : Owner) (below beside : OwnerTree) (new old : List Member) → Splits nodes n below beside → All (IsOf (place_of_phase phase) below) new
      → AreClear nodes (place_of_phase phase) (λ w. has w (Node n owner below beside) ≡ true) old → AreClear nodes (place_of_phase phase) (λ w. w ≡ n) (new ++ old)
  node_clear n owner below beside new old s are clear =
      let p : ℕ = place_of_phase phase in
      All-append (IsClear nodes p (λ w. w ≡ n)) new old
      (All-weaker (IsOf p below) (IsClear nodes p (λ w. w ≡ n)) (λ m o. inr (o.0, λ w is. subst (AreApart nodes (owner_of m)) (sym is) (s.up (owner_of m) o.1))) new are)
      (clear_weaker nodes p (λ w. has w (Node n owner below beside) ≡ true) (λ w. w ≡ n) old (λ w is. or_left (n == w) (has w below || has w beside) (eq-eqb n w (sym is))) clear)

  beside_clear : (n : ℕ) (owner : Owner) (below beside : OwnerTree) (own new old : List Member) → Splits nodes n below beside → All (IsOwn (place_of_phase phase) n) own → All (IsOf (place_of_phase phase) below) new
      → AreClear nodes (place_of_phase phase) (λ w. has w (Node n owner below beside) ≡ true) old → AreClear nodes (place_of_phase phase) (λ w. has w beside ≡ true) (own ++ (new ++ old))
  beside_clear n owner below beside own new old s mine are clear =
      let p : ℕ = place_of_phase phase in
      All-append (IsClear nodes p (λ w. has w beside ≡ true)) own (new ++ old)
      (All-weaker (IsOwn p n) (IsClear nodes p (λ w. has w beside ≡ true)) (λ m o. inr (o.0, λ w is. subst (λ (x : ℕ). AreApart nodes x w) (sym o.1) (s.own w is))) own mine)
      (All-append (IsClear nodes p (λ w. has w beside ≡ true)) new old
      (All-weaker (IsOf p below) (IsClear nodes p (λ w. has w beside ≡ true)) (λ m o. inr (o.0, λ w is. s.across (owner_of m) w o.1 is)) new are)
      (clear_weaker nodes p (λ w. has w (Node n owner below beside) ≡ true) (λ w. has w beside ≡ true) old (λ w is. or_right (n == w) (has w below || has w beside) (or_right (has w below) (has w beside) is)) clear))

  pub below_release : (parent : ℕ) (t : OwnerTree) (s : Scene) (old : List Member) → AreWalked nodes t → AllNodes Falls t → AreClear nodes (place_of_phase phase) (λ w. has w t ≡ true) old → IsInOrder s.session.locks
      → Releases kinds nodes (not commit) (IsOf (place_of_phase phase) t) old s (for_each step_done (steps_below kinds phase commit top parent t) s)
  below_release parent Empty s old walked falls clear order = releases_none kinds nodes (not commit) (IsOf (place_of_phase phase) Empty) old s
  below_release parent (Node n owner below beside) s old walked falls clear order =
      let p : ℕ = place_of_phase phase in
      let whole : OwnerTree = Node n owner below beside in
      let xs : List Step = steps_below kinds phase commit top n below in
      let ys : List Step = own_steps kinds phase commit n owner (if top then [] else lock_step commit n parent ∷ []) in
      let zs : List Step = steps_below kinds phase commit top parent beside in
      let mid : Scene = (for_each step_done xs s).scene in
      let end : Scene = (for_each step_done ys mid).scene in
      let a : Releases kinds nodes (not commit) (IsOf p below) old s (for_each step_done xs s) =
      below_release n below s old walked.1 falls.1
      (clear_weaker nodes p (λ w. has w whole ≡ true) (λ w. has w below ≡ true) old (λ w is. or_right (n == w) (has w below || has w beside) (or_left (has w below) (has w beside) is)) clear) order in
      let b : Releases kinds nodes (not commit) (IsOwn p n) (a.grows.new ++ old) mid (for_each step_done ys mid) =
      own_release kinds nodes commit n walked.0.self phase owner (below_locks commit top n parent) mid (a.grows.new ++ old) falls.0 (a.stays.locks order)
      (may_release nodes p n (a.grows.new ++ old) (node_clear n owner below beside a.grows.new old walked.0 a.grows.are clear)) in
      let c : Releases kinds nodes (not commit) (IsOf p beside) (b.grows.new ++ (a.grows.new ++ old)) end (for_each step_done zs end) =
      below_release parent beside end (b.grows.new ++ (a.grows.new ++ old)) walked.2 falls.2 (beside_clear n owner below beside b.grows.new a.grows.new old walked.0 b.grows.are a.grows.are clear)
      (b.stays.locks (a.stays.locks order)) in
      subst (λ (e : Ended). Releases kinds nodes (not commit) (IsOf p whole) old s e)
      (sym (each_both step_done xs (ys ++ zs) s ∙ ap (λ (e : Ended). behind (for_each step_done xs s).events e) (each_both step_done ys zs mid)))
      (releases_both kinds nodes (not commit)
      (releases_weaker kinds nodes (not commit) {Q = IsOf p whole} (λ m o. (o.0, or_right (n == owner_of m) (has (owner_of m) below || has (owner_of m) beside) (or_left (has (owner_of m) below) (has (owner_of m) beside) o.1))) a)
      (releases_both kinds nodes (not commit)
      (releases_weaker kinds nodes (not commit) {Q = IsOf p whole} (λ m o. (o.0, or_left (n == owner_of m) (has (owner_of m) below || has (owner_of m) beside) (eq-eqb n (owner_of m) (sym o.1)))) b)
      (releases_weaker kinds nodes (not commit) {Q = IsOf p whole} (λ m o. (o.0, or_right (n == owner_of m) (has (owner_of m) below || has (owner_of m) beside) (or_right (has (owner_of m) below) (has (owner_of m) beside) o.1))) c)))

-- The three phases of a release, of an owner and all below it.

-- a number of a part of a tree has its children there
record IsInside {A : Type 0} (x : ℕ) (part whole : Forest A) : Type 0 where
  there : has x whole ≡ true
  same : children x whole ≡ children x part

module _ {A : Type 0} (nodes : List replayed.Node) (whole : Forest A) (fit : FitsTree nodes whole) where
  -- what is below a number in the replay is below it in the tree
  above_is : (a n : ℕ) (part : Forest A) → IsInside a part whole → has n whole ≡ true → is_above a n nodes ≡ has n (children a part)
  above_is a n part inside there = same_above a n nodes whole fit there ∙ ap (has n) inside.same

  -- one that isn't there is not below it
  not_above : (a n : ℕ) (part : Forest A) → Once part → IsInside a part whole → has n whole ≡ true → (has n part ≡ true → ⊥) → is_above a n nodes ≡ false
  not_above a n part once inside there away = above_is a n part inside there ∙ false_from_ne_true (has n (children a part)) (λ h. away (has_children n a part once h))

module _ (nodes : List replayed.Node) (whole : OwnerTree) (fit : FitsTree nodes whole) where
  walked_of : (part : OwnerTree) → Once part → ((x : ℕ) → has x part ≡ true → IsInside x part whole) → AreWalked nodes part
  walked_of Empty once inside = tt
  walked_of (Node k a below beside) once inside = grind (arith, nat_tests, walked_of below, walked_of beside, apart_of, eq-eqb, cond-true, above_is, not_above, both_ways, ne_eqb, or_right, or_left, cond-false)

  inside_children : (n x : ℕ) → has x (children n whole) ≡ true → IsInside x (children n whole) whole
  inside_children n x h = record { there = has_children x n whole fit.once h; same = sym (children_in x n whole fit.once h) }

  -- what is below an owner that is released, and that owner
  pub walked_children : (n : ℕ) → AreWalked nodes (children n whole)
  walked_children n = walked_of (children n whole) (once_children n whole fit.once) (inside_children n)

  pub below_top : (n x : ℕ) → has n whole ≡ true → has x (children n whole) ≡ true → AreApart nodes x n
  below_top n x there h = grind (arith, nat_tests, not_above, once_children n whole fit.once, inside_children n x h, both_ways, first_child_other n whole fit.once there, ne_eqb)

  pub top_self : (n : ℕ) → has n whole ≡ true → is_above n n nodes ≡ false
  top_self n there = same_above n n nodes whole fit there ∙ first_child_other n whole fit.once there

-- a member of a phase of this place
abbrev pub IsAt : ℕ → Member → Type 0
IsAt place m = place_of m ≡ place

module _ (kinds : KindTable) (nodes : List replayed.Node) (phase : Phase) (commit top : Bool) (n : ℕ) where
  -- the steps of a phase, behind earlier ones
  steps_release : (owners : OwnerTree) (s : Scene) (old : List Member) → FitsTree nodes owners → AllNodes Falls owners → IsInOrder s.session.locks → All (λ m. place_of m < place_of_phase phase) old
      → Releases kinds nodes (not commit) (IsAt (place_of_phase phase)) old s (for_each step_done (release_steps kinds phase commit top n owners) s)
  steps_release owners s old fit falls order early = go (at n owners) refl
    where
      p : ℕ
      p = place_of_phase phase

      clear : (In : ℕ → Type 0) → AreClear nodes p In old
      clear In = All-weaker (λ m. place_of m < p) (IsClear nodes p In) (λ m l. inl l) old early

      from : (owner : Owner) → at n owners ≡ Some owner
          → Releases kinds nodes (not commit) (IsAt p) old s (for_each step_done (steps_below kinds phase commit top n (children n owners) ++ own_steps kinds phase commit n owner (top_locks top commit n (parent_of n owners))) s)
      from owner is =
          let xs : List Step = steps_below kinds phase commit top n (children n owners) in
          let ys : List Step = own_steps kinds phase commit n owner (top_locks top commit n (parent_of n owners)) in
          let there : has n owners ≡ true = has_at n owners owner is in
          let mid : Scene = (for_each step_done xs s).scene in
          let a : Releases kinds nodes (not commit) (IsOf p (children n owners)) old s (for_each step_done xs s) =
          below_release kinds nodes phase commit top n (children n owners) s old (walked_children nodes owners fit n) (all_children Falls n owners falls) (clear (λ w. has w (children n owners) ≡ true)) order in
          let b : Releases kinds nodes (not commit) (IsOwn p n) (a.grows.new ++ old) mid (for_each step_done ys mid) =
          own_release kinds nodes commit n (top_self nodes owners fit n there) phase owner (owner_locks top commit n (parent_of n owners)) mid (a.grows.new ++ old) (all_at Falls n owners owner falls is) (a.stays.locks order)
          (may_release nodes p n (a.grows.new ++ old)
          (All-append (IsClear nodes p (λ w. w ≡ n)) a.grows.new old
          (All-weaker (IsOf p (children n owners)) (IsClear nodes p (λ w. w ≡ n)) (λ m o. inr (o.0, λ w e. subst (AreApart nodes (owner_of m)) (sym e) (below_top nodes owners fit n (owner_of m) there o.1))) a.grows.new a.grows.are)
          (clear (λ w. w ≡ n)))) in
          subst (λ (e : Ended). Releases kinds nodes (not commit) (IsAt p) old s e) (sym (each_both step_done xs ys s))
          (releases_both kinds nodes (not commit) (releases_weaker kinds nodes (not commit) {Q = IsAt p} (λ m o. o.0) a) (releases_weaker kinds nodes (not commit) {Q = IsAt p} (λ m o. o.0) b))

      go : (o : Option Owner) → at n owners ≡ o
          → Releases kinds nodes (not commit) (IsAt p) old s (for_each step_done (option_map_or (λ owner. steps_below kinds phase commit top n (children n owners) ++ own_steps kinds phase commit n owner (top_locks top commit n (parent_of n owners))) o []) s)
      go o is = grind (arith, nat_tests, releases_none, p, from)

-- A phase said in order, and what it leaves.
pub record HasPhase (kinds : KindTable) (nodes : List replayed.Node) (phase : Phase) (commit : Bool) (old : List Member) (ended : Ended) : Type 0 where
  pub grows : Grows kinds nodes (not commit) (IsAt (place_of_phase phase)) old ended.events
  pub fit : FitsTree nodes ended.scene.session.owners
  pub places : table_of ended.scene.around.kinds ≡ kinds
  pub falls : AllNodes Falls ended.scene.session.owners
  pub locks : IsInOrder ended.scene.session.locks

still_falls : (kinds : KindTable) (phase : Phase) (owner : Owner) → Falls owner → Falls (own_released kinds phase owner)
still_falls kinds phase owner h = grind (arith, nat_tests, falling_filter)

module _ (nodes : List replayed.Node) (phase : Phase) (commit top : Bool) (n : ℕ) where
  own_phase : (s : Scene) (old : List Member) → FitsTree nodes s.session.owners → AllNodes Falls s.session.owners → IsInOrder s.session.locks → All (λ m. place_of m < place_of_phase phase) old
      → HasPhase (table_of s.around.kinds) nodes phase commit old (phase_released commit top n phase s)
  own_phase s old fit falls order early =
      let kinds : KindTable = table_of s.around.kinds in
      let steps : List Step = release_steps kinds phase commit top n s.session.owners in
      let r : Releases kinds nodes (not commit) (IsAt (place_of_phase phase)) old s (for_each step_done steps s) = steps_release kinds nodes phase commit top n s.session.owners s old fit falls order early in
      let change : Owner → Owner = own_released kinds phase in
      record {
        grows = subst (Grows kinds nodes (not commit) (IsAt (place_of_phase phase)) old) (sym (append-nil (for_each step_done steps s).events)) r.grows;
        fit = fits_alike nodes (for_each step_done steps s).scene.session.owners _ (alike_swept change n (for_each step_done steps s).scene.session.owners) (subst (FitsTree nodes) (sym r.stays.owners) fit);
        places = r.stays.kinds;
        falls = all_swept change Falls n (for_each step_done steps s).scene.session.owners (still_falls kinds phase) (subst (AllNodes Falls) (sym r.stays.owners) falls);
        locks = r.stays.locks order;
      }

  pub phase_release : (kinds : KindTable) (s : Scene) (old : List Member) → table_of s.around.kinds ≡ kinds → FitsTree nodes s.session.owners → AllNodes Falls s.session.owners → IsInOrder s.session.locks
      → All (λ m. place_of m < place_of_phase phase) old → HasPhase kinds nodes phase commit old (phase_released commit top n phase s)
  phase_release kinds s old is fit falls order early =
      subst (λ (k : KindTable). HasPhase k nodes phase commit old (phase_released commit top n phase s)) is (own_phase s old fit falls order early)

-- a release said in order, from its beginning
pub record HasBatch (kinds : KindTable) (nodes : List replayed.Node) (aborts : Bool) (events : List What) : Type 0 where
  pub members : List Member
  pub adds : Adds kinds nodes aborts [] members events

-- The release of an owner and of all below it is said in order.
pub owner_release : (kinds : KindTable) (nodes : List replayed.Node) (commit top : Bool) (n : ℕ) (s : Scene) → table_of s.around.kinds ≡ kinds → FitsTree nodes s.session.owners → AllNodes Falls s.session.owners → IsInOrder s.session.locks
    → HasBatch kinds nodes (not commit) (owner_released commit top n s).events
owner_release kinds nodes commit top n s is fit falls order =
    let t : Scene = (phase_released commit top n BeforeLocks s).scene in
    let u : Scene = (phase_released commit top n Locks t).scene in
    let a : HasPhase kinds nodes BeforeLocks commit [] (phase_released commit top n BeforeLocks s) =
    phase_release nodes BeforeLocks commit top n kinds s [] is fit falls order (All-nil (λ m. place_of m < 1)) in
    let one : List Member = a.grows.new ++ [] in
    let early : All (λ m. place_of m < 2) one = All-append (λ m. place_of m < 2) a.grows.new [] (All-weaker (IsAt 1) (λ m. place_of m < 2) (λ m e. omega (arith, e)) a.grows.new a.grows.are) (All-nil (λ m. place_of m < 2)) in
    let b : HasPhase kinds nodes Locks commit one (phase_released commit top n Locks t) = phase_release nodes Locks commit top n kinds t one a.places a.fit a.falls a.locks early in
    let two : List Member = b.grows.new ++ one in
    let earlier : All (λ m. place_of m < 3) two =
    All-append (λ m. place_of m < 3) b.grows.new one (All-weaker (IsAt 2) (λ m. place_of m < 3) (λ m e. omega (arith, e)) b.grows.new b.grows.are) (All-weaker (λ m. place_of m < 2) (λ m. place_of m < 3) (λ m e. omega (arith, e)) one early) in
    let c : HasPhase kinds nodes AfterLocks commit two (phase_released commit top n AfterLocks u) = phase_release nodes AfterLocks commit top n kinds u two b.places b.fit b.falls b.locks earlier in
    let three : List Member = c.grows.new ++ two in
    record {
      members = three;
      adds = adds_both kinds nodes (not commit) {old = []} {mid = one} {new = three} a.grows.adds
          (adds_both kinds nodes (not commit) {old = one} {mid = two} {new = three} b.grows.adds
          (adds_both kinds nodes (not commit) {old = two} {mid = three} {new = three} c.grows.adds (adds_none kinds nodes (not commit) three)));
    }
