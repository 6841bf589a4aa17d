-- What becomes of owners makes them hold no more, and leaves each number once.
use Rattle.session_laws.proofs.Words.{◌≡◌, ℕ, ◌≤◌, true, Some, List, [], ◌∷◌, refl, ap, arith, ◌+◌, ◌-◌, Bool, false, cond, nat_eq, if◌then◌else◌, ◌++◌, Option, None, sym, subst, ◌∙◌, zero, suc, take, ◌==◌, ◌&&◌, nat_le, nat_lt, list_any, cases_Bool, and_from, eqb-true, le-leb, Empty, Node, Once, children, removed, subtree, size, order_at, at_absent, at_some, once_removed, put_absent, removed_absent, times_put, times_removed, changed_absent, once_changed, nat_tests}
use Rattle.session_laws.proofs.Scenes.{Item, KindId, is_of, uses, without_newest, Owner, OwnerTree, held, created, forgotten, What, Phase, KindTable, Step, GivesBack, ReleasesLocks, PassesLocks, ReleasesAllLocks, release_steps, StandingPlan, file_kind, level_above, level_owner, owner_of, opening, Scene, Around, Moment, plan_at, newest, Ended, for_each, where_there, changes, in_order, say, NoOne, TheDescriptors, TheKind, ThePlans, given_back, left_to, plan_becomes, plan_settled, plan_stays, step_done, item_released, keeper_of, owner_gone, owner_moved, phase_released, table_of, own_released, released, OfLevel, OfPortal, OwnerRole, Element, new_owner_made, owner_made, limit, descriptor_given, files, item_taken, remembers, taken_by, snapshot_pushed, Error, Command, failure, refused_call, unless_refused, does, exited, Stands, StandsBetweenLines, line_elements, turn, is_among, without, given_events, given_file, loser, touch_events, touched_file}
use Rattle.session_laws.proofs.Rules.{Reader, allows_all, seen_after, count, allows_all-append, seen_after-append, Law, Follows, IsRun, Meets, line_runs, fallible_at, fallible_so, said_none, said_more, said_map, said_gone, said_lock_releases, said_lock_passes, said_all_locks, of_recent, of_owners, times, times_none, times_without, below_limit, own_refusal}
use Rattle.session_laws.proofs.Parents.{alike_swept, once_alike}
use Rattle.session_laws.proofs.StepsOf.{AreOf, gives_up, no_step, numbers_of, passes, steps_of, unlocks, unlocks_all, warns}
use Rattle.std.proofs.lemmas.Grind.{common_steps}
use Rattle.owner_core.specs.Sound.{total}
use Rattle.owner_core.proofs.Sounds.{total_put, total_removed, once_of, sound_created}
use Rattle.session_rules.specs.Counts.{all_items, holds}
use Rattle.session_rules.proofs.HeldItems.{gives, gives_phase, held_created, held_forgotten, held_remembered}
use Rattle.session_laws.proofs.LocksSight.{ArePlain, hides, of_items, subject, Sees, Turns, locked_hidden, pushed_hidden, unlocked_hidden, Least, OwesUnlocks, ending_turn, least_acts, lock_owed, session_exits, unlock_owed, stack_hidden}
use Rattle.session_laws.proofs.FilesLife.{mark, mark_swapped, times_more}
use Rattle.session_laws.proofs.Lives.{IsRead, Reads, read_both}
use Rattle.session_laws.proofs.OwnerEnds.{steps_stay}
use Rattle.session_laws.proofs.LocksChecked.{IsChecked, line_checked, passed_unless}
use Rattle.pgs_step.specs.declared.events.What.TheVariants as what
use Rattle.session_rules.specs.Elements as e

module _ (kind : KindId) (key : ℕ) where
  abbrev used : Owner → ℕ
  used owner = uses kind key owner.items

  held_is : (t : OwnerTree) → held kind key t ≡ total used t
  held_is Empty = refl
  held_is (Node n a below beside) = omega (arith, held_is below, held_is beside)

  -- owners that go
  pub held_less_removed : (n : ℕ) (t : OwnerTree) → Once t → held kind key (removed n t) ≤ held kind key t
  held_less_removed n t once = grind (arith, nat_tests, at_some, total_removed, held_is, removed_absent)

  -- one of these items is held where some owner has it
  some_counted : (items : List Item) → list_any (is_of kind key) items ≡ true → 1 ≤ uses kind key items
  some_counted [] h = absurd (cc h)
  some_counted (item ∷ items) h = grind (arith, common_steps, some_counted items)

  pub held_some : (t : OwnerTree) → list_any (is_of kind key) (all_items t) ≡ true → 1 ≤ held kind key t
  held_some Empty h = absurd (cc h)
  held_some (Node n a below beside) h = grind (arith, common_steps, some_counted a.items, held_some below, held_some beside)

-- each number stands once

pub once_less_removed : (n : ℕ) (t : OwnerTree) → Once t → Once (removed n t)
once_less_removed n t once = grind (arith, nat_tests, once_removed, removed_absent)

-- A file has a descriptor only while an item of it is held: what a reader has seen of such items covers the file's descriptor.

-- how many items of a file an event acquires, or releases
abbrev pub takes_file : ℕ → What → ℕ
takes_file f (what.Acquire item owner) = cond (is_of file_kind f item) 1 0
takes_file f other = 0

abbrev pub leaves_file : ℕ → What → ℕ
leaves_file f (what.Release item owner) = cond (is_of file_kind f item) 1 0
leaves_file f other = 0

module _ (f : ℕ) where
  abbrev pub item_reader : Reader ℕ
  item_reader = count (takes_file f) (leaves_file f)

  -- 1 for an item of this file
  abbrev pub of_file : Item → ℕ
  of_file item = cond (is_of file_kind f item) 1 0

  -- events that neither acquire nor release one
  pub record IsStill (event : What) : Type 0 where
    pub takes : takes_file f event ≡ 0
    pub leaves : leaves_file f event ≡ 0

  pub data AreStill : List What → Type 0 where
    still_none : AreStill []
    still_more : {event : What} {events : List What} → IsStill event → AreStill events → AreStill (event ∷ events)

  pub still_both : {xs ys : List What} → AreStill xs → AreStill ys → AreStill (xs ++ ys)
  still_both still_none k = k
  still_both (still_more h hs) k = still_more h (still_both hs k)

  plain_takes : (event : What) → hides (subject event) of_items ≡ true → takes_file f event ≡ 0
  plain_takes event h = grind (arith, nat_tests)

  plain_leaves : (event : What) → hides (subject event) of_items ≡ true → leaves_file f event ≡ 0
  plain_leaves event h = grind (arith, nat_tests)

  pub plain_still : {events : List What} → ArePlain of_items events → AreStill events
  plain_still said_none = still_none
  plain_still (said_more {event = event} h hs) = still_more (record { takes = plain_takes event h; leaves = plain_leaves event h }) (plain_still hs)

  pub still_allowed : (m : ℕ) {events : List What} → AreStill events → allows_all item_reader m events ≡ true
  still_allowed m still_none = refl
  still_allowed m (still_more {event = event} {events = events} h hs) = grind (arith, nat_tests, still_allowed m hs, and_from, le-leb)

  pub still_left : (m : ℕ) {events : List What} → AreStill events → seen_after item_reader m events ≡ m
  still_left m still_none = refl
  still_left m (still_more {event = event} {events = events} h hs) =
      ap (λ (k : ℕ). seen_after item_reader k events) (omega (arith, h.takes, h.leaves)) ∙ still_left m hs

  pub still_one : (event : What) → takes_file f event ≡ 0 → leaves_file f event ≡ 0 → AreStill (event ∷ [])
  still_one event t l = still_more (record { takes = t; leaves = l }) still_none

  -- Behind some events the file is among those with a descriptor once at most, what the reader has seen covers it, and so much besides.
  pub record Falls (K m : ℕ) (t : Scene) (events : List What) : Type 0 where
    pub allowed : allows_all item_reader m events ≡ true
    pub few : times f t.session.recent ≤ 1
    pub covered : times f t.session.recent ≤ seen_after item_reader m events
    pub left : K ≤ seen_after item_reader m events

  pub falls_still : (K m : ℕ) (t : Scene) {events : List What} → AreStill events → times f t.session.recent ≤ 1 → times f t.session.recent ≤ m → K ≤ m → Falls K m t events
  falls_still K m t {events = events} still few covered more = grind (arith, nat_tests, still_left, still_allowed)

  pub falls_both : {J K m : ℕ} {t u : Scene} {xs ys : List What} → Falls J m t xs → Falls K (seen_after item_reader m xs) u ys → Falls K m u (xs ++ ys)
  falls_both {m = m} {xs = xs} {ys = ys} a b = grind (arith, nat_tests, seen_after-append, allows_all-append)

  -- a plan that is given back changes no file
  plan_events : (plan : StandingPlan) (s : Scene) → AreStill (plan_becomes plan s).events
  plan_events plan s = go (plan.discarded && (plan.references == 0))
    where
      go : (b : Bool) → AreStill (elim b as (λ _. Ended) [ true ↦ plan_settled plan s | false ↦ plan_stays plan s ]).events
      go true = still_both (plain_still (said_gone (λ word n. refl) (λ n. refl) (subtree plan.context s.session.contexts))) still_none
      go false = still_none

  plan_recent : (plan : StandingPlan) (s : Scene) → (plan_becomes plan s).scene.session.recent ≡ s.session.recent
  plan_recent plan s = grind (arith, nat_tests)

  plan_falls : (key K m : ℕ) (s : Scene) → times f s.session.recent ≤ 1 → times f s.session.recent ≤ m → K ≤ m → Falls K m (left_to ThePlans key s).scene (left_to ThePlans key s).events
  plan_falls key K m s few covered more = go (plan_at key s.session.plans)
    where
      go : (o : Option StandingPlan) → Falls K m (where_there o (λ plan. plan_becomes (record plan { references = plan.references - 1 })) s).scene (where_there o (λ plan. plan_becomes (record plan { references = plan.references - 1 })) s).events
      go None = falls_still K m s still_none few covered more
      go (Some plan) =
          let same : (plan_becomes (record plan { references = plan.references - 1 }) s).scene.session.recent ≡ s.session.recent = plan_recent (record plan { references = plan.references - 1 }) s in
          falls_still K m (plan_becomes (record plan { references = plan.references - 1 }) s).scene (plan_events (record plan { references = plan.references - 1 }) s)
          (subst (λ (xs : List ℕ). times f xs ≤ 1) (sym same) few) (subst (λ (xs : List ℕ). times f xs ≤ m) (sym same) covered) more

  -- a file that is closed
  closed_falls : (key K m : ℕ) (s : Scene) → times f s.session.recent ≤ 1 → times f s.session.recent ≤ m + mark f key → K ≤ m → Falls K m (left_to TheDescriptors key s).scene (left_to TheDescriptors key s).events
  closed_falls key K m s few covered more = grind (arith, nat_tests, times_without, falls_still, still_one, mark_swapped, nat_eq, times_none, eqb-true, mark)

  -- an item that is given back
  pub given_falls : (item : Item) (K m : ℕ) (s : Scene) → times f s.session.recent ≤ 1 → times f s.session.recent ≤ m + of_file item → K ≤ m → Falls K m (given_back item s).scene (given_back item s).events
  given_falls item K m s few covered more = go (item.kind.0 == 5) (item.kind.0 == 8) (nat_lt item.kind.0 16) refl refl
    where
      other : (item.kind.0 == 8) ≡ false → times f s.session.recent ≤ m
      other e = let none : of_file item ≡ 0 = ap (λ (b : Bool). cond (b && (item.key == f)) 1 0) e in omega (arith, covered, none)

      this : (item.kind.0 == 8) ≡ true → times f s.session.recent ≤ m + mark f item.key
      this e =
          let one : of_file item ≡ mark item.key f = ap (λ (b : Bool). cond (b && (item.key == f)) 1 0) e in
          omega (arith, covered, one, mark_swapped f item.key)

      go : (a b c : Bool) → (item.kind.0 == 5) ≡ a → (item.kind.0 == 8) ≡ b
          → Falls K m (left_to (if a then ThePlans else (if b then TheDescriptors else (if c then NoOne else TheKind (item.kind.0 - 16)))) item.key s).scene
          (left_to (if a then ThePlans else (if b then TheDescriptors else (if c then NoOne else TheKind (item.kind.0 - 16)))) item.key s).events
      go true b c p q = plan_falls item.key K m s few (other (ap (λ (n : ℕ). n == 8) (eqb-true item.kind.0 5 p))) more
      go false true c p q = closed_falls item.key K m s few (this q) more
      go false false true p q = falls_still K m s still_none few (other q) more
      go false false false p q = falls_still K m _ still_none few (other q) more

  -- a release, and then what gives the item back
  pub release_falls : {K m : ℕ} {t : Scene} {events : List What} (item : Item) (n : ℕ) → of_file item ≤ m → Falls K (m + 0 - of_file item) t events → Falls K m t (what.Release item n ∷ events)
  release_falls {m = m} item n h k = record { allowed = and_from (nat_le (of_file item) m) _ (le-leb (of_file item) m h) k.allowed; few = k.few; covered = k.covered; left = k.left }

  -- What the steps of a phase give back is taken off.
  pub units_fall : {commit : Bool} {steps : List Step} → AreOf (λ n. Unit {0}) commit steps → (s : Scene) (K m : ℕ) → times f s.session.recent ≤ 1 → times f s.session.recent ≤ m → gives file_kind f steps + K ≤ m
      → Falls K m (for_each step_done steps s).scene (for_each step_done steps s).events
  units_fall no_step s K m few covered more = falls_still K m s still_none few covered (omega (arith, more))
  units_fall (warns {item = item} {n = n} {rest = steps} e h) s K m few covered more =
      let first : Falls (gives file_kind f steps + K) m s (what.NotClosed item n ∷ []) = falls_still (gives file_kind f steps + K) m s (still_one (what.NotClosed item n) refl refl) few covered (omega (arith, more)) in
      falls_both first (units_fall h s K (seen_after item_reader m (what.NotClosed item n ∷ [])) first.few first.covered first.left)
  units_fall (unlocks {n = owner} {rest = steps} p h) s K m few covered more =
      let first : Falls (gives file_kind f steps + K) m (step_done (ReleasesLocks owner) s).scene (step_done (ReleasesLocks owner) s).events =
      falls_still (gives file_kind f steps + K) m (step_done (ReleasesLocks owner) s).scene (plain_still (said_lock_releases (λ object mode count owner. refl) owner s.session.locks)) few covered (omega (arith, more)) in
      falls_both first (units_fall h (step_done (ReleasesLocks owner) s).scene K _ first.few first.covered first.left)
  units_fall (passes {n = from} {to = to} {rest = steps} e h) s K m few covered more =
      let first : Falls (gives file_kind f steps + K) m (step_done (PassesLocks from to) s).scene (step_done (PassesLocks from to) s).events =
      falls_still (gives file_kind f steps + K) m (step_done (PassesLocks from to) s).scene (plain_still (said_lock_passes (λ object mode count from to. refl) from to s.session.locks)) few covered (omega (arith, more)) in
      falls_both first (units_fall h (step_done (PassesLocks from to) s).scene K _ first.few first.covered first.left)
  units_fall (unlocks_all {n = top} {rest = steps} p h) s K m few covered more =
      let first : Falls (gives file_kind f steps + K) m (step_done (ReleasesAllLocks top) s).scene (step_done (ReleasesAllLocks top) s).events =
      falls_still (gives file_kind f steps + K) m (step_done (ReleasesAllLocks top) s).scene (plain_still (said_all_locks (λ object mode count owner. refl) top s.session.locks)) few covered (omega (arith, more)) in
      falls_both first (units_fall h (step_done (ReleasesAllLocks top) s).scene K _ first.few first.covered first.left)
  units_fall (gives_up {item = item} {n = n} {rest = steps} p h) s K m few covered more =
      let r : ℕ = of_file item in
      let first : Falls (gives file_kind f steps + K) (m + 0 - r) (given_back item s).scene (given_back item s).events = given_falls item (gives file_kind f steps + K) (m + 0 - r) s few (omega (arith, covered, more)) (omega (arith, more)) in
      release_falls item n (omega (arith, more)) (falls_both first (units_fall h (given_back item s).scene K _ first.few first.covered first.left))

-- The law of the items of a file: each act on owners and on descriptors keeps it.

take_times : (f k : ℕ) (xs : List ℕ) → times f (take k xs) ≤ times f xs
take_times f zero xs = omega arith
take_times f (suc k) [] = omega arith
take_times f (suc k) (x ∷ xs) = omega (arith, take_times f k xs, times_more f x xs, times_more f x (take k xs))

module _ (f : ℕ) where
  -- The file has at most one descriptor, and what the reader has seen covers it and the items of it that owners hold.
  pub record ItemFits (m : ℕ) (s : Scene) : Type 0 where
    pub few : times f s.session.recent ≤ 1
    pub covered : times f s.session.recent ≤ m
    pub covers : held file_kind f s.session.owners ≤ m
    pub once : Once s.session.owners

  abbrev pub ReadsItems : Law
  ReadsItems = Reads (item_reader f) ItemFits

  fallen : {K m : ℕ} {t : Scene} {events : List What} → Falls f K m t events → held file_kind f t.session.owners ≤ K → Once t.session.owners → IsRead (item_reader f) ItemFits m t events
  fallen a less once = record { allowed = a.allowed; fits = record { few = a.few; covered = a.covered; covers = omega (arith, less, a.left); once = once } }

  pub items_aside : (s t : Scene) {events : List What} → t.session.recent ≡ s.session.recent → t.session.owners ≡ s.session.owners → ArePlain of_items events → ReadsItems s t events
  items_aside s t recent owners plain = record {
    so = λ m h.
        fallen (falls_still f m m t (plain_still f plain) (subst (λ (xs : List ℕ). times f xs ≤ 1) (sym recent) h.few) (subst (λ (xs : List ℕ). times f xs ≤ m) (sym recent) h.covered) (omega arith))
        (subst (λ (x : OwnerTree). held file_kind f x ≤ m) (sym owners) h.covers) (subst Once (sym owners) h.once);
  }

  pub items_seen : Sees of_items ReadsItems
  items_seen = record { both = λ a b. read_both (item_reader f) ItemFits a b; aside = λ s t same plain. items_aside s t (same.so of_recent refl) (same.so of_owners refl) plain }

  -- an item is released
  released_so : (owner : ℕ) (kind : KindId) (key : ℕ) (s : Scene) → ReadsItems s (item_released owner kind key s).scene (item_released owner kind key s).events
  released_so owner kind key s = record { so = λ m h. go m h (newest owner kind key s.session) refl }
    where
      x : OwnerTree
      x = s.session.owners

      y : OwnerTree
      y = forgotten owner kind key x

      t : Scene
      t = record s { session = record s.session { owners = y } }

      less : (item : Item) → Once x → newest owner kind key s.session ≡ Some item → held file_kind f y + of_file f item ≡ held file_kind f x
      less item once is = grind (arith, nat_tests, cases_Bool, x, at_some, held_forgotten, once, at_absent)

      go : (m : ℕ) → ItemFits m s → (o : Option Item) → newest owner kind key s.session ≡ o
          → IsRead (item_reader f) ItemFits m (where_there o (λ (item : Item). in_order (changes (λ session. record session { owners = forgotten owner kind key session.owners }) ∷ say (what.Release item owner) ∷ given_back item ∷ [])) s).scene
          (where_there o (λ (item : Item). in_order (changes (λ session. record session { owners = forgotten owner kind key session.owners }) ∷ say (what.Release item owner) ∷ given_back item ∷ [])) s).events
      go m h None is = fallen (falls_still f m m s still_none h.few h.covered (omega arith)) h.covers h.once
      go m h (Some item) is =
          let r : ℕ = of_file f item in
          let one : held file_kind f y + r ≡ held file_kind f x = less item h.once is in
          let back : Falls f (held file_kind f y) (m + 0 - r) (given_back item t).scene (given_back item t).events =
          given_falls f item (held file_kind f y) (m + 0 - r) t h.few (omega (arith, h.covered, h.covers, one)) (omega (arith, h.covers, one)) in
          let last : Falls f (held file_kind f y) (m + 0 - r) (given_back item t).scene ((given_back item t).events ++ []) =
          falls_both f back (falls_still f (held file_kind f y) _ (given_back item t).scene still_none back.few back.covered back.left) in
          let owners : (given_back item t).scene.session.owners ≡ y = (steps_stay (GivesBack item ∷ []) t).owners in
          fallen (release_falls f item owner (omega (arith, h.covers, one)) last) (subst (λ (z : OwnerTree). held file_kind f z ≤ held file_kind f y) (sym owners) (omega arith))
          (subst Once (sym owners) (once_changed owner (λ (o : Owner). record o { items = without_newest (is_of kind key) o.items }) x h.once))

  -- a phase is released
  phase_so : (commit top : Bool) (n : ℕ) (phase : Phase) (s : Scene) → ReadsItems s (phase_released commit top n phase s).scene (phase_released commit top n phase s).events
  phase_so commit top n phase s = record {
    so = λ m h.
        let table : KindTable = table_of s.around.kinds in
        let x : OwnerTree = s.session.owners in
        let steps : List Step = release_steps table phase commit top n x in
        let K : ℕ = held file_kind f (released table phase n x) in
        let all : Falls f K m (for_each step_done steps s).scene (for_each step_done steps s).events =
        units_fall f (steps_of (λ k. Unit {0}) table phase commit top n x tt (numbers_of (λ k. Unit {0}) (children n x) (λ k u. tt))) s K m h.few h.covered (omega (arith, gives_phase file_kind f table phase commit top n x h.once, h.covers)) in
        let same : (for_each step_done steps s).scene.session.owners ≡ x = (steps_stay steps s).owners in
        fallen (falls_both f all (falls_still f K _ (phase_released commit top n phase s).scene still_none all.few all.covered all.left))
        (subst (λ (z : OwnerTree). held file_kind f (released table phase n z) ≤ K) (sym same) (omega arith))
        (subst (λ (z : OwnerTree). Once (released table phase n z)) (sym same) (once_alike x _ (alike_swept (own_released table phase) n x) h.once));
  }

  gone_so : (n : ℕ) (s : Scene) → ReadsItems s (owner_gone n s).scene (owner_gone n s).events
  gone_so n s = record {
    so = λ m h.
        fallen (falls_still f m m (owner_gone n s).scene (plain_still f (said_map (λ (k : ℕ). what.OwnerGone k) (λ k. refl) (order_at n s.session.owners))) h.few h.covered (omega arith))
        (omega (arith, h.covers, held_less_removed file_kind f n s.session.owners h.once)) (once_less_removed n s.session.owners h.once);
  }

  moved_so : (n parent : ℕ) (s : Scene) → ReadsItems s (owner_moved n parent s).scene (owner_moved n parent s).events
  moved_so n parent s = grind (arith, nat_tests, fallen, falls_still, still_one, at_some, total_put, total_removed, held_is, put_absent, held_less_removed, once_removed, at_absent, times_put, times_removed)

  -- a file that is used
  given_still : (o : Option ℕ) (file : ℕ) → AreStill f (given_events o file)
  given_still None file = still_one f (what.DescriptorOpened file) refl refl
  given_still (Some closed) file = still_more (record { takes = refl; leaves = refl }) (still_one f (what.DescriptorOpened file) refl refl)

  touch_still : (file : ℕ) (s : Scene) → AreStill f (touch_events file (files s))
  touch_still file s = go (is_among file s.session.recent)
    where
      go : (b : Bool) → AreStill f (if b then [] else given_events (loser (files s)) file)
      go true = still_none
      go false = given_still (loser (files s)) file

  record Touched (file : ℕ) (s : Scene) (recent : List ℕ) : Type 0 where
    few : times f recent ≤ 1
    more : times f recent ≤ times f s.session.recent + mark f file

  touches : (file : ℕ) (s : Scene) → times f s.session.recent ≤ 1 → Touched file s (touched_file file (files s)).recent
  touches file s few = go (is_among file s.session.recent) refl
    where
      xs : List ℕ
      xs = s.session.recent

      marked : (b : Bool) → nat_eq f file ≡ b → is_among file xs ≡ false → cond b 1 0 + times f xs ≤ 1
      marked b e fresh = grind (arith, nat_tests, times_none, xs, eqb-true)

      go : (b : Bool) → is_among file xs ≡ b → Touched file s (if b then record (files s) { recent = file ∷ without file xs } else given_file file (files s)).recent
      go true e =
          let same : times f (file ∷ without file xs) ≡ times f xs = omega (arith, times_without f file xs e, times_more f file (without file xs), mark_swapped f file) in
          record { few = omega (arith, same, few); more = omega (arith, same) }
      go false e =
          let k : ℕ = s.around.descriptors - 1 in
          let all : times f (file ∷ take k xs) ≡ mark f file + times f (take k xs) = times_more f file (take k xs) in
          record { few = omega (arith, all, take_times f k xs, marked (nat_eq f file) refl e); more = omega (arith, all, take_times f k xs) }

  pub used_so : (file : ℕ) (s : Scene) → (nat_eq f file ≡ true → 1 ≤ held file_kind f s.session.owners) → ReadsItems s (descriptor_given file s).scene (descriptor_given file s).events
  used_so file s some = grind (arith, nat_tests, touches, fallen, falls_still, touch_still, nat_eq, mark)

  -- an item that is taken
  record Took (m r : ℕ) (s t : Scene) (events : List What) : Type 0 where
    still : AreStill f events
    few : times f t.session.recent ≤ 1
    covered : times f t.session.recent ≤ m + r
    owners : t.session.owners ≡ s.session.owners

  takes : (m : ℕ) (kind : KindId) (key : ℕ) (s : Scene) → ItemFits m s → Took m (cond ((kind.0 == 8) && (key == f)) 1 0) s (taken_by (keeper_of kind) key s).scene (taken_by (keeper_of kind) key s).events
  takes m kind key s h = go (kind.0 == 5) (kind.0 == 8) (nat_lt kind.0 16) refl
    where
      r : ℕ
      r = cond ((kind.0 == 8) && (key == f)) 1 0

      go : (a b c : Bool) → (kind.0 == 8) ≡ b
          → Took m r s (taken_by (if a then ThePlans else (if b then TheDescriptors else (if c then NoOne else TheKind (kind.0 - 16)))) key s).scene
          (taken_by (if a then ThePlans else (if b then TheDescriptors else (if c then NoOne else TheKind (kind.0 - 16)))) key s).events
      go true b c q = record { still = still_none; few = h.few; covered = omega (arith, h.covered); owners = refl }
      go false true c q =
          let t : Touched key s (touched_file key (files s)).recent = touches key s h.few in
          let one : r ≡ mark key f = ap (λ (b : Bool). cond (b && (key == f)) 1 0) q in
          record { still = touch_still key s; few = t.few; covered = omega (arith, t.more, h.covered, one, mark_swapped f key); owners = refl }
      go false false true q = record { still = still_none; few = h.few; covered = omega (arith, h.covered); owners = refl }
      go false false false q = record { still = still_none; few = h.few; covered = omega (arith, h.covered); owners = refl }

  taken_so : (owner : ℕ) (kind : KindId) (key : ℕ) (s : Scene) → ReadsItems s (item_taken owner kind key s).scene (item_taken owner kind key s).events
  taken_so owner kind key s = record {
    so = λ m h.
        let s1 : Scene = (taken_by (keeper_of kind) key s).scene in
        let xs : List What = (taken_by (keeper_of kind) key s).events in
        let t : Took m (cond ((kind.0 == 8) && (key == f)) 1 0) s s1 xs = takes m kind key s h in
        let item : Item = record { kind = kind; key = key; serial = s1.session.next_serial } in
        let m1 : ℕ = seen_after (item_reader f) m xs in
        let same : m1 ≡ m = still_left f m t.still in
        let once : Once s1.session.owners = subst Once (sym t.owners) h.once in
        let some : held file_kind f s1.session.owners ≤ m = subst (λ (x : OwnerTree). held file_kind f x ≤ m) (sym t.owners) h.covers in
        let now : IsRead (item_reader f) ItemFits m1 (remembers owner kind key s1).scene (what.Acquire item owner ∷ []) = grind (arith, nat_tests, and_from, le-leb, at_some, held_remembered, changed_absent, once, once_changed) in
        record {
          allowed = allows_all-append (item_reader f) m xs (what.Acquire item owner ∷ []) (still_allowed f m t.still) now.allowed;
          fits = subst (λ (k : ℕ). ItemFits k (remembers owner kind key s1).scene) (sym (seen_after-append (item_reader f) m xs (what.Acquire item owner ∷ []))) now.fits;
        };
  }

  -- an owner that is made
  made_so : (parent : Option ℕ) (s : Scene) → Once (created parent s.session.next_owner s.session.owners) → ReadsItems s (owner_made parent s).scene (owner_made parent s).events
  made_so parent s once = grind (arith, nat_tests, fallen, falls_still, still_one, held_created)

  pub role_so : (role : OwnerRole) (s : Scene) → ((parent : Option ℕ) → Once (created parent s.session.next_owner s.session.owners)) → ReadsItems s (new_owner_made role s).scene (new_owner_made role s).events
  role_so OfLevel s once = items_seen.both (made_so (owner_of (level_above s.session)) s (once (owner_of (level_above s.session)))) (items_aside _ _ refl refl said_none)
  role_so (OfPortal name) s once = items_seen.both (made_so (level_owner s.session) s (once (level_owner s.session))) (items_aside _ _ refl refl said_none)

  pub items_law : Turns of_items ReadsItems
  items_law = search (arith, items_seen, taken_so, released_so, phase_so, gone_so, moved_so, items_aside, said_none, stack_hidden)

-- A line keeps the law of the items of a file, and so does the end of a session.

-- two things that are known of each element that a run meets
run_both : (P Q : Element → Scene → Type 0) (w : Option ℕ) (xs : List Element) (m : Moment) → IsRun P w xs m → IsRun Q w xs m → IsRun (λ x s. P x s × Q x s) w xs m
run_both P Q w [] m p q = tt
run_both P Q w (x ∷ xs) m p q = ((p.0, q.0), λ none. run_both P Q w xs (does w x m).moment (p.1 none) (q.1 none))

module _ (f : ℕ) where
  abbrev least : Least of_items (ReadsItems f)
  least = (items_law f).least

  -- an owner is made where there are not too many
  made_owed : (w : Option ℕ) (role : OwnerRole) (m : Moment) → Stands m.scene → Follows (ReadsItems f) m.scene (does w (e.MakeOwner role) m)
  unfolding does
  made_owed w role m stands =
      let done : Follows (ReadsItems f) m.scene (unless_refused (refused_call w m.fail (m.calls + 1) (limit 65536 (size m.scene.session.owners))) (record m { calls = m.calls + 1 }) (new_owner_made role)) = grind (arith, nat_tests, go, own_refusal) in
      record { so = done.so }
    where
      once : limit 65536 (size m.scene.session.owners) ≡ None → (parent : Option ℕ) → Once (created parent m.scene.session.next_owner m.scene.session.owners)
      once room parent =
          let a : ℕ = m.scene.session.next_owner in
          let b : ℕ = m.scene.session.next_serial in
          once_of (created parent a m.scene.session.owners) (a + 1) b (sound_created parent m.scene.session.owners a b stands.owners.sound (below_limit 65536 (size m.scene.session.owners) room))

      go : (r : Option Error) → (r ≡ None → limit 65536 (size m.scene.session.owners) ≡ None) → Follows (ReadsItems f) m.scene (unless_refused r (record m { calls = m.calls + 1 }) (new_owner_made role))
      go None room = record { so = role_so f role m.scene (once (room refl)) }
      go (Some error) room = record { so = (least_acts of_items (ReadsItems f) least).none m.scene }

  -- a file that is open is used
  used_owed : (w : Option ℕ) (file : ℕ) (m : Moment) → failure (e.IsFile file) m.scene ≡ None → Follows (ReadsItems f) m.scene (does w (e.Touch file) m)
  unfolding does
  used_owed w file m checked =
      fallible_at (ReadsItems f) (least_acts of_items (ReadsItems f) least) w m None (descriptor_given file)
      (used_so f file m.scene
      (λ same.
      let some : holds file_kind file m.scene.session ≡ true = passed_unless (holds file_kind file m.scene.session) _ checked in
      held_some file_kind f m.scene.session.owners (ap (λ (k : ℕ). list_any (is_of file_kind k) (all_items m.scene.session.owners)) (eqb-true f file same) ∙ some)))

  items_owed : (w : Option ℕ) (x : Element) (m : Moment) → Meets x m.scene × IsChecked x m.scene → OwesUnlocks (ReadsItems f) w x m
  unfolding does
  items_owed w (e.InTurn name x) m known = items_owed w x m (record { stands = known.0.stands; asks = known.0.asks }, known.1)
  items_owed w (e.MakeOwner role) m known = made_owed w role m known.0.stands
  items_owed w (e.TakeLock role o mo) m known = lock_owed of_items (ReadsItems f) least w role o mo m (locked_hidden of_items (ReadsItems f) (items_seen f) refl o mo)
  items_owed w (e.Unlock o mo) m known = unlock_owed of_items (ReadsItems f) least w o mo m (unlocked_hidden of_items (ReadsItems f) (items_seen f) refl o mo)
  items_owed w (e.Touch file) m known = used_owed w file m known.1
  items_owed w (e.PushSnapshot snapshot) m known = fallible_so (ReadsItems f) (least_acts of_items (ReadsItems f) least) w m _ (snapshot_pushed snapshot) (pushed_hidden of_items (ReadsItems f) (items_seen f) refl snapshot)
  items_owed w other m known = tt

  -- Each line keeps it, in a session that stands between lines.
  pub items_turn : (w : Option ℕ) (line : Option Command) (m : Moment) → StandsBetweenLines m.scene → ReadsItems f m.scene (turn w line m).moment.scene (turn w line m).events
  items_turn w line m h =
      ending_turn of_items (ReadsItems f) (items_law f) (λ x s. Meets x s × IsChecked x s) w line m
      (run_both Meets IsChecked w (line_elements line m.scene.session) m (line_runs w line m h) (line_checked w line m)) (items_owed w)

  -- So does the end of a session.
  pub items_exit : (s : Scene) → ReadsItems f s (exited s).scene (exited s).events
  items_exit s = session_exits of_items (ReadsItems f) (items_law f) s

  -- a session as it opens
  pub items_open : (around : Around) → ItemFits f 0 (record { session = opening; around = around })
  unfolding opening
  items_open around = record { few = omega arith; covered = omega arith; covers = omega arith; once = record { once = λ m. omega arith } }
