-- How often the owner of a number has an item, behind each change of the owners, and how often a phase of a release says that it releases it.
use Rattle.session_laws.proofs.Words.{◌≡◌, ℕ, ◌+◌, count_by, find, Bool, true, false, cond, Option, Some, List, [], ◌∷◌, ◌++◌, refl, ap, ◌∙◌, arith, ◌-◌, ◌<◌, ◌≤◌, sym, subst, ◌==◌, ◌&&◌, and_from, false_from_ne_true, le-leb, ne_eqb, sum_by-cons, Empty, Node, Once, has, at, changed, children, moved, put, removed, AllNodes, all_changed, swept, order_at, Moves, apart_of, at_absent, at_some, changed_absent, has_at, once_removed, parent_stays, put_absent, removed_absent, where_is, has_changed, has_of_removed, has_some, once_changed, once_front, once_put, times_moved, times_some, nat_tests, releases, same_item, acquires, eq-eqb, numbering}
use Rattle.session_laws.proofs.Scenes.{Item, KindId, Phase, BeforeLocks, Locks, AfterLocks, KindTable, is_of, without_newest, is_of_phase, priority, release_order, Owner, OwnerTree, AllAt, HoldsNothing, created, forgotten, remembered, left_of, own_released, released, Said, Step, own_steps, release_steps, releases_of, steps_below, GivesBack, ReleasesLocks, PassesLocks, ReleasesAllLocks, made_event, What, table_of, Scene, newest, for_each, owner_made, given_back, owner_gone, owner_moved, phase_released, step_done, remembers, Around, say, item_taken, taken_by, SessionState, opening, Keeper, keeper_of, HasExited}
use Rattle.session_laws.proofs.Rules.{Reader, allows_all, seen_after, count, allows_all-append, seen_after-append, has_put_other, once_left, has_swept, AreReleaseSteps, IsReleaseStep, no_step, phase_release, then_step, warned_step, AreSaid, said_all_locks, said_lock_passes, said_lock_releases, said_map, said_more, said_none, said_one, said_weaker, EndLeaves, Keeps, Law, MakeLeaves, LevelLeaves, Part, Sight, of_next_serial, owner_makes, unseen_keys, unseen_owners, of_next_owner, of_owners, takes, moves_owed, BalancesFrom, covers, left, KeyLeaves}
use Rattle.session_laws.proofs.Parents.{alike_swept, once_alike}
use Rattle.session_laws.proofs.Warnings.{is_aside}
use Rattle.owner_items.proofs.Uses.{count-parts, count-without}
use Rattle.session_laws.proofs.Lives.{Reads, OwesTurns, read_both, owes_by, IsLife, life_by}
use Rattle.session_laws.proofs.OwnerEnds.{Quiet, Stays, given_quiet, steps_stay, owes_where}
use Rattle.session_laws.proofs.Usual.{Usual, is_usual, level_words, usual_files, usual_makes, usual_moves, plain_ends, usual_levels}
use Rattle.session_laws.proofs.ParentsLife.{sees_owners}
use Rattle.pgs_step.specs.declared.events.What.TheVariants as what

-- an event that acquires no item and releases none
abbrev pub is_still : What → Bool
is_still (what.Acquire item owner) = false
is_still (what.Release item owner) = false
is_still other = true

aside_still : (event : What) → is_aside event ≡ true → is_still event ≡ true
aside_still event h = grind (arith, nat_tests)

module _ (item : Item) (owner : ℕ) where
  -- whether an item of the owner of this number is the one
  abbrev pub is_it : ℕ → Item → Bool
  is_it n other = same_item item other && (owner == n)

  -- how often it is among the items of the owner of this number, and of all owners
  abbrev pub own : ℕ → List Item → ℕ
  own n items = count_by (is_it n) items

  abbrev pub has_it : OwnerTree → ℕ
  has_it Empty = 0
  has_it (Node n o below beside) = own n o.items + (has_it below + has_it beside)

  own_one : (n : ℕ) (other : Item) (items : List Item) → own n (other ∷ items) ≡ cond (is_it n other) 1 0 + own n items
  own_one n other items = sum_by-cons (λ z. cond (is_it n z) 1 0) other items

  -- a new owner has nothing
  it_put_bare : (p n : ℕ) (t : OwnerTree) → has_it (put p n (record { begun = false; items = [] }) Empty t) ≡ has_it t
  it_put_bare p n Empty = refl
  it_put_bare p n (Node k b below beside) = grind (arith, nat_tests, it_put_bare p n beside, it_put_bare p n below)

  pub it_created : (parent : Option ℕ) (n : ℕ) (t : OwnerTree) → has_it (created parent n t) ≡ has_it t
  it_created parent n t = grind (arith, nat_tests, it_put_bare)

  -- an owner and those below it
  it_put : (p n : ℕ) (a : Owner) (sub t : OwnerTree) → Once t → has p t ≡ true → has_it (put p n a sub t) ≡ has_it t + (own n a.items + has_it sub)
  it_put p n a sub Empty o h = absurd (cc)
  it_put p n a sub (Node k b below beside) o h = grind (arith, nat_tests, it_put p n a sub below, it_put p n a sub beside, apart_of, where_is, put_absent)

  it_parts : (n : ℕ) (a : Owner) (t : OwnerTree) → Once t → at n t ≡ Some a → has_it (removed n t) + (own n a.items + has_it (children n t)) ≡ has_it t
  it_parts n a Empty o h = absurd (cc)
  it_parts n a (Node k b below beside) o h = grind (arith, nat_tests, it_parts n a below, it_parts n a beside, apart_of, where_is, has_at, removed_absent, at_some, at_absent)

  it_nothing : (t : OwnerTree) → AllNodes HoldsNothing t → has_it t ≡ 0
  it_nothing Empty h = refl
  it_nothing (Node n a below beside) h = omega (arith, ap (own n) h.0, it_nothing below h.1, it_nothing beside h.2)

  -- owners go that hold nothing
  pub it_removed : (n : ℕ) (t : OwnerTree) → Once t → AllAt HoldsNothing n t → has_it (removed n t) ≡ has_it t
  it_removed n t o all = grind (arith, nat_tests, at_some, it_parts, it_nothing, removed_absent)

  -- an owner moves
  pub it_moved : (n q : ℕ) (t : OwnerTree) → Once t → Moves n q t → has_it (moved n q t) ≡ has_it t
  it_moved n q t o w = grind (arith, nat_tests, at_some, it_put, once_removed, parent_stays, it_parts)

  -- the items of one owner change
  it_changed : (n : ℕ) (f : Owner → Owner) (a : Owner) (t : OwnerTree) → Once t → at n t ≡ Some a → has_it (changed n f t) + own n a.items ≡ has_it t + own n (f a).items
  it_changed n f a Empty o h = absurd (cc)
  it_changed n f a (Node k b below beside) o h = grind (arith, nat_tests, it_changed n f a below, it_changed n f a beside, apart_of, where_is, has_at, changed_absent, at_some, at_absent)

  -- one item more
  pub it_remembered : (n : ℕ) (new : Item) (a : Owner) (t : OwnerTree) → Once t → at n t ≡ Some a → has_it (remembered n new t) ≡ has_it t + cond (is_it n new) 1 0
  it_remembered n new a t o h =
      omega (arith, it_changed n (λ (x : Owner). record x { items = new ∷ x.items }) a t o h, own_one n new a.items)

  -- one item fewer
  pub it_forgotten : (n : ℕ) (kind : KindId) (key : ℕ) (old : Item) (a : Owner) (t : OwnerTree) → Once t → at n t ≡ Some a → find (is_of kind key) a.items ≡ Some old
      → has_it (forgotten n kind key t) + cond (is_it n old) 1 0 ≡ has_it t
  it_forgotten n kind key old a t o h found =
      omega (
        arith,
        it_changed n (λ (x : Owner). record x { items = without_newest (is_of kind key) x.items }) a t o h,
        count-without (is_it n) (is_of kind key) a.items old found,
      )

  -- how often steps say that it is released
  abbrev pub said : Step → ℕ
  said (Said event) = releases item owner event
  said other = 0

  abbrev pub says : List Step → ℕ
  says [] = 0
  says (step ∷ steps) = said step + says steps

  says_both : (xs ys : List Step) → says (xs ++ ys) ≡ says xs + says ys
  says_both [] ys = omega arith
  says_both (x ∷ xs) ys = omega (arith, says_both xs ys)

  says_releases : (commit : Bool) (n : ℕ) (items : List Item) → says (releases_of commit n items) ≡ own n items
  says_releases commit n [] = refl
  says_releases true n (other ∷ items) = omega (arith, says_releases true n items, own_one n other items)
  says_releases false n (other ∷ items) = omega (arith, says_releases false n items, own_one n other items)

  -- of one owner: what it releases and what is left to it is what it had
  says_own : (kinds : KindTable) (phase : Phase) (commit : Bool) (n : ℕ) (o : Owner) (locks : List Step) → says locks ≡ 0
      → says (own_steps kinds phase commit n o locks) + own n (left_of kinds phase o.items) ≡ own n o.items
  says_own kinds Locks commit n o locks none = omega (arith, none)
  says_own kinds BeforeLocks commit n o locks none =
      omega (arith, says_releases commit n (release_order kinds BeforeLocks o.items), count-parts (is_it n) (is_of_phase kinds BeforeLocks) (priority kinds) o.items)
  says_own kinds AfterLocks commit n o locks none =
      omega (arith, says_releases commit n (release_order kinds AfterLocks o.items), count-parts (is_it n) (is_of_phase kinds AfterLocks) (priority kinds) o.items)

  -- of the owners below one
  says_below : (kinds : KindTable) (phase : Phase) (commit top : Bool) (parent : ℕ) (t : OwnerTree)
      → says (steps_below kinds phase commit top parent t) + has_it (all_changed (own_released kinds phase) t) ≡ has_it t
  says_below kinds phase commit top parent Empty = refl
  says_below kinds phase commit top parent (Node n o below beside) = grind (arith, nat_tests, says_below kinds phase commit top n below, says_below kinds phase commit top parent beside, says_both, says_own)

  -- what a change of an owner and of all below it does to the sum
  unswept : (f : Owner → Owner) (n : ℕ) (t : OwnerTree) → has n t ≡ false → swept f n t ≡ t
  unswept f n Empty h = refl
  unswept f n (Node k a below beside) h = grind (arith, nat_tests, unswept f n below, unswept f n beside)

  it_swept : (f : Owner → Owner) (n : ℕ) (a : Owner) (t : OwnerTree) → Once t → at n t ≡ Some a
      → has_it (swept f n t) + (own n a.items + has_it (children n t)) ≡ has_it t + (own n (f a).items + has_it (all_changed f (children n t)))
  it_swept f n a Empty o h = absurd (cc h)
  it_swept f n a (Node k b below beside) o h = grind (arith, nat_tests, it_swept f n a below, it_swept f n a beside, apart_of, where_is, has_at, unswept, at_some, at_absent)

  -- A phase says of what it takes off the owners that it is released.
  pub says_phase : (kinds : KindTable) (phase : Phase) (commit top : Bool) (n : ℕ) (t : OwnerTree) → Once t
      → says (release_steps kinds phase commit top n t) + has_it (released kinds phase n t) ≡ has_it t
  says_phase kinds phase commit top n t o = grind (arith, nat_tests, at_some, says_both, says_below, says_own, it_swept, at_absent, unswept)

-- How often an owner holds an item is counted by what is said: where an item is taken and given back, where owners come, are released, move and go.

-- each owner's number stands once and is below the next one
pub record AreNumbered (owners : OwnerTree) (next : ℕ) : Type 0 where
  pub once : Once owners
  pub below : (n : ℕ) → has n owners ≡ true → n < next

-- numbers behind each change of the owners
numbered_swept : (f : Owner → Owner) (n : ℕ) (t : OwnerTree) (next : ℕ) → AreNumbered t next → AreNumbered (swept f n t) next
numbered_swept f n t next k = record {
  once = once_alike t (swept f n t) (alike_swept f n t) k.once;
  below = λ m u. k.below m (sym (has_swept f m n t) ∙ u);
}

numbered_changed : (n : ℕ) (f : Owner → Owner) (t : OwnerTree) (next : ℕ) → AreNumbered t next → AreNumbered (changed n f t) next
numbered_changed n f t next k = record { once = once_changed n f t k.once; below = λ m u. k.below m (sym (has_changed m n f t) ∙ u) }

numbered_removed : (n : ℕ) (t : OwnerTree) (next : ℕ) → AreNumbered t next → AreNumbered (removed n t) next
numbered_removed n t next k = record { once = once_left n t k.once; below = λ m u. k.below m (has_of_removed m n t u) }

numbered_moved : (n q : ℕ) (t : OwnerTree) (next : ℕ) → AreNumbered t next → Moves n q t → AreNumbered (moved n q t) next
numbered_moved n q t next k w = grind (arith, nat_tests, at_some, times_moved, has_some, times_some)

fresh : (t : OwnerTree) (next : ℕ) → AreNumbered t next → has next t ≡ false
fresh t next k = false_from_ne_true (has next t) (λ e. omega (arith, k.below next e))

numbered_created : (parent : Option ℕ) (t : OwnerTree) (next : ℕ) → AreNumbered t next → AreNumbered (created parent next t) (next + 1)
numbered_created parent t next k = grind (arith, nat_tests, once_front, fresh, ne_eqb, once_put, has_put_other, put_absent)

-- The count is how often the owner of that number holds the item.
pub record Counts (item : Item) (owner n : ℕ) (s : Scene) : Type 0 where
  pub numbered : AreNumbered s.session.owners s.session.next_owner
  pub is : n ≡ has_it item owner s.session.owners

-- what is said of a new owner
made_still : (parent : Option ℕ) (n : ℕ) → is_still (made_event parent n) ≡ true
made_still parent n = grind (arith, nat_tests)

module _ (item : Item) (owner : ℕ) where
  abbrev pub reader : Reader ℕ
  reader = count (acquires item owner) (releases item owner)

  -- these events are allowed where so many are there, and leave so many
  record Leads (n behind : ℕ) (events : List What) : Type 0 where
    allowed : allows_all reader n events ≡ true
    is : seen_after reader n events ≡ behind

  leads_both : (n m k : ℕ) (xs ys : List What) → Leads n m xs → Leads m k ys → Leads n k (xs ++ ys)
  leads_both n m k xs ys a b = grind (arith, nat_tests, allows_all-append, seen_after-append)

  -- one event
  one_leads : (event : What) (n a r : ℕ) → acquires item owner event ≡ a → releases item owner event ≡ r → r ≤ n → Leads n ((n + a) - r) (event ∷ [])
  one_leads event n a r brings takes few = grind (arith, nat_tests, and_from, le-leb)

  takes_none : (event : What) → is_still event ≡ true → releases item owner event ≡ 0
  takes_none event h = grind (arith, nat_tests)

  still_one_leads : (event : What) (n : ℕ) → is_still event ≡ true → Leads n n (event ∷ [])
  still_one_leads event n h = grind (arith, nat_tests, one_leads, takes_none)

  still_leads : {events : List What} → AreSaid is_still events → (n : ℕ) → Leads n n events
  still_leads said_none n = record { allowed = refl; is = refl }
  still_leads (said_more {event = event} {events = events} h hs) n = leads_both n n n (event ∷ []) events (still_one_leads event n h) (still_leads hs n)

  -- steps of a release
  step_leads : (step : Step) → IsReleaseStep step → (s : Scene) (n k : ℕ) → n ≡ says item owner (step ∷ []) + k → Leads n k (step_done step s).events
  step_leads (Said event) h s n k e = grind (arith, nat_tests, one_leads)
  step_leads (GivesBack other) h s n k e =
      let q : Quiet s (given_back other s).scene (given_back other s).events = (given_quiet other).so s in
      let z : Leads n n (given_back other s).events = still_leads (said_weaker aside_still q.said) n in
      record { allowed = z.allowed; is = z.is ∙ omega (arith, e) }
  step_leads (ReleasesLocks o) h s n k e = let z = still_leads (said_lock_releases (λ object mode count by. refl) o s.session.locks) n in record { allowed = z.allowed; is = z.is ∙ omega (arith, e) }
  step_leads (PassesLocks from to) h s n k e = let z = still_leads (said_lock_passes (λ object mode count by to. refl) from to s.session.locks) n in record { allowed = z.allowed; is = z.is ∙ omega (arith, e) }
  step_leads (ReleasesAllLocks top) h s n k e = let z = still_leads (said_all_locks (λ object mode count by. refl) top s.session.locks) n in record { allowed = z.allowed; is = z.is ∙ omega (arith, e) }

  steps_lead : (steps : List Step) → AreReleaseSteps steps → (s : Scene) (n k : ℕ) → n ≡ says item owner steps + k → Leads n k (for_each step_done steps s).events
  steps_lead [] no_step s n k e = record { allowed = refl; is = omega (arith, e) }
  steps_lead (step ∷ steps) (then_step h hs) s n k e =
      leads_both n (says item owner steps + k) k (step_done step s).events (for_each step_done steps (step_done step s).scene).events
      (step_leads step h s n (says item owner steps + k) (omega (arith, e)))
      (steps_lead steps hs (step_done step s).scene (says item owner steps + k) k refl)
  steps_lead (Said warning ∷ Said release ∷ steps) (warned_step {n = by} {item = other} hs) s n k e = grind (arith, nat_tests, steps_lead steps hs s (says item owner steps + k) k refl, leads_both, still_one_leads, step_leads)

  -- The law of the reader.
  abbrev pub Counted : Scene → Scene → List What → Type 0
  Counted = Reads reader (Counts item owner)

  reads_by : (s t : Scene) (events : List What) → (AreNumbered s.session.owners s.session.next_owner → AreNumbered t.session.owners t.session.next_owner)
      → (AreNumbered s.session.owners s.session.next_owner → Leads (has_it item owner s.session.owners) (has_it item owner t.session.owners) events) → Counted s t events
  reads_by s t events numbered leads = grind (arith, nat_tests)

  -- where owners stay, or hold the item as often as before
  still_reads : (s t : Scene) {events : List What} → (AreNumbered s.session.owners s.session.next_owner → AreNumbered t.session.owners t.session.next_owner)
      → (AreNumbered s.session.owners s.session.next_owner → has_it item owner t.session.owners ≡ has_it item owner s.session.owners) → AreSaid is_still events → Counted s t events
  still_reads s t {events = events} numbered same h =
      reads_by s t events numbered
      (λ k. let z = still_leads h (has_it item owner s.session.owners) in record { allowed = z.allowed; is = z.is ∙ sym (same k) })

  pub aside_reads : (s t : Scene) {events : List What} → t.session.owners ≡ s.session.owners → t.session.next_owner ≡ s.session.next_owner → AreSaid is_still events → Counted s t events
  aside_reads s t owners next h = grind (arith, nat_tests, still_reads)

  -- an owner is made
  pub made_reads : (parent : Option ℕ) (s : Scene) → Counted s (owner_made parent s).scene (owner_made parent s).events
  made_reads parent s = search (arith, still_reads, numbered_created, it_created, said_one, made_still)

  -- an item is given back
  abbrev forgets : ℕ → KindId → ℕ → Scene → Scene
  forgets n kind key s = record s { session = record s.session { owners = forgotten n kind key s.session.owners } }

  forgotten_at : (n : ℕ) (kind : KindId) (key : ℕ) (old : Item) (a : Owner) (s : Scene) → at n s.session.owners ≡ Some a → find (is_of kind key) a.items ≡ Some old → Counted s (forgets n kind key s) (what.Release old n ∷ [])
  forgotten_at n kind key old a s there found =
      let x : OwnerTree = s.session.owners in
      let one : ℕ = cond (is_it item owner n old) 1 0 in
      reads_by s (forgets n kind key s) (what.Release old n ∷ [])
      (numbered_changed n (λ (o : Owner). record o { items = without_newest (is_of kind key) o.items }) x s.session.next_owner)
      (λ k.
      let sum : has_it item owner (forgotten n kind key x) + one ≡ has_it item owner x = it_forgotten item owner n kind key old a x k.once there found in
      let l : Leads (has_it item owner x) ((has_it item owner x + 0) - one) (what.Release old n ∷ []) = one_leads (what.Release old n) (has_it item owner x) 0 one refl refl (omega (arith, sum)) in
      record { allowed = l.allowed; is = l.is ∙ omega (arith, sum) })

  pub forgotten_reads : (n : ℕ) (kind : KindId) (key : ℕ) (old : Item) (s : Scene) → newest n kind key s.session ≡ Some old → Counted s (forgets n kind key s) (what.Release old n ∷ [])
  forgotten_reads n kind key old s found = grind (arith, nat_tests, at_some, forgotten_at, at_absent)

  -- an owner that is there takes an item
  pub remembered_reads : (n : ℕ) (kind : KindId) (key : ℕ) (s : Scene) → has n s.session.owners ≡ true → Counted s (remembers n kind key s).scene (remembers n kind key s).events
  remembered_reads n kind key s there =
      let x : OwnerTree = s.session.owners in
      let new : Item = record { kind = kind; key = key; serial = s.session.next_serial } in
      let one : ℕ = cond (is_it item owner n new) 1 0 in
      let a = at_some n x there in
      reads_by s (remembers n kind key s).scene (what.Acquire new n ∷ [])
      (numbered_changed n (λ (o : Owner). record o { items = new ∷ o.items }) x s.session.next_owner)
      (λ k.
      let sum : has_it item owner (remembered n new x) ≡ has_it item owner x + one = it_remembered item owner n new a.0 x k.once a.1 in
      let l : Leads (has_it item owner x) ((has_it item owner x + one) - 0) (what.Acquire new n ∷ []) = one_leads (what.Acquire new n) (has_it item owner x) one 0 refl refl (omega arith) in
      record { allowed = l.allowed; is = l.is ∙ omega (arith, sum) })

  -- a phase of a release
  pub phase_reads : (commit top : Bool) (n : ℕ) (phase : Phase) (s : Scene) → Counted s (phase_released commit top n phase s).scene (phase_released commit top n phase s).events
  phase_reads commit top n phase s =
      let x : OwnerTree = s.session.owners in
      let table : KindTable = table_of s.around.kinds in
      let steps : List Step = release_steps table phase commit top n x in
      let z : Scene = (for_each step_done steps s).scene in
      let stay : Stays s z = steps_stay steps s in
      let owners : (phase_released commit top n phase s).scene.session.owners ≡ released table phase n x = ap (released table phase n) stay.owners in
      reads_by s (phase_released commit top n phase s).scene (phase_released commit top n phase s).events
      (λ k. subst (λ (y : OwnerTree). AreNumbered y z.session.next_owner) (sym owners) (subst (AreNumbered (released table phase n x)) (sym stay.next_owner) (numbered_swept (own_released table phase) n x s.session.next_owner k)))
      (λ k.
      let sum : says item owner steps + has_it item owner (released table phase n x) ≡ has_it item owner x = says_phase item owner table phase commit top n x k.once in
      let behind : ℕ = has_it item owner (phase_released commit top n phase s).scene.session.owners in
      let same : behind ≡ has_it item owner (released table phase n x) = ap (has_it item owner) owners in
      leads_both (has_it item owner x) behind behind (for_each step_done steps s).events []
      (steps_lead steps (phase_release table phase commit top n x) s (has_it item owner x) behind (omega (arith, sum, same)))
      (record { allowed = refl; is = refl }))

  -- owners go that hold nothing, and an owner moves
  pub discarded_reads : (n : ℕ) (s : Scene) → AllAt HoldsNothing n s.session.owners → Counted s (owner_gone n s).scene (owner_gone n s).events
  discarded_reads n s idle =
      still_reads s (owner_gone n s).scene (numbered_removed n s.session.owners s.session.next_owner)
      (λ k. it_removed item owner n s.session.owners k.once idle) (said_map (λ (m : ℕ). what.OwnerGone m) (λ m. refl) (order_at n s.session.owners))

  pub moved_reads : (n q : ℕ) (s : Scene) → Moves n q s.session.owners → Counted s (owner_moved n q s).scene (owner_moved n q s).events
  moved_reads n q s w =
      still_reads s (owner_moved n q s).scene (λ k. numbered_moved n q s.session.owners s.session.next_owner k w)
      (λ k. it_moved item owner n q s.session.owners k.once w) (said_one (what.MoveOwner n q) refl)

-- Items are numbered as they are acquired.

-- an event that acquires no item
abbrev is_past : What → Bool
is_past (what.Acquire item owner) = false
is_past other = true

-- Such events are allowed, and change no number.

past_passes : {events : List What} → AreSaid is_past events → (n : ℕ) → (allows_all numbering n events ≡ true) × (seen_after numbering n events ≡ n)
past_passes said_none n = (refl, refl)
past_passes (said_more {event = event} {events = events} h hs) n = grind (arith, nat_tests, past_passes hs n, and_from)

-- The reader has seen the number of the next item.
abbrev pub IsNext : ℕ → Scene → Type 0
IsNext n s = n ≡ s.session.next_serial

abbrev Numbers : Law
Numbers = Reads numbering IsNext

past_reads : (s t : Scene) {events : List What} → t.session.next_serial ≡ s.session.next_serial → AreSaid is_past events → Numbers s t events
past_reads s t same h = record { so = λ n is. let p = past_passes h n in record { allowed = p.0; fits = p.1 ∙ is ∙ sym same } }

abbrev sees_serial : Part → Bool
sees_serial of_next_serial = true
sees_serial other = false

number_sight : Sight sees_serial is_past Numbers
number_sight = record { both = λ a b. read_both numbering IsNext a b; aside = λ s t same h. past_reads s t (same.so of_next_serial refl) h }

usual_past : (event : What) → is_usual event ≡ true → is_past event ≡ true
usual_past event h = grind (arith, nat_tests)

number_usual : Usual sees_serial is_past
number_usual = assumption usual_past

number_ends : EndLeaves Numbers
number_ends = grind (arith, nat_tests, plain_ends, number_sight, number_usual, unseen_keys, unseen_owners)

number_makes : MakeLeaves Numbers
number_makes = usual_makes number_sight number_usual (λ n parent name. refl) refl (owner_makes sees_serial is_past Numbers number_sight refl refl (λ n. refl) (λ n parent. refl))

-- what a line and an exit owe
pub numbers_turns : OwesTurns (Reads numbering IsNext)
numbers_turns = owes_by Numbers number_ends number_makes (λ error s. past_reads s s refl (said_one (what.Error error) refl)) (λ w x m meets. moves_owed Numbers number_ends.levels.leaves.acts (usual_moves number_sight number_usual) w x m)

pub numbers_exit : Keeps Numbers (say what.Exit)
numbers_exit = record { so = λ s. past_reads s s refl (said_one what.Exit refl) }

-- Each item that is acquired is released once, by its owner: what a line and an exit owe for that.

usual_still : (event : What) → is_usual event ≡ true → is_still event ≡ true
usual_still event h = grind (arith, nat_tests)

usual : Usual sees_owners is_still
usual = assumption usual_still

-- what counts an item besides its owner leaves owners alone
taken_stays : (keeper : Keeper) (key : ℕ) (s : Scene) → (taken_by keeper key s).scene.session.owners ≡ s.session.owners
taken_stays keeper key s = grind (arith, nat_tests)

module _ (item : Item) (owner : ℕ) where
  abbrev R : Law
  R = Counted item owner

  abbrev sight : Sight sees_owners is_still R
  sight = record { both = λ a b. read_both (reader item owner) (Counts item owner) a b; aside = λ s t same h. aside_reads item owner s t (same.so of_owners refl) (same.so of_next_owner refl) h }

  keys : KeyLeaves R
  keys = unseen_keys sees_owners is_still R sight refl

  levels : LevelLeaves R
  levels = usual_levels sight usual keys refl (level_words is_still (λ level. (refl, refl, refl, refl))) (λ n kind key old s found. forgotten_reads item owner n kind key old s found)

  -- an item is taken by an owner that is there
  item_taken_so : (n : ℕ) (kind : KindId) (key : ℕ) (s : Scene) → has n s.session.owners ≡ true → R s (item_taken n kind key s).scene (item_taken n kind key s).events
  item_taken_so n kind key s there =
      let z : Scene = (taken_by (keeper_of kind) key s).scene in
      sight.both ((takes sees_owners is_still R sight refl refl (usual_files sight usual) keys (keeper_of kind) key).so s)
      (sight.both (remembered_reads item owner n kind key z (ap (has n) (taken_stays (keeper_of kind) key s) ∙ there)) (levels.leaves.acts.none _))

  pub counts_turns : OwesTurns (Reads (reader item owner) (Counts item owner))
  counts_turns =
      owes_where R
      (record {
        levels = levels;
        makes = usual_makes sight usual (λ n parent name. refl) refl (λ parent. record { so = made_reads item owner parent });
        taken = item_taken_so;
        phase = λ commit top n phase. record { so = phase_reads item owner commit top n phase };
        gone = λ n s may. discarded_reads item owner n s may.idle;
        moved = moved_reads item owner;
      })
      (λ error s. aside_reads item owner s s refl refl (said_one (what.Error error) refl)) (λ w x m meets. moves_owed R levels.leaves.acts (usual_moves sight usual) w x m)

  -- the end of a session says nothing of items
  pub counts_exit : Keeps R (say what.Exit)
  counts_exit = record { so = λ s. aside_reads item owner s s refl refl (said_one what.Exit refl) }

  -- a session begins without owners
  pub counts_open : (around : Around) → Counts item owner 0 (record { session = opening; around = around })
  unfolding opening
  counts_open around = grind (arith, nat_tests)

  pub counts_elsewhere : (n : ℕ) (session : SessionState) (a b : Around) → Counts item owner n (record { session = session; around = a }) → Counts item owner n (record { session = session; around = b })
  counts_elsewhere n session a b h = record { numbered = h.numbered; is = h.is }

  -- and where it has ended nothing is left
  pub counts_ended : (n : ℕ) (s : Scene) → HasExited s → Counts item owner n s → n ≡ 0
  counts_ended n s h fits = fits.is ∙ ap (has_it item owner) h.owners

-- In the life of a session items are numbered as they are acquired, and each item that an owner acquires it releases once, and no other.

-- what there is in the end: nothing
abbrev pub IsNone : ℕ → Type 0
IsNone n = n ≡ 0

-- of each item and owner
pub items_life : (kinds : KindTable) (item : Item) (owner : ℕ) → IsLife kinds (reader item owner) (Counts item owner) 0 IsNone
items_life kinds item owner = search (arith, life_by, counts_turns, counts_open, counts_elsewhere, counts_exit, counts_ended)

-- of a session that has just opened there is nothing either
numbers_open : (around : Around) → IsNext 1 (record { session = opening; around = around })
unfolding opening
numbers_open around = refl

-- of the numbers; what there is in the end doesn't matter
abbrev pub IsSome : ℕ → Type 0
IsSome n = Unit {0}

pub numbers_life : (kinds : KindTable) → IsLife kinds numbering IsNext 1 IsSome
numbers_life kinds =
    life_by kinds numbering IsNext 1 IsSome numbers_turns (λ around is. numbers_open around) (λ n session a b same h. h) numbers_exit (λ n s h fits. tt)

-- what the law says then of a list of events
pub items_balance : (item : Item) (owner : ℕ) (events : List What) → allows_all (reader item owner) 0 events ≡ true → IsNone (seen_after (reader item owner) 0 events)
    → BalancesFrom 0 (acquires item owner) (releases item owner) events
items_balance item owner events allowed none = grind (arith, nat_tests, and_from, covers, left, eq-eqb)
