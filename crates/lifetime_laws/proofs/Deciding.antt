-- The tests decide the laws.
use Rattle.std.proofs.Common.{◌≡◌, ℕ, ◌+◌, ◌-◌, ◌<◌, ◌≤◌, zero, suc, Bool, true, false, not, ◌&&◌, List, [], ◌∷◌, refl, sym, ◌∙◌, ap, subst, inl, inr, ◌⊎◌, arith}
use Rattle.std.specs.Prelude.{◌==◌, nat_le, if◌then◌else◌, Decides, IsTrue}
use Rattle.std.specs.List.{list_all, range_with_len}
use Rattle.std.proofs.lemmas.Bool.{cases_Bool, and_parts, and_from, or_cases, or_left, or_right, eqb-true, eq-eqb, le-leb, both_ways, false≢true}
use Rattle.pgs_step.specs.declared.ids.Item.{Item}
use Rattle.pgs_step.specs.declared.ids.KindId.{KindId}
use Rattle.pgs_step.specs.declared.events.Event.{Event}
use Rattle.pgs_step.specs.declared.events.What.{What}
use Rattle.pgs_step.specs.declared.events.What.TheVariants as what
use Rattle.pgs_step.specs.Mode.{mode_number}
use Rattle.owner_kinds.specs.KindTable.{KindTable}
use Rattle.lifetime_laws.specs.Reading.{events_of, is_one_of, sessions_of}
use Rattle.lifetime_laws.specs.Balance.{balances_from, covers, left}
use Rattle.lifetime_laws.specs.Once.{IsReleasedOnce, ReleasesOnce, acquires, closes, deletes, discards, exits_last, goes_childless, happens, has_context, is_first_context, is_released_once, locks, makes_context, makes_owner, nothing, numbers_items, one_where, opens, pops_newest, releases, releases_once, same_item, settles, unlocks}
use Rattle.lifetime_laws.specs.Made.{IsMadeOnce, MakesOnce, context_made_once, is_made_well, makes_once, owner_made_once}
use Rattle.lifetime_laws.specs.Order.{ReleasesInOrder, is_released_in_order, releases_by_order, releases_in_order, warns_of_releases}
use Rattle.lifetime_laws.specs.Inside.{StaysInside, is_inside, stays_inside}
use Rattle.lifetime_laws.specs.Called.{CallsBack, all_differ, calls_back, is_called, words_in}
use Rattle.lifetime_laws.specs.Laws.{IsLawful, is_lawful}
use Rattle.lifetime_laws.proofs.Readings.{no_events}

-- ---- lists

-- what holds of all of a list holds of one of it
abbrev at_one : (f : ℕ → Bool) (ns : List ℕ) (n : ℕ) → list_all f ns ≡ true → is_one_of n ns ≡ true → f n ≡ true
at_one f [] n h i = absurd (false≢true i)
at_one f (m ∷ ns) n h i =
    let p : (f m ≡ true) × (list_all f ns ≡ true) = and_parts (f m) (list_all f ns) h in
    elim (or_cases (m == n) (is_one_of n ns) i) [
      | inl e ↦ let P : ℕ → Type 0 = λ k. f k ≡ true in subst P (eqb-true m n e) p.0
      | inr j ↦ at_one f ns n p.1 j
    ]

all_of : {X : Type 0} (f : X → Bool) → ((x : X) → f x ≡ true) → (xs : List X) → list_all f xs ≡ true
all_of f h [] = refl
all_of f h (x ∷ xs) = and_from (f x) (list_all f xs) (h x) (all_of f h xs)

in_range : (k a n : ℕ) → a ≤ n → n < a + k → is_one_of n (range_with_len a k) ≡ true
in_range zero a n h l = absurd (omega (arith, h, l))
in_range (suc k) a n h l = elim (cases_Bool (a == n)) [
  | inl y ↦ or_left (a == n) (is_one_of n (range_with_len (a + 1) k)) y
  | inr z ↦
      let differ : a ≡ n → ⊥ = λ e. both_ways (a == n) z (eq-eqb a n e) in
      or_right (a == n) (is_one_of n (range_with_len (a + 1) k)) (in_range k (a + 1) n (omega (arith, h, differ)) (omega (arith, l)))
]

range_all : (f : ℕ → Bool) (k a : ℕ) → ((n : ℕ) → a ≤ n → n < a + k → f n ≡ true) → list_all f (range_with_len a k) ≡ true
range_all f zero a h = refl
range_all f (suc k) a h =
    and_from (f a) (list_all f (range_with_len (a + 1) k)) (h a (omega arith) (omega arith))
    (range_all f k (a + 1) (λ n l m. h n (omega (arith, l)) (omega (arith, m))))

-- ---- sessions

-- a test holds of the events of each session where it holds of those that occur, and of no events
each_session : (test : List What → Bool) → test [] ≡ true → (events : List Event) → Decides (list_all (λ n. test (events_of n events)) (sessions_of events)) ((n : ℕ) → IsTrue (test (events_of n events)))
each_session test empty events = (every, λ h. all_of (λ n. test (events_of n events)) h (sessions_of events))
  where
    every : list_all (λ n. test (events_of n events)) (sessions_of events) ≡ true → (n : ℕ) → test (events_of n events) ≡ true
    every h n = elim (cases_Bool (is_one_of n (sessions_of events))) [
      | inl y ↦ at_one (λ n. test (events_of n events)) (sessions_of events) n h y
      | inr z ↦ ap test (no_events n events z) ∙ empty
    ]

-- the same of the sessions of a run
each_of : (test : List What → Bool) (P : List What → Type 0) → ((whats : List What) → Decides (test whats) (P whats)) → (sessions : ℕ) (events : List Event) → Decides (list_all (λ n. test (events_of n events)) (range_with_len 1 sessions)) ((n : ℕ) → 1 ≤ n → n ≤ sessions → P (events_of n events))
each_of test P decides sessions events = (
  λ h n l m. (decides (events_of n events)).0 (at_one (λ n. test (events_of n events)) (range_with_len 1 sessions) n h (in_range sessions 1 n l (omega (arith, m)))),
  λ h. range_all (λ n. test (events_of n events)) sessions 1 (λ n l m. (decides (events_of n events)).1 (h n l (omega (arith, m)))),
)

-- ---- balances

abbrev is_quiet : (What → ℕ) → (What → ℕ) → What → Bool
is_quiet brings takes e = (brings e == 0) && (takes e == 0)

still : (x y n : ℕ) → x ≡ 0 → y ≡ 0 → (n + x) - y ≡ n
still x y n h k = omega (arith, h, k)

nothing_taken : (y n : ℕ) → y ≡ 0 → nat_le y n ≡ true
nothing_taken y n k = le-leb y n (omega (arith, k))

-- events that neither bring nor take
quiet_covers : (brings takes : What → ℕ) (n : ℕ) (es : List What) → list_all (is_quiet brings takes) es ≡ true → covers brings takes n es ≡ true
quiet_covers brings takes n [] h = refl
quiet_covers brings takes n (e ∷ es) h =
    let p : (is_quiet brings takes e ≡ true) × (list_all (is_quiet brings takes) es ≡ true) = and_parts (is_quiet brings takes e) (list_all (is_quiet brings takes) es) h in
    let q : ((brings e == 0) ≡ true) × ((takes e == 0) ≡ true) = and_parts (brings e == 0) (takes e == 0) p.0 in
    let b : brings e ≡ 0 = eqb-true (brings e) 0 q.0 in
    let t : takes e ≡ 0 = eqb-true (takes e) 0 q.1 in
    let P : ℕ → Type 0 = λ m. covers brings takes m es ≡ true in
    and_from (nat_le (takes e) n) (covers brings takes ((n + brings e) - takes e) es) (nothing_taken (takes e) n t)
    (subst P (sym (still (brings e) (takes e) n b t)) (quiet_covers brings takes n es p.1))

quiet_left : (brings takes : What → ℕ) (n : ℕ) (es : List What) → list_all (is_quiet brings takes) es ≡ true → left brings takes n es ≡ n
quiet_left brings takes n [] h = refl
quiet_left brings takes n (e ∷ es) h =
    let p : (is_quiet brings takes e ≡ true) × (list_all (is_quiet brings takes) es ≡ true) = and_parts (is_quiet brings takes e) (list_all (is_quiet brings takes) es) h in
    let q : ((brings e == 0) ≡ true) × ((takes e == 0) ≡ true) = and_parts (brings e == 0) (takes e == 0) p.0 in
    let b : brings e ≡ 0 = eqb-true (brings e) 0 q.0 in
    let t : takes e ≡ 0 = eqb-true (takes e) 0 q.1 in
    ap (λ m. left brings takes m es) (still (brings e) (takes e) n b t) ∙ quiet_left brings takes n es p.1

quiet_balances : (brings takes : What → ℕ) (es : List What) → list_all (is_quiet brings takes) es ≡ true → balances_from 0 brings takes es ≡ true
quiet_balances brings takes es h =
    and_from (covers brings takes 0 es) (left brings takes 0 es == 0) (quiet_covers brings takes 0 es h) (eq-eqb (left brings takes 0 es) 0 (quiet_left brings takes 0 es h))

-- where each event either shows a goal or does nothing, the goal is shown or nothing is done
shown_or_quiet : (test quiet : What → Bool) (goal : Bool) → ((e : What) → test e ≡ true → (goal ≡ true) ⊎ (quiet e ≡ true)) → (es : List What) → list_all test es ≡ true → (goal ≡ true) ⊎ (list_all quiet es ≡ true)
shown_or_quiet test quiet goal each [] h = inr refl
shown_or_quiet test quiet goal each (e ∷ es) h =
    let p : (test e ≡ true) × (list_all test es ≡ true) = and_parts (test e) (list_all test es) h in
    elim (each e p.0) [
      | inl g ↦ inl g
      | inr q ↦ elim (shown_or_quiet test quiet goal each es p.1) [ inl g ↦ inl g | inr r ↦ inr (and_from (quiet e) (list_all quiet es) q r) ]
    ]

-- where each event of a sort shows a goal, and one of them happens, the goal is shown
shown_by_one : (test : What → Bool) (how : What → ℕ) (goal : Bool) → ((e : What) → test e ≡ true → (how e == 1) ≡ true → goal ≡ true) → (es : List What) → list_all test es ≡ true → happens how es ≡ true → goal ≡ true
shown_by_one test how goal each [] h k = absurd (false≢true k)
shown_by_one test how goal each (e ∷ es) h k =
    let p : (test e ≡ true) × (list_all test es ≡ true) = and_parts (test e) (list_all test es) h in
    elim (or_cases (how e == 1) (happens how es) k) [
      | inl y ↦ each e p.0 y
      | inr z ↦ shown_by_one test how goal each es p.1 z
    ]

one_where_not : (b : Bool) → b ≡ false → (one_where b == 0) ≡ true
one_where_not b h = let P : Bool → Type 0 = λ b. (one_where b == 0) ≡ true in subst P (sym h) refl

one_where_so : (b : Bool) → (one_where b == 1) ≡ true → b ≡ true
one_where_so true h = refl
one_where_so false h = absurd (false≢true h)

-- ---- items

abbrev the_item : ℕ → ℕ → ℕ → Item
the_item kind key serial = let id : KindId = record { 0 = kind } in record { kind = id; key = key; serial = serial }

same_item-true : (a b : Item) → same_item a b ≡ true → a ≡ b
same_item-true a b h =
    let p : ((a.kind.0 == b.kind.0) ≡ true) × (((a.key == b.key) && (a.serial == b.serial)) ≡ true) = and_parts (a.kind.0 == b.kind.0) ((a.key == b.key) && (a.serial == b.serial)) h in
    let q : ((a.key == b.key) ≡ true) × ((a.serial == b.serial) ≡ true) = and_parts (a.key == b.key) (a.serial == b.serial) p.1 in
    ap (λ k. the_item k a.key a.serial) (eqb-true a.kind.0 b.kind.0 p.0)
    ∙ ap (λ k. the_item b.kind.0 k a.serial) (eqb-true a.key b.key q.0)
    ∙ ap (λ s. the_item b.kind.0 b.key s) (eqb-true a.serial b.serial q.1)

abbrev item_settles : List What → Item → ℕ → Bool
item_settles events item owner = balances_from 0 (acquires item owner) (releases item owner) events

item_along : (events : List What) (item other : Item) (owner by : ℕ) → (same_item item other && (owner == by)) ≡ true → item_settles events other by ≡ true → item_settles events item owner ≡ true
item_along events item other owner by s h =
    let p : (same_item item other ≡ true) × ((owner == by) ≡ true) = and_parts (same_item item other) (owner == by) s in
    let P : Item → Type 0 = λ i. item_settles events i owner ≡ true in
    let Q : ℕ → Type 0 = λ o. item_settles events other o ≡ true in
    subst P (sym (same_item-true item other p.0)) (subst Q (sym (eqb-true owner by p.1)) h)

item_each : (events : List What) (item : Item) (owner : ℕ) (e : What) → settles events e ≡ true → (item_settles events item owner ≡ true) ⊎ (is_quiet (acquires item owner) (releases item owner) e ≡ true)
item_each events item owner (what.Acquire other by) h = elim (cases_Bool (same_item item other && (owner == by))) [
  | inl y ↦ inl (item_along events item other owner by y h)
  | inr z ↦ inr (and_from (one_where (same_item item other && (owner == by)) == 0) true (one_where_not (same_item item other && (owner == by)) z) refl)
]
item_each events item owner (what.Release other by) h = elim (cases_Bool (same_item item other && (owner == by))) [
  | inl y ↦ inl (item_along events item other owner by y h)
  | inr z ↦ inr (one_where_not (same_item item other && (owner == by)) z)
]
item_each events item owner other h = inr refl

items_settle : (events : List What) → list_all (settles events) events ≡ true → (item : Item) (owner : ℕ) → item_settles events item owner ≡ true
items_settle events h item owner =
    elim (shown_or_quiet (settles events) (is_quiet (acquires item owner) (releases item owner)) (item_settles events item owner) (item_each events item owner) events h) [
      | inl g ↦ g
      | inr q ↦ quiet_balances (acquires item owner) (releases item owner) events q
    ]

-- ---- locks

abbrev lock_settles : List What → ℕ → ℕ → Bool
lock_settles events object mode = balances_from 0 (locks object mode) (unlocks object mode) events

lock_along : (events : List What) (object other mode by : ℕ) → ((object == other) && (mode == by)) ≡ true → lock_settles events other by ≡ true → lock_settles events object mode ≡ true
lock_along events object other mode by s h =
    let p : ((object == other) ≡ true) × ((mode == by) ≡ true) = and_parts (object == other) (mode == by) s in
    let P : ℕ → Type 0 = λ o. lock_settles events o mode ≡ true in
    let Q : ℕ → Type 0 = λ m. lock_settles events other m ≡ true in
    subst P (sym (eqb-true object other p.0)) (subst Q (sym (eqb-true mode by p.1)) h)

count_where_not : (b : Bool) (n : ℕ) → b ≡ false → ((if b then n else 0) == 0) ≡ true
count_where_not b n h = let P : Bool → Type 0 = λ b. ((if b then n else 0) == 0) ≡ true in subst P (sym h) refl

lock_each : (events : List What) (object mode : ℕ) (e : What) → settles events e ≡ true → (lock_settles events object mode ≡ true) ⊎ (is_quiet (locks object mode) (unlocks object mode) e ≡ true)
lock_each events object mode (what.AcquireLock other by owner) h = elim (cases_Bool ((object == other) && (mode == mode_number by))) [
  | inl y ↦ inl (lock_along events object other mode (mode_number by) y h)
  | inr z ↦ inr (and_from (one_where ((object == other) && (mode == mode_number by)) == 0) true (one_where_not ((object == other) && (mode == mode_number by)) z) refl)
]
lock_each events object mode (what.ReleaseLock other by count owner) h = elim (cases_Bool ((object == other) && (mode == mode_number by))) [
  | inl y ↦ inl (lock_along events object other mode (mode_number by) y h)
  | inr z ↦ inr (count_where_not ((object == other) && (mode == mode_number by)) count z)
]
lock_each events object mode other h = inr refl

locks_settle : (events : List What) → list_all (settles events) events ≡ true → (object mode : ℕ) → lock_settles events object mode ≡ true
locks_settle events h object mode =
    elim (shown_or_quiet (settles events) (is_quiet (locks object mode) (unlocks object mode)) (lock_settles events object mode) (lock_each events object mode) events h) [
      | inl g ↦ g
      | inr q ↦ quiet_balances (locks object mode) (unlocks object mode) events q
    ]

-- ---- descriptors

abbrev file_settles : List What → ℕ → Bool
file_settles events file = balances_from 0 (opens file) (closes file) events && covers (closes file) (opens file) 1 events

file_each : (events : List What) (file : ℕ) (e : What) → settles events e ≡ true → (file_settles events file ≡ true) ⊎ ((is_quiet (opens file) (closes file) e && is_quiet (closes file) (opens file) e) ≡ true)
file_each events file (what.DescriptorOpened other) h = elim (cases_Bool (file == other)) [
  | inl y ↦ let P : ℕ → Type 0 = λ f. file_settles events f ≡ true in inl (subst P (sym (eqb-true file other y)) h)
  | inr z ↦ let P : Bool → Type 0 = λ b. (((one_where b == 0) && true) && (one_where b == 0)) ≡ true in inr (subst P (sym z) refl)
]
file_each events file (what.DescriptorClosed other) h = elim (cases_Bool (file == other)) [
  | inl y ↦ let P : ℕ → Type 0 = λ f. file_settles events f ≡ true in inl (subst P (sym (eqb-true file other y)) h)
  | inr z ↦ let P : Bool → Type 0 = λ b. ((one_where b == 0) && ((one_where b == 0) && true)) ≡ true in inr (subst P (sym z) refl)
]
file_each events file other h = inr refl

two_quiet : (f g : What → Bool) (es : List What) → list_all (λ e. f e && g e) es ≡ true → (list_all f es ≡ true) × (list_all g es ≡ true)
two_quiet f g [] h = (refl, refl)
two_quiet f g (e ∷ es) h =
    let p : ((f e && g e) ≡ true) × (list_all (λ e. f e && g e) es ≡ true) = and_parts (f e && g e) (list_all (λ e. f e && g e) es) h in
    let q : (f e ≡ true) × (g e ≡ true) = and_parts (f e) (g e) p.0 in
    let r : (list_all f es ≡ true) × (list_all g es ≡ true) = two_quiet f g es p.1 in
    (and_from (f e) (list_all f es) q.0 r.0, and_from (g e) (list_all g es) q.1 r.1)

files_settle : (events : List What) → list_all (settles events) events ≡ true → (file : ℕ) → file_settles events file ≡ true
files_settle events h file =
    elim (shown_or_quiet (settles events) (λ e. is_quiet (opens file) (closes file) e && is_quiet (closes file) (opens file) e) (file_settles events file) (file_each events file) events h) [
      | inl g ↦ g
      | inr q ↦
          let r : (list_all (is_quiet (opens file) (closes file)) events ≡ true) × (list_all (is_quiet (closes file) (opens file)) events ≡ true) = two_quiet (is_quiet (opens file) (closes file)) (is_quiet (closes file) (opens file)) events q in
          and_from (balances_from 0 (opens file) (closes file) events) (covers (closes file) (opens file) 1 events) (quiet_balances (opens file) (closes file) events r.0) (quiet_covers (closes file) (opens file) 1 events r.1)
    ]

-- ---- contexts and owners that go

abbrev context_settles : List What → ℕ → Bool
context_settles events context = balances_from 1 nothing (deletes context) events

made_context : (events : List What) (context : ℕ) (e : What) → settles events e ≡ true → (makes_context context e == 1) ≡ true → context_settles events context ≡ true
made_context events context (what.Create other name parent) h k =
    let P : ℕ → Type 0 = λ c. context_settles events c ≡ true in
    subst P (sym (eqb-true context other (one_where_so (context == other) k))) h
made_context events context other h k = absurd (false≢true k)

contexts_settle : (events : List What) → list_all (settles events) events ≡ true → list_all (context_settles events) (range_with_len 1 5) ≡ true → (context : ℕ) → has_context context events ≡ true → context_settles events context ≡ true
contexts_settle events h first context k = elim (or_cases (is_first_context context) (happens (makes_context context) events) k) [
  | inl y ↦ at_one (context_settles events) (range_with_len 1 5) context first y
  | inr z ↦ shown_by_one (settles events) (makes_context context) (context_settles events context) (made_context events context) events h z
]

abbrev owner_settles : List What → ℕ → Bool
owner_settles events owner = balances_from 1 nothing (discards owner) events

made_owner : (events : List What) (owner : ℕ) (e : What) → settles events e ≡ true → (makes_owner owner e == 1) ≡ true → owner_settles events owner ≡ true
made_owner events owner (what.Owner other) h k =
    let P : ℕ → Type 0 = λ o. owner_settles events o ≡ true in subst P (sym (eqb-true owner other (one_where_so (owner == other) k))) h
made_owner events owner (what.OwnerIn other parent) h k =
    let P : ℕ → Type 0 = λ o. owner_settles events o ≡ true in subst P (sym (eqb-true owner other (one_where_so (owner == other) k))) h
made_owner events owner other h k = absurd (false≢true k)

-- ---- the first law

settled : (events : List What) → IsReleasedOnce events → (es : List What) → ((how : What → ℕ) → happens how es ≡ true → happens how events ≡ true) → list_all (settles events) es ≡ true
settled events law [] among = refl
settled events law (e ∷ es) among =
    and_from (settles events e) (list_all (settles events) es) (one e (λ how k. among how (or_left (how e == 1) (happens how es) k)))
    (settled events law es (λ how k. among how (or_right (how e == 1) (happens how es) k)))
  where
    self : (n : ℕ) → (one_where (n == n) == 1) ≡ true
    self n = let P : Bool → Type 0 = λ b. (one_where b == 1) ≡ true in subst P (sym (eq-eqb n n refl)) refl

    one : (e : What) → ((how : What → ℕ) → (how e == 1) ≡ true → happens how events ≡ true) → settles events e ≡ true
    one (what.Acquire item owner) k = law.items item owner
    one (what.Release item owner) k = law.items item owner
    one (what.AcquireLock object mode owner) k = law.locks object (mode_number mode)
    one (what.ReleaseLock object mode count owner) k = law.locks object (mode_number mode)
    one (what.DescriptorOpened file) k = and_from (balances_from 0 (opens file) (closes file) events) (covers (closes file) (opens file) 1 events) (law.descriptors file) (law.turns file)
    one (what.DescriptorClosed file) k = and_from (balances_from 0 (opens file) (closes file) events) (covers (closes file) (opens file) 1 events) (law.descriptors file) (law.turns file)
    one (what.Create context name parent) k = law.contexts context (or_right (is_first_context context) (happens (makes_context context) events) (k (makes_context context) (self context)))
    one (what.Owner owner) k = law.owners owner (k (makes_owner owner) (self owner))
    one (what.OwnerIn owner parent) k = law.owners owner (k (makes_owner owner) (self owner))
    one other k = refl

first_go : (events : List What) → IsReleasedOnce events → (n : ℕ) → is_one_of n (range_with_len 1 5) ≡ true → context_settles events n ≡ true
first_go events law n k = law.contexts n (or_left (is_first_context n) (happens (makes_context n) events) k)

is_released_once-decides : (events : List What) → Decides (is_released_once events) (IsReleasedOnce events)
is_released_once-decides events = (apart, together)
  where
    apart : is_released_once events ≡ true → IsReleasedOnce events
    apart h =
        let a : (numbers_items events ≡ true) × ((list_all (settles events) events && (pops_newest events && (list_all (context_settles events) (range_with_len 1 5) && (goes_childless events && exits_last events)))) ≡ true) = and_parts (numbers_items events) (list_all (settles events) events && (pops_newest events && (list_all (context_settles events) (range_with_len 1 5) && (goes_childless events && exits_last events)))) h in
        let b : (list_all (settles events) events ≡ true) × ((pops_newest events && (list_all (context_settles events) (range_with_len 1 5) && (goes_childless events && exits_last events))) ≡ true) = and_parts (list_all (settles events) events) (pops_newest events && (list_all (context_settles events) (range_with_len 1 5) && (goes_childless events && exits_last events))) a.1 in
        let c : (pops_newest events ≡ true) × ((list_all (context_settles events) (range_with_len 1 5) && (goes_childless events && exits_last events)) ≡ true) = and_parts (pops_newest events) (list_all (context_settles events) (range_with_len 1 5) && (goes_childless events && exits_last events)) b.1 in
        let d : (list_all (context_settles events) (range_with_len 1 5) ≡ true) × ((goes_childless events && exits_last events) ≡ true) = and_parts (list_all (context_settles events) (range_with_len 1 5)) (goes_childless events && exits_last events) c.1 in
        let e : (goes_childless events ≡ true) × (exits_last events ≡ true) = and_parts (goes_childless events) (exits_last events) d.1 in
        record {
          numbers = a.0;
          items = items_settle events b.0;
          locks = locks_settle events b.0;
          descriptors = λ file. (and_parts (balances_from 0 (opens file) (closes file) events) (covers (closes file) (opens file) 1 events) (files_settle events b.0 file)).0;
          turns = λ file. (and_parts (balances_from 0 (opens file) (closes file) events) (covers (closes file) (opens file) 1 events) (files_settle events b.0 file)).1;
          snapshots = c.0;
          contexts = contexts_settle events b.0 d.0;
          owners = λ owner k. shown_by_one (settles events) (makes_owner owner) (owner_settles events owner) (made_owner events owner) events b.0 k;
          childless = e.0;
          exit = e.1;
        }

    together : IsReleasedOnce events → is_released_once events ≡ true
    together law =
        and_from (numbers_items events) (list_all (settles events) events && (pops_newest events && (list_all (context_settles events) (range_with_len 1 5) && (goes_childless events && exits_last events)))) law.numbers
        (and_from (list_all (settles events) events) (pops_newest events && (list_all (context_settles events) (range_with_len 1 5) && (goes_childless events && exits_last events))) (settled events law events (λ how k. k))
        (and_from (pops_newest events) (list_all (context_settles events) (range_with_len 1 5) && (goes_childless events && exits_last events)) law.snapshots
        (and_from (list_all (context_settles events) (range_with_len 1 5)) (goes_childless events && exits_last events) (range_all (context_settles events) 5 1 (λ n l m. first_go events law n (in_range 5 1 n l m)))
        (and_from (goes_childless events) (exits_last events) law.childless law.exit))))

pub releases_once-decides : (sessions : ℕ) (events : List Event) → Decides (releases_once sessions events) (ReleasesOnce sessions events)
releases_once-decides sessions events = each_of is_released_once IsReleasedOnce is_released_once-decides sessions events

-- ---- nothing is made twice

context_each : (events : List What) (context : ℕ) (e : What) → is_made_well events e ≡ true → (context_made_once context events ≡ true) ⊎ ((is_quiet nothing (makes_context context) e && is_quiet (makes_context context) (deletes context) e) ≡ true)
context_each events context (what.Create other name parent) h = elim (cases_Bool (context == other)) [
  | inl y ↦ let P : ℕ → Type 0 = λ c. context_made_once c events ≡ true in inl (subst P (sym (eqb-true context other y)) h)
  | inr z ↦ let P : Bool → Type 0 = λ b. ((one_where b == 0) && ((one_where b == 0) && true)) ≡ true in inr (subst P (sym z) refl)
]
context_each events context (what.Delete other) h = elim (cases_Bool (context == other)) [
  | inl y ↦ let P : ℕ → Type 0 = λ c. context_made_once c events ≡ true in inl (subst P (sym (eqb-true context other y)) h)
  | inr z ↦ let P : Bool → Type 0 = λ b. (one_where b == 0) ≡ true in inr (subst P (sym z) refl)
]
context_each events context other h = inr refl

owner_each : (events : List What) (owner : ℕ) (e : What) → is_made_well events e ≡ true → (owner_made_once owner events ≡ true) ⊎ ((is_quiet nothing (makes_owner owner) e && is_quiet (makes_owner owner) (discards owner) e) ≡ true)
owner_each events owner (what.Owner other) h = elim (cases_Bool (owner == other)) [
  | inl y ↦ let P : ℕ → Type 0 = λ o. owner_made_once o events ≡ true in inl (subst P (sym (eqb-true owner other y)) h)
  | inr z ↦ let P : Bool → Type 0 = λ b. ((one_where b == 0) && ((one_where b == 0) && true)) ≡ true in inr (subst P (sym z) refl)
]
owner_each events owner (what.OwnerIn other parent) h = elim (cases_Bool (owner == other)) [
  | inl y ↦ let P : ℕ → Type 0 = λ o. owner_made_once o events ≡ true in inl (subst P (sym (eqb-true owner other y)) h)
  | inr z ↦ let P : Bool → Type 0 = λ b. ((one_where b == 0) && ((one_where b == 0) && true)) ≡ true in inr (subst P (sym z) refl)
]
owner_each events owner (what.OwnerGone other) h = elim (cases_Bool (owner == other)) [
  | inl y ↦ let P : ℕ → Type 0 = λ o. owner_made_once o events ≡ true in inl (subst P (sym (eqb-true owner other y)) h)
  | inr z ↦ let P : Bool → Type 0 = λ b. (one_where b == 0) ≡ true in inr (subst P (sym z) refl)
]
owner_each events owner other h = inr refl

-- both counts are covered, whatever is there at first, by events that do neither
both_covered : (makes goes : What → ℕ) (n m : ℕ) (es : List What) → list_all (λ e. is_quiet nothing makes e && is_quiet makes goes e) es ≡ true → (covers nothing makes n es && covers makes goes m es) ≡ true
both_covered makes goes n m es h =
    let r : (list_all (is_quiet nothing makes) es ≡ true) × (list_all (is_quiet makes goes) es ≡ true) = two_quiet (is_quiet nothing makes) (is_quiet makes goes) es h in
    and_from (covers nothing makes n es) (covers makes goes m es) (quiet_covers nothing makes n es r.0) (quiet_covers makes goes m es r.1)

contexts_well : (events : List What) → list_all (is_made_well events) events ≡ true → (context : ℕ) → context_made_once context events ≡ true
contexts_well events h context =
    elim (shown_or_quiet (is_made_well events) (λ e. is_quiet nothing (makes_context context) e && is_quiet (makes_context context) (deletes context) e) (context_made_once context events) (context_each events context) events h) [
      | inl g ↦ g
      | inr q ↦ both_covered (makes_context context) (deletes context) (one_where (not (is_first_context context))) (one_where (is_first_context context)) events q
    ]

owners_well : (events : List What) → list_all (is_made_well events) events ≡ true → (owner : ℕ) → owner_made_once owner events ≡ true
owners_well events h owner =
    elim (shown_or_quiet (is_made_well events) (λ e. is_quiet nothing (makes_owner owner) e && is_quiet (makes_owner owner) (discards owner) e) (owner_made_once owner events) (owner_each events owner) events h) [
      | inl g ↦ g
      | inr q ↦ both_covered (makes_owner owner) (discards owner) 1 0 events q
    ]

context_parts : (context : ℕ) (events : List What) → context_made_once context events ≡ true → (covers nothing (makes_context context) (one_where (not (is_first_context context))) events ≡ true) × (covers (makes_context context) (deletes context) (one_where (is_first_context context)) events ≡ true)
context_parts context events h = and_parts (covers nothing (makes_context context) (one_where (not (is_first_context context))) events) (covers (makes_context context) (deletes context) (one_where (is_first_context context)) events) h

owner_parts : (owner : ℕ) (events : List What) → owner_made_once owner events ≡ true → (covers nothing (makes_owner owner) 1 events ≡ true) × (covers (makes_owner owner) (discards owner) 0 events ≡ true)
owner_parts owner events h = and_parts (covers nothing (makes_owner owner) 1 events) (covers (makes_owner owner) (discards owner) 0 events) h

is_made_once-decides : (events : List What) → Decides (list_all (is_made_well events) events) (IsMadeOnce events)
is_made_once-decides events = (
  λ h. record {
    contexts = λ context. (context_parts context events (contexts_well events h context)).0;
    contexts_go = λ context. (context_parts context events (contexts_well events h context)).1;
    owners = λ owner. (owner_parts owner events (owners_well events h owner)).0;
    owners_go = λ owner. (owner_parts owner events (owners_well events h owner)).1;
  },
  λ law. all_of (is_made_well events) (one law) events,
)
  where
    a_context : IsMadeOnce events → (context : ℕ) → context_made_once context events ≡ true
    a_context law context = and_from (covers nothing (makes_context context) (one_where (not (is_first_context context))) events) (covers (makes_context context) (deletes context) (one_where (is_first_context context)) events) (law.contexts context) (law.contexts_go context)

    an_owner : IsMadeOnce events → (owner : ℕ) → owner_made_once owner events ≡ true
    an_owner law owner = and_from (covers nothing (makes_owner owner) 1 events) (covers (makes_owner owner) (discards owner) 0 events) (law.owners owner) (law.owners_go owner)

    one : IsMadeOnce events → (e : What) → is_made_well events e ≡ true
    one law (what.Create context name parent) = a_context law context
    one law (what.Delete context) = a_context law context
    one law (what.Owner owner) = an_owner law owner
    one law (what.OwnerIn owner parent) = an_owner law owner
    one law (what.OwnerGone owner) = an_owner law owner
    one law other = refl

pub makes_once-decides : (sessions : ℕ) (events : List Event) → Decides (makes_once sessions events) (MakesOnce sessions events)
makes_once-decides sessions events = each_of (λ whats. list_all (is_made_well whats) whats) IsMadeOnce is_made_once-decides sessions events

-- ---- the other laws

pub releases_in_order-decides : (kinds : KindTable) (events : List Event) → Decides (releases_in_order kinds events) (ReleasesInOrder kinds events)
releases_in_order-decides kinds events =
    let both : Decides (releases_in_order kinds events) ((n : ℕ) → IsTrue (is_released_in_order kinds (events_of n events))) = each_session (is_released_in_order kinds) refl events in (
      λ h n. let p : (releases_by_order kinds (events_of n events) ≡ true) × (warns_of_releases (events_of n events) ≡ true) = and_parts (releases_by_order kinds (events_of n events)) (warns_of_releases (events_of n events)) (both.0 h n) in record { order = p.0; warnings = p.1 },
      λ law. both.1 (λ n. and_from (releases_by_order kinds (events_of n events)) (warns_of_releases (events_of n events)) (law n).order (law n).warnings),
    )

pub stays_inside-decides : (events : List Event) → Decides (stays_inside events) (StaysInside events)
stays_inside-decides events = each_session is_inside refl events

pub calls_back-decides : (events : List Event) → Decides (calls_back events) (CallsBack events)
calls_back-decides events =
    let both : Decides (list_all (λ n. is_called (events_of n events)) (sessions_of events)) ((n : ℕ) → IsTrue (is_called (events_of n events))) = each_session is_called refl events in
    let called : Bool = list_all (λ n. is_called (events_of n events)) (sessions_of events) in (
      λ h. let p : (called ≡ true) × (all_differ (words_in events) ≡ true) = and_parts called (all_differ (words_in events)) h in record { called = both.0 p.0; words = p.1 },
      λ law. and_from called (all_differ (words_in events)) (both.1 law.called) law.words,
    )

-- a list of events is lawful where the test says so, and only there
pub is_lawful-decides : (kinds : KindTable) (sessions : ℕ) (events : List Event) → Decides (is_lawful kinds sessions events) (IsLawful kinds sessions events)
is_lawful-decides kinds sessions events = (apart, together)
  where
    apart : is_lawful kinds sessions events ≡ true → IsLawful kinds sessions events
    apart h =
        let a : (releases_once sessions events ≡ true) × ((releases_in_order kinds events && (stays_inside events && calls_back events)) ≡ true) = and_parts (releases_once sessions events) (releases_in_order kinds events && (stays_inside events && calls_back events)) h in
        let b : (releases_in_order kinds events ≡ true) × ((stays_inside events && calls_back events) ≡ true) = and_parts (releases_in_order kinds events) (stays_inside events && calls_back events) a.1 in
        let c : (stays_inside events ≡ true) × (calls_back events ≡ true) = and_parts (stays_inside events) (calls_back events) b.1 in
        record {
          released_once = (releases_once-decides sessions events).0 a.0;
          released_in_order = (releases_in_order-decides kinds events).0 b.0;
          stays_inside = (stays_inside-decides events).0 c.0;
          called_back = (calls_back-decides events).0 c.1;
        }

    together : IsLawful kinds sessions events → is_lawful kinds sessions events ≡ true
    together law =
        and_from (releases_once sessions events) (releases_in_order kinds events && (stays_inside events && calls_back events)) ((releases_once-decides sessions events).1 law.released_once)
        (and_from (releases_in_order kinds events) (stays_inside events && calls_back events) ((releases_in_order-decides kinds events).1 law.released_in_order)
        (and_from (stays_inside events) (calls_back events) ((stays_inside-decides events).1 law.stays_inside) ((calls_back-decides events).1 law.called_back)))
