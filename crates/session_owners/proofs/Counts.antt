-- How often the owners hold a kind and key, and how often that is counted, behind each change.
use Rattle.session_owners.proofs.Base.{◌≡◌, ◌≢◌, ℕ, ◌+◌, ◌<◌, ◌≤◌, length, replicate, get_or, find, Bool, false, List, [], ◌∷◌, Option, Some, refl, sym, arith, ◌==◌, ◌&&◌, if◌then◌else◌, slice_set, slice_index, common_steps, both_ways, eqb-true, le-ltb, lt-ltb, ne_eqb, nat_tests}
use Rattle.session_owners.proofs.Words.{Item, KindId, Phase, BeforeLocks, Locks, AfterLocks, Empty, Node, Once, at, children, put, removed, AllNodes, at_some, at_absent, removed_absent, KindTable, is_of, uses, count-without, Owner, OwnerTree, AllAt, HoldsNothing, created, forgotten, held, remembered, subtree_of, left_of, own_released, released, uses-cons, uses_phase, held_changed, total_removed, total_swept, references_of, registrations, OpensOneMore, opens, RefersAlike, RefersOneMore, references_to, Held, Lending, times_held, times_lent}
use Rattle.owner_core.specs.Sound.{total}
use Rattle.owner_kinds.specs.KindShelf as shelf

module _ (kind : KindId) (key : ℕ) where
  used : Owner → ℕ
  used owner = uses kind key owner.items

  held_total : (t : OwnerTree) → held kind key t ≡ total used t
  unfolding used
  held_total x0 = grind (arith, nat_tests)

  held_put : (p n : ℕ) (t : OwnerTree) → held kind key (put p n (record { begun = false; items = [] }) Empty t) ≡ held kind key t
  held_put p n Empty = refl
  held_put p n (Node k b below beside) = grind (arith, nat_tests, held_put p n beside, held_put p n below)

  pub held_created : (parent : Option ℕ) (n : ℕ) (t : OwnerTree) → held kind key (created parent n t) ≡ held kind key t
  held_created x0 n t = grind (arith, nat_tests, held_put)

  -- an owner and those below it
  held_parts : (n : ℕ) (a : Owner) (t : OwnerTree) → Once t → at n t ≡ Some a
      → held kind key (removed n t) + (uses kind key a.items + held kind key (children n t)) ≡ held kind key t
  unfolding used
  held_parts n a t o h = grind (arith, nat_tests, total_removed used n a t o h, held_total (removed n t), held_total (children n t), held_total t)

  pub held_subtree : (n : ℕ) (t : OwnerTree) → Once t → held kind key (subtree_of n t) ≤ held kind key t
  held_subtree n t o = grind (arith, nat_tests, at_some n t, held_parts n, at_absent n t)

  held_nothing : (t : OwnerTree) → AllNodes HoldsNothing t → held kind key t ≡ 0
  held_nothing Empty h = refl
  held_nothing (Node n a below beside) h = grind (arith, nat_tests, held_nothing below h.1, held_nothing beside h.2)

  pub held_removed : (n : ℕ) (t : OwnerTree) → Once t → AllAt HoldsNothing n t → held kind key (removed n t) ≡ held kind key t
  held_removed n t o all = grind (arith, nat_tests, at_some n t, held_parts n, held_nothing (children n t), removed_absent n t)

  uses_left : (kinds : KindTable) (phase : Phase) (items : List Item) → uses kind key (left_of kinds phase items) ≤ uses kind key items
  uses_left kinds Locks items = omega arith
  uses_left kinds BeforeLocks items = omega (arith, uses_phase kind key kinds BeforeLocks items)
  uses_left kinds AfterLocks items = omega (arith, uses_phase kind key kinds AfterLocks items)

  pub held_released : (kinds : KindTable) (phase : Phase) (n : ℕ) (t : OwnerTree) → held kind key (released kinds phase n t) ≤ held kind key t
  unfolding used
  held_released kinds phase n t = grind (arith, nat_tests, total_swept used (own_released kinds phase) n t, uses_left kinds phase, held_total (released kinds phase n t), held_total t)

  uses_one : (item : Item) (items : List Item) → uses kind key (item ∷ items) ≡ uses kind key items + (if (item.kind.0 == kind.0) && (item.key == key) then 1 else 0)
  uses_one item items = grind (arith, common_steps)

  -- one item more
  pub held_remembered : (n : ℕ) (item : Item) (a : Owner) (t : OwnerTree) → Once t → at n t ≡ Some a
      → held kind key (remembered n item t) ≡ held kind key t + (if (item.kind.0 == kind.0) && (item.key == key) then 1 else 0)
  held_remembered n item a t o h = grind (arith, nat_tests, held_changed kind key n, uses_one item a.items)

  -- one item fewer
  pub held_forgotten : (n : ℕ) (of : KindId) (at_key : ℕ) (item : Item) (a : Owner) (t : OwnerTree) → Once t → at n t ≡ Some a → find (is_of of at_key) a.items ≡ Some item
      → held kind key (forgotten n of at_key t) + uses kind key (item ∷ []) ≡ held kind key t
  held_forgotten n of at_key item a t o h found = grind (arith, nat_tests, held_changed kind key n, count-without (is_of kind key) (is_of of at_key) a.items item found, uses-cons kind key item [])

-- one pin more
slice_index-pinned : (pins : List ℕ) (buffer key : ℕ) → buffer < length pins → slice_index (slice_set pins buffer (slice_index pins buffer + 1)) key ≡ slice_index pins key + (if buffer == key then 1 else 0)
slice_index-pinned pins buffer key h = grind (arith, common_steps, nat_tests)

-- what is counted of a kind of the same number, and of another one
flag_on : (c k : ℕ) (hit : Bool) → k ≡ c → ◌≡◌ {A = ℕ} (if (c == k) && hit then 1 else 0) (if hit then 1 else 0)
flag_on c k hit same = grind (arith, nat_tests, both_ways (c == k))

flag_off : (c k : ℕ) (hit : Bool) → k ≢ c → ◌≡◌ {A = ℕ} (if (c == k) && hit then 1 else 0) 0
flag_off c k hit other = rw (ne_eqb c k (λ e. other (sym e))) refl

-- How often a kind and key are held goes up and down with what the table of that kind counts.
pub times_held-moved : (a b : Held) (kind : KindId) (key m n : ℕ) → (kind.0 ≡ 1 → slice_index b.pins key + m ≡ slice_index a.pins key + n) → (kind.0 ≡ 8 → opens b.files key + m ≡ opens a.files key + n)
    → (kind.0 ≡ 7 → registrations b.snapshots key + m ≡ registrations a.snapshots key + n) → (kind.0 ≡ 5 → references_to b.plans key + m ≡ references_to a.plans key + n)
    → (kind.0 ≢ 1 → kind.0 ≢ 8 → kind.0 ≢ 7 → kind.0 ≢ 5 → references_of b.references kind key + m ≡ references_of a.references kind key + n)
    → times_held b kind key + m ≡ times_held a kind key + n
times_held-moved a b kind key m n pins files snapshots plans references = grind (arith, nat_tests, eqb-true kind.0 1, eqb-true kind.0 8, eqb-true kind.0 7, eqb-true kind.0 5)

pub times_held-pinned : (a b : Held) (buffer : ℕ) (kind : KindId) (key : ℕ) → buffer < length a.pins → b ≡ record a { pins = slice_set a.pins buffer (slice_index a.pins buffer + 1) }
    → times_held b kind key ≡ times_held a kind key + (if (1 == kind.0) && (buffer == key) then 1 else 0)
times_held-pinned a b buffer kind key within is = grind (arith, nat_tests, times_held-moved a b kind key 0 (if (1 == kind.0) && (buffer == key) then 1 else 0), slice_index-pinned a.pins buffer key within, flag_on 1 kind.0 (buffer == key), flag_off 1 kind.0 (buffer == key))

-- one file more
pub times_held-opened : (a b : Held) (file : ℕ) (kind : KindId) (key : ℕ) → b ≡ record a { files = b.files } → OpensOneMore a.files b.files file
    → times_held b kind key ≡ times_held a kind key + (if (8 == kind.0) && (file == key) then 1 else 0)
times_held-opened a b file kind key is more = grind (arith, nat_tests, times_held-moved a b kind key 0 (if (8 == kind.0) && (file == key) then 1 else 0), flag_off 8 kind.0 (file == key), flag_on 8 kind.0 (file == key))

-- one reference to a plan more
pub times_held-referred : (a b : Held) (plan : ℕ) (kind : KindId) (key : ℕ) → b ≡ record a { plans = b.plans } → RefersOneMore a.plans b.plans plan
    → times_held b kind key ≡ times_held a kind key + (if (5 == kind.0) && (plan == key) then 1 else 0)
times_held-referred a b plan kind key is more = grind (arith, nat_tests, times_held-moved a b kind key 0 (if (5 == kind.0) && (plan == key) then 1 else 0), flag_off 5 kind.0 (plan == key), flag_on 5 kind.0 (plan == key))

-- the same pins, references, open files, registered snapshots, and as many references to each plan
pub times_held-same : (a b : Held) (kind : KindId) (key : ℕ) → b.pins ≡ a.pins → b.references ≡ a.references → b.files.opened ≡ a.files.opened → b.snapshots.registered ≡ a.snapshots.registered → RefersAlike a.plans b.plans
    → times_held b kind key ≡ times_held a kind key
times_held-same a b kind key pins references opened registered alike = grind (arith, nat_tests, times_held-moved a b kind key 0 0)

zeros_at : (key n : ℕ) → get_or (replicate {A = ℕ} n 0) key 0 ≡ 0
zeros_at key n = grind (arith, common_steps)

-- nothing is held
pub none_held : (held : Held) (kind : KindId) (key : ℕ) → held.pins ≡ replicate 1024 0 → held.references ≡ [] → held.files.opened ≡ [] → held.snapshots.registered ≡ [] → held.plans.standing ≡ [] → times_held held kind key ≡ 0
none_held held kind key p r f t q = grind (arith, nat_tests, zeros_at key 1024, times_held-same)

-- what a release works on counts built-in kinds in the tables, and extension kinds by what they hold
pub lent_low : (lending : Lending) (kind : KindId) (key : ℕ) → kind.0 < 16 → times_lent lending kind key ≡ times_held lending.held kind key
lent_low lending kind key low = rw (lt-ltb kind.0 16 low) refl

pub lent_high : (lending : Lending) (kind : KindId) (key : ℕ) → 16 ≤ kind.0 → times_lent lending kind key ≡ shelf.times_held lending.kinds kind key
lent_high lending kind key high = rw (le-ltb kind.0 16 high) refl
