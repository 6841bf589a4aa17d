-- What sessions do one after the other leaves the commons in balance.
use Rattle.session_owners.proofs.Base.{◌≡◌, ◌≢◌, ℕ, ◌+◌, ◌-◌, ◌<◌, ◌≤◌, find, false, List, [], ◌∷◌, map, Option, Some, Result, Ok, Err, OnOk, OnErr, refl, sym, ap, ◌∙◌, subst, replicate, arith, ◌==◌, ◌&&◌, ◌^◌, if◌then◌else◌, slice_index, common_steps, ne_eqb, nat_tests}
use Rattle.session_owners.proofs.Words.{Item, KindId, OwnerId, Phase, Mode, Holding, holds, Agrees, SessionLocks, OthersStay, AllNodes, Empty, Once, moved, removed, Kind, changed_at, opened, one_at, table_of, IsExtension, IsSound, KindTable, is_of, uses, without_newest, All-without, OwnerError, AllAt, HoldsNothing, Owner, OwnerTable, OwnerTree, created, forgotten, held, items_of, remembered, own_released, released, once_of, all_swept, buffer_pin, HasItems, IsItem, Around, Scene, pinning, at_buffer, all_changed, all_moved, all_put, all_removed, held_moved, Moves, phase_items, ResourceState, locks_of, owners_of, ArePinsShared, Held, Lending, PinsBalance, times_lent, Balances, CommonState, LocksBalance, PinsServe, Serves, pinned_beside, pinned_once, seen_by, OwnersFit, LocksBalance-nothing, IsCounted}
use Rattle.owner_kinds.specs.KindShelf.{times_held}
use Rattle.owner_core.specs.Owners as owners
use Rattle.owner_core.specs.Owners.{spare_of}
use Rattle.session_owners.proofs.Counts.{held_created, held_remembered, held_removed, lent_high}
use Rattle.session_owners.proofs.Kept.{held_found, there}
use Rattle.session_owners.proofs.OwnPins.{at_most_once, beside_same, pinned_own, pinned_same, pins_balance}
use Rattle.session_owners.proofs.TableSteps.{limits_opened}

pub balances_none : (a : ResourceState) (c : CommonState) → Balances a a c c
balances_none a c = grind (arith, nat_tests)

-- a session's locks are as they were, and so is what is held for all
pub locks_stay : (was a : ResourceState) (t : SessionLocks) (hs : List Holding) → was ≡ a → t ≡ locks_of was → LocksBalance (locks_of a) t hs hs
locks_stay was a t hs is same = subst (λ (z : SessionLocks). LocksBalance (locks_of a) z hs hs) (sym (same ∙ ap locks_of is)) (LocksBalance-nothing (locks_of a) hs)

-- the same owners, with other room or other files
pub balances_same : (a b : ResourceState) (c : CommonState) → owners_of b ≡ owners_of a → LocksBalance (locks_of a) (locks_of b) c.locks c.locks → Balances a b c c
balances_same a b c same locks = grind (arith, nat_tests)

-- the same of what the session's value says
pub locks_moved : (was a : ResourceState) (t : SessionLocks) (had c : CommonState) (hs : List Holding) → was ≡ a → had ≡ c → LocksBalance (locks_of was) t had.locks hs → LocksBalance (locks_of a) t c.locks hs
locks_moved was a t had c hs is same h = grind (arith, nat_tests)

-- a session's own counts and its owners pin the same buffers
pub pins_counted : (old new : OwnerTable) (counts counts' : Held) (c d : List ℕ) → IsCounted old counts → IsCounted new counts' → PinsBalance counts.pins counts'.pins c d
    → (buffer : ℕ) → slice_index d buffer + pinned_once buffer (owners.owners_of old) ≡ slice_index c buffer + pinned_once buffer (owners.owners_of new)
pins_counted old new counts counts' c d s s' = grind (arith, nat_tests, pins_balance counts.pins counts'.pins c d (owners.owners_of old) (owners.owners_of new))

pub beside_counted : (old new : OwnerTable) (counts counts' : Held) (c d : List ℕ) → IsCounted old counts → IsCounted new counts' → PinsBalance counts.pins counts'.pins c d
    → pinned_beside (owners.owners_of old) c ≡ pinned_beside (owners.owners_of new) d
beside_counted old new counts counts' c d s s' balance = beside_same (owners.owners_of old) (owners.owners_of new) c d (pins_counted old new counts counts' c d s s' balance)

pub pins_moved : (a b : List ℕ) (had c : CommonState) (d : List ℕ) → had ≡ c → PinsBalance a b had.pins d → PinsBalance a b c.pins d
pins_moved a b had c d same h = subst (λ (z : CommonState). PinsBalance a b z.pins d) same h

-- what a session pins is counted for it, and no buffer for too many
pub shared_fit : (old : OwnerTable) (counts : Held) (a : ResourceState) (had c : CommonState) → IsCounted old counts → owners_of a ≡ owners.owners_of old → had ≡ c → Serves a c → ArePinsShared counts.pins had.pins
shared_fit old counts a had c s was same serves buffer = grind (arith, nat_tests, pinned_own counts.pins (owners.owners_of old) buffer)

pub agrees_fit : (was a : ResourceState) (had c : CommonState) → was ≡ a → had ≡ c → Serves a c → Agrees (locks_of was) had.locks
agrees_fit was a had c is same serves = rw (is, same) serves.agrees

pub few_sessions : (a : ResourceState) (had c : CommonState) (buffer : ℕ) → had ≡ c → Serves a c → slice_index had.pins buffer < 2 ^ 32 - 1
few_sessions a had c buffer same serves = grind (arith, nat_tests, at_most_once buffer (owners_of a))

-- how many sessions pin a buffer, as a session sees it
pub pinning_is : (a : ResourceState) (c : CommonState) (buffer result : ℕ) (scene : Scene) → Serves a c → OwnersFit a c scene → buffer < 1024 → result ≡ slice_index c.pins buffer → result ≡ pinning buffer scene
pinning_is a c buffer result scene serves fit small is = grind (arith, nat_tests, at_buffer (λ q. slice_index c.pins q - pinned_once q (owners_of a)) buffer small, serves.pins.own buffer)

pub balances_more : (a b e : ResourceState) (c d f : CommonState) → Balances a b c d → Balances b e d f → Balances a e c f
balances_more a b e c d f p q = grind (arith, nat_tests)

-- a session that was served is so still
pub serves_still : (a b : ResourceState) (c d : CommonState) → Serves a c → Balances a b c d → Serves b d
serves_still a b c d s p = grind (arith, nat_tests)

-- what kinds that serve a session hold
pub served : (old : OwnerTable) (a : ResourceState) (c : CommonState) (kinds : List Kind) → owners_of a ≡ owners.owners_of old → c.kinds ≡ kinds → Serves a c
    → (kind : KindId) (key : ℕ) → 16 ≤ kind.0 → held kind key (owners.owners_of old) ≤ times_held kinds kind key
served old a c kinds was from s kind key high = rw (was, from) at (s.held kind key high)

-- and the items that are known to them
pub known_items : (old : OwnerTable) (a : ResourceState) (c : CommonState) (kinds : List Kind) → owners_of a ≡ owners.owners_of old → c.kinds ≡ kinds → Serves a c
    → AllNodes (HasItems (table_of kinds)) (owners.owners_of old)
known_items old a c kinds was from s = rw (was, from) at s.items

-- a session that stays while another one of that number moves
pub serves_beside : (a : ResourceState) (c d : CommonState) (n : ℕ) → Serves a c → table_of d.kinds ≡ table_of c.kinds
    → ((kind : KindId) (key : ℕ) → 16 ≤ kind.0 → held kind key (owners_of a) ≤ times_held d.kinds kind key) → a.session ≢ n → OthersStay n c.locks d.locks → PinsServe (owners_of a) d.pins → Serves a d
serves_beside a c d n s same held other others pins = grind (arith, nat_tests)

-- a session without owners and locks, for which none is held
pub serves_nothing : (a : ResourceState) (c : CommonState) → owners_of a ≡ Empty → IsSound (table_of c.kinds) → a.locks ≡ [] → ((o : ℕ) (m : Mode) → holds c.locks o m a.session ≡ false) → ((buffer : ℕ) → slice_index c.pins buffer ≤ 2 ^ 31) → Serves a c
serves_nothing a c empty sound none free few = grind (arith, nat_tests)

-- the first session of a run, where no buffer is pinned, or one is by another session
pub serves_first : (a : ResourceState) (c : CommonState) → owners_of a ≡ Empty → IsSound (table_of c.kinds) → a.locks ≡ [] → c.locks ≡ [] → ((buffer : ℕ) → slice_index c.pins buffer ≤ 2 ^ 31) → Serves a c
serves_first a c empty sound none free few = serves_nothing a c empty sound none (λ o m. ap (λ (hs : List Holding). holds hs o m a.session) free) few

none_pinned : (n buffer : ℕ) → slice_index (replicate {A = ℕ} n 0) buffer ≡ 0
none_pinned n buffer = grind (arith, common_steps)

pub few_none : (pins : List ℕ) → pins ≡ replicate 1024 0 → (buffer : ℕ) → slice_index pins buffer ≤ 2 ^ 31
few_none pins none buffer = omega (arith, ap (λ (ns : List ℕ). slice_index ns buffer) none, none_pinned 1024 buffer)

-- what a session does without the commons, where it takes and gives back nothing of extension kinds
balances_alone : (a b : ResourceState) (c : CommonState) → ((kinds : KindTable) → AllNodes (HasItems kinds) (owners_of a) → AllNodes (HasItems kinds) (owners_of b))
    → ((kind : KindId) (key : ℕ) → 16 ≤ kind.0 → held kind key (owners_of b) ≡ held kind key (owners_of a)) → ((buffer : ℕ) → held buffer_pin buffer (owners_of b) ≡ held buffer_pin buffer (owners_of a))
    → LocksBalance (locks_of a) (locks_of b) c.locks c.locks → Balances a b c c
balances_alone a b c items same pins locks = record {
  table = refl;
  limits = refl;
  items = items (table_of c.kinds);
  held = λ kind key extension. omega (arith, same kind key extension);
  locks = locks;
  pins = λ buffer. omega (arith, pinned_same (owners_of a) (owners_of b) buffer (pins buffer));
}

items_created : (kinds : KindTable) (parent : Option ℕ) (n : ℕ) (t : OwnerTree) → AllNodes (HasItems kinds) t → AllNodes (HasItems kinds) (created parent n t)
items_created kinds x1 n t h = grind (arith, nat_tests, all_put)

items_remembered : (kinds : KindTable) (n : ℕ) (item : Item) (t : OwnerTree) → IsItem kinds item → AllNodes (HasItems kinds) t → AllNodes (HasItems kinds) (remembered n item t)
items_remembered kinds n item t is h = grind (arith, nat_tests, all_changed (HasItems kinds) n)

pub balances_made : (old new : OwnerTable) (a b : ResourceState) (c : CommonState) (parent : Option ℕ) (result : Result OwnerId OwnerError) → owners_of a ≡ owners.owners_of old → owners_of b ≡ owners.owners_of new
    → OnOk result (owners.owners_of new ≡ created parent old.next_owner (owners.owners_of old)) → OnErr result (new ≡ old) → LocksBalance (locks_of a) (locks_of b) c.locks c.locks → Balances a b c c
balances_made old new a b c parent (Ok owner) was is made refused locks =
    balances_alone a b c (λ kinds h. rw (is, made) (items_created kinds parent old.next_owner (owners.owners_of old) (rw was at h)))
    (λ kind key extension. rw (is, made, was) (held_created kind key parent old.next_owner (owners.owners_of old)))
    (λ buffer. rw (is, made, was) (held_created buffer_pin buffer parent old.next_owner (owners.owners_of old))) locks
balances_made old new a b c parent (Err error) was is made refused locks = balances_same a b c (is ∙ ap owners.owners_of refused ∙ sym was) locks

-- what one item more is of another kind
other_kind : (old : OwnerTable) (counts : Held) (n : ℕ) (item : Item) (kind : KindId) (key : ℕ) → IsCounted old counts → 1 ≤ spare_of n old → item.kind.0 ≢ kind.0
    → held kind key (remembered n item (owners.owners_of old)) ≡ held kind key (owners.owners_of old)
other_kind old counts n item kind key s spare other = grind (arith, nat_tests, there n old spare, once_of (owners.owners_of old) old.next_owner old.next_serial s.sound, ne_eqb item.kind.0 kind.0 other, held_remembered kind key n item (there n old spare).0 (owners.owners_of old) (once_of (owners.owners_of old) old.next_owner old.next_serial s.sound) (there n old spare).1)

-- an item of a kind that is built in is taken, which is no pin
pub balances_taken : (old : OwnerTable) (counts : Held) (a b : ResourceState) (c : CommonState) (n : ℕ) (item : Item) → IsCounted old counts → 1 ≤ spare_of n old → owners_of a ≡ owners.owners_of old
    → item.kind.0 < 16 → item.kind.0 ≢ 1 → ((kinds : KindTable) → IsItem kinds item) → owners_of b ≡ remembered n item (owners.owners_of old) → LocksBalance (locks_of a) (locks_of b) c.locks c.locks → Balances a b c c
balances_taken old counts a b c n item s spare was low no_pin is taken locks = grind (arith, nat_tests, balances_alone a b c, other_kind old counts n item, other_kind old counts n item buffer_pin, items_remembered)

-- a buffer is pinned
pub balances_pinned : (old new : OwnerTable) (counts counts' : Held) (a b : ResourceState) (c d : CommonState) (n : ℕ) (item : Item) → IsCounted old counts → IsCounted new counts' → 1 ≤ spare_of n old → owners_of a ≡ owners.owners_of old
    → owners_of b ≡ owners.owners_of new → item.kind.0 ≡ 1 → ((kinds : KindTable) → IsItem kinds item) → owners.owners_of new ≡ remembered n item (owners.owners_of old) → d.kinds ≡ c.kinds → PinsBalance counts.pins counts'.pins c.pins d.pins
    → LocksBalance (locks_of a) (locks_of b) c.locks d.locks → Balances a b c d
balances_pinned old new counts counts' a b c d n item s s' spare was now pin is taken kinds pins locks = grind (arith, nat_tests, items_remembered (table_of c.kinds) n item (owners.owners_of old) (is (table_of c.kinds)), other_kind old counts n item, pins_balance counts.pins counts'.pins c.pins d.pins (owners.owners_of old) (owners.owners_of new))

-- an owner that holds nothing goes, with all below it
pub balances_gone : (old : OwnerTable) (counts : Held) (a b : ResourceState) (c : CommonState) (n : ℕ) → IsCounted old counts → owners_of a ≡ owners.owners_of old → AllAt HoldsNothing n (owners_of a)
    → owners_of b ≡ removed n (owners.owners_of old) → LocksBalance (locks_of a) (locks_of b) c.locks c.locks → Balances a b c c
balances_gone old counts a b c n s was empty gone locks =
    let t : OwnerTree = owners.owners_of old in
    let o : Once t = once_of t old.next_owner old.next_serial s.sound in
    let nothing : AllAt HoldsNothing n t = subst (AllAt HoldsNothing n) was empty in
    balances_alone a b c (λ kinds h. rw gone (all_removed (HasItems kinds) n t (rw was at h))) (λ kind key extension. rw (gone, was) (held_removed kind key n t o nothing))
    (λ buffer. rw (gone, was) (held_removed buffer_pin buffer n t o nothing)) locks

-- an owner moves
pub balances_moved : (old : OwnerTable) (counts : Held) (a b : ResourceState) (c : CommonState) (n p : ℕ) → IsCounted old counts → owners_of a ≡ owners.owners_of old → Moves n p (owners.owners_of old)
    → owners_of b ≡ moved n p (owners.owners_of old) → LocksBalance (locks_of a) (locks_of b) c.locks c.locks → Balances a b c c
balances_moved old counts a b c n p s was w now locks =
    let t : OwnerTree = owners.owners_of old in
    let o : Once t = once_of t old.next_owner old.next_serial s.sound in
    balances_alone a b c (λ kinds h. rw now (all_moved (HasItems kinds) n p t (rw was at h))) (λ kind key extension. rw (now, was) (held_moved kind key n p t o w))
    (λ buffer. rw (now, was) (held_moved buffer_pin buffer n p t o w)) locks

-- a key of an extension kind is taken
one_flipped : (a b p q : ℕ) → ◌≡◌ {A = ℕ} (if (b == a) && (q == p) then 1 else 0) (if (a == b) && (p == q) then 1 else 0)
one_flipped a b p q = grind (arith, nat_tests)

pub balances_extended : (old : OwnerTable) (counts : Held) (a b : ResourceState) (c d : CommonState) (kinds kinds' : List Kind) (n : ℕ) (kind : KindId) (key : ℕ) → IsCounted old counts → 1 ≤ spare_of n old
    → owners_of a ≡ owners.owners_of old → c.kinds ≡ kinds → d.kinds ≡ kinds'
    → IsExtension (table_of c.kinds) kind → owners_of b ≡ remembered n (record { kind = kind; key = key; serial = old.next_serial }) (owners.owners_of old)
    → kinds' ≡ changed_at (kind.0 - 16) (opened key) kinds → table_of kinds' ≡ table_of kinds
    → ((other : KindId) (q : ℕ) → times_held kinds' other q ≡ times_held kinds other q + one_at kind key other q) → d.pins ≡ c.pins → LocksBalance (locks_of a) (locks_of b) c.locks d.locks → Balances a b c d
balances_extended old counts a b c d kinds kinds' n kind key s spare was from to extension taken opens table times counted locks = grind (arith, nat_tests, old.next_serial, there n old spare, once_of, old.next_owner, s.sound, d.kinds, c.kinds, limits_opened kinds (kind.0 - 16) key, kind.0, items_remembered, extension.from, held_remembered, pinned_same, other_kind)

-- what of a lending is told of extension kinds
high_times : (lending lending' : Lending) (kind : KindId) (key m n : ℕ) → 16 ≤ kind.0 → times_lent lending' kind key + m ≡ times_lent lending kind key + n
    → times_held lending'.kinds kind key + m ≡ times_held lending.kinds kind key + n
high_times lending lending' kind key m n high same = omega (arith, same, lent_high lending kind key high, lent_high lending' kind key high)

-- an item is given back
pub balances_given : (old : OwnerTable) (a b : ResourceState) (c d : CommonState) (lending lending' : Lending) (n : ℕ) (kind : KindId) (key : ℕ) (item : Item) → IsCounted old lending.held → owners_of a ≡ owners.owners_of old
    → c.kinds ≡ lending.kinds → d.kinds ≡ lending'.kinds → find (is_of kind key) (items_of n (owners.owners_of old)) ≡ Some item → owners_of b ≡ forgotten n kind key (owners.owners_of old)
    → table_of lending'.kinds ≡ table_of lending.kinds → map (λ k. k.limit) lending'.kinds ≡ map (λ k. k.limit) lending.kinds
    → ((k : KindId) (j : ℕ) → times_lent lending' k j + uses k j (item ∷ []) ≡ times_lent lending k j) → PinsBalance lending.held.pins lending'.held.pins c.pins d.pins → LocksBalance (locks_of a) (locks_of b) c.locks d.locks → Balances a b c d
balances_given old a b c d lending lending' n kind key item s was from to found given table limits times pins locks =
    let t : OwnerTree = owners.owners_of old in
    let same : table_of d.kinds ≡ table_of c.kinds = ap table_of to ∙ table ∙ ap table_of (sym from) in
    record {
      table = same;
      limits = ap (map (λ k. k.limit)) to ∙ limits ∙ ap (map (λ k. k.limit)) (sym from);
      items = λ h. rw (given, same)
          (all_changed (HasItems (table_of c.kinds)) n (λ (owner : Owner). record owner { items = without_newest (is_of kind key) owner.items }) t
          (λ o k. All-without (IsItem (table_of c.kinds)) (is_of kind key) o.items k) (rw was at h));
      held = grind (arith, nat_tests, held_found, high_times);
      locks = locks;
      pins = λ buffer. rw (given, was)
          (pins_balance lending.held.pins lending'.held.pins c.pins d.pins t (forgotten n kind key t) (λ q. s.counted buffer_pin q (omega arith))
          (λ q. omega (arith, times buffer_pin q, held_found n kind key item old lending.held s found buffer_pin q, s.counted buffer_pin q (omega arith))) pins buffer);
    }

-- a phase is released
pub balances_released : (old : OwnerTable) (a b : ResourceState) (c d : CommonState) (lending lending' : Lending) (n : ℕ) (phase : Phase) → IsCounted old lending.held → owners_of a ≡ owners.owners_of old
    → c.kinds ≡ lending.kinds → d.kinds ≡ lending'.kinds → owners_of b ≡ released (table_of lending.kinds) phase n (owners.owners_of old)
    → table_of lending'.kinds ≡ table_of lending.kinds → map (λ k. k.limit) lending'.kinds ≡ map (λ k. k.limit) lending.kinds
    → ((kind : KindId) (key : ℕ) → times_lent lending' kind key + held kind key (owners.owners_of old) ≡ times_lent lending kind key + held kind key (owners_of b)) → PinsBalance lending.held.pins lending'.held.pins c.pins d.pins → LocksBalance (locks_of a) (locks_of b) c.locks d.locks → Balances a b c d
balances_released old a b c d lending lending' n phase s was from to left table limits times pins locks = grind (arith, nat_tests, all_swept (HasItems (table_of lending.kinds)) (own_released (table_of lending.kinds) phase) (phase_items (table_of lending.kinds) phase) n (owners.owners_of old), phase_items (table_of lending.kinds) phase, high_times lending lending', pins_balance lending.held.pins lending'.held.pins c.pins d.pins (owners.owners_of old) (owners_of b))

-- what is seen through other commons takes the place of what was seen through these
pub seen_still : (a b : ResourceState) (c d : CommonState) (around : Around) → seen_by b d (seen_by a c around) ≡ seen_by b d around
seen_still a b c d around = refl
