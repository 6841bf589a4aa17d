-- The tables count what the owners hold, behind each call.
use Rattle.session_owners.proofs.Base.{nat_tests, ◌≡◌, ◌↔◌, Bool, ℕ, ◌+◌, ◌<◌, ◌≤◌, find, length, length-set, replicate, true, false, [], ◌∷◌, Option, Some, None, Result, Ok, Err, OnOk, OnErr, refl, sym, ◌∙◌, ap, subst, arith, inl, inr, ◌==◌, ◌&&◌, if◌then◌else◌, slice_set, slice_index, ok_or, option_map, option_map_or, cases_Bool, cases_lt, ne_eqb, length-replicate}
use Rattle.session_owners.proofs.Words.{Item, KindId, OwnerId, Phase, total, Empty, Node, Once, at, moved, put, removed, size, AllNodes, mapped-at, is_of, uses, All-without, OwnerError, NotOwned, Releasing, Owner, OwnerTable, OwnerTree, Roomy, AllAt, HoldsNothing, created, forgotten, held, items_of, remembered, subtree_of, own_released, released, uses_own, once_of, sound_created, sound_forgotten, sound_moved, sound_released, sound_remembered, sound_removed, all_swept, all_changed, all_moved, held_moved, Moves, OpensOneMore, opened_file, KindTable, Held, Lending, times_held, times_lent, HoldsCounted, IsCounted, IsHeld}
use Rattle.owner_core.specs.declared.errors.OwnerError.TheVariants.{TooMany}
use Rattle.owner_core.specs.Owners.{owners_of, spare_of}
use Rattle.owner_core.specs.Sound.{IsSound}
use Rattle.plan_store.specs.Plans as plans
use Rattle.owner_kinds.specs.KindShelf as shelf
use Rattle.session_owners.proofs.Counts.{lent_high, lent_low, held_created, held_forgotten, held_released, held_remembered, held_removed, held_subtree, none_held, times_held-opened, times_held-pinned, times_held-referred}
use Rattle.session_owners.proofs.Left.{items_left}

-- what a call keeps of the owners
abbrev none : Owner
none = record { begun = false; items = [] }

items_put : (p n : ℕ) (t : OwnerTree) → AllNodes HoldsCounted t → AllNodes HoldsCounted (put p n none Empty t)
items_put p n Empty all = tt
items_put p n (Node k b below beside) all = grind (arith, nat_tests, items_put p n beside all.2, items_put p n below all.1)

items_created : (parent : Option ℕ) (n : ℕ) (t : OwnerTree) → AllNodes HoldsCounted t → AllNodes HoldsCounted (created parent n t)
items_created x0 n t all = grind (arith, items_put)

items_remembered : (n : ℕ) (item : Item) (t : OwnerTree) → IsHeld item → AllNodes HoldsCounted t → AllNodes HoldsCounted (remembered n item t)
items_remembered n item Empty is all = tt
items_remembered n item (Node k b below beside) is all = grind (arith, nat_tests, items_remembered n item below is all.1, items_remembered n item beside is all.2)

items_removed : (n : ℕ) (t : OwnerTree) → AllNodes HoldsCounted t → AllNodes HoldsCounted (removed n t)
items_removed n Empty all = tt
items_removed n (Node k b below beside) all = grind (arith, nat_tests, items_removed n beside all.2, items_removed n below all.1)

-- a table with these owners and numbers
counted : (new : OwnerTable) (counts : Held) (owners : OwnerTree) (next_owner next_serial : ℕ)
    → owners_of new ≡ owners → new.next_owner ≡ next_owner → new.next_serial ≡ next_serial
    → IsSound owners next_owner next_serial → AllNodes HoldsCounted owners → length counts.pins ≡ 1024
    → ((kind : KindId) (key : ℕ) → kind.0 < 16 → times_held counts kind key ≡ held kind key owners) → ((kind : KindId) (key : ℕ) → held kind key owners < next_serial)
    → total counts.references < next_serial → plans.references counts.plans < next_serial → IsCounted new counts
counted new counts owners next_owner next_serial e f g sound items buffers times few references referred = grind arith

pub counted_opening : (table : OwnerTable) (counts : Held) → table ≡ record { rooms = Empty; places = Empty; next_owner = 1; next_serial = 1 } → counts.pins ≡ replicate 1024 0 → counts.references ≡ [] → counts.files.opened ≡ [] → counts.snapshots.registered ≡ [] → counts.plans ≡ record { standing = []; reserved = None } → IsCounted table counts
counted_opening table counts t p r f g q = grind (arith, none_held counts, length-replicate, counted)

pub counted_same : (old new : OwnerTable) (counts : Held) → IsCounted old counts → owners_of new ≡ owners_of old → new.next_owner ≡ old.next_owner → new.next_serial ≡ old.next_serial → IsCounted new counts
counted_same old new counts s e f g = counted new counts (owners_of old) old.next_owner old.next_serial e f g s.sound s.items s.buffers s.counted s.few s.references s.plan_references

-- an owner more, unless there are too many
pub counted_made : (old new : OwnerTable) (counts : Held) (parent : Option ℕ) (result : Result OwnerId OwnerError) → IsCounted old counts
    → OnOk result (owners_of new ≡ created parent old.next_owner (owners_of old)) → OnOk result (new.next_owner ≡ old.next_owner + 1) → new.next_serial ≡ old.next_serial
    → ((result ≡ Err TooMany) ↔ (65536 ≤ size (owners_of old))) → OnErr result (new ≡ old) → IsCounted new counts
counted_made old new counts parent (Ok owner) s e f g many refused =
    let few : size (owners_of old) < 65536 = elim (cases_lt (size (owners_of old)) 65536) [ inl l ↦ l | inr u ↦ absurd (let is = many.1 u in cc) ] in
    counted new counts _ _ old.next_serial e f g (sound_created parent (owners_of old) old.next_owner old.next_serial s.sound few) (items_created parent old.next_owner (owners_of old) s.items) s.buffers
    (λ kind key low. s.counted kind key low ∙ sym (held_created kind key parent old.next_owner (owners_of old)))
    (λ kind key. omega (arith, held_created kind key parent old.next_owner (owners_of old), s.few kind key)) s.references s.plan_references
counted_made old new counts parent (Err error) s e f g many refused = subst (λ (t : OwnerTable). IsCounted t counts) (sym refused) s

-- an owner with room is there
pub there : (n : ℕ) (table : OwnerTable) → 1 ≤ spare_of n table → (a : Owner) × (at n (owners_of table) ≡ Some a)
there n table h = go (at n table.rooms) refl
  where
    go : (o : Option Roomy) → at n table.rooms ≡ o → (a : Owner) × (at n (owners_of table) ≡ Some a)
    go None e = absurd (omega (arith, h, ap (λ (x : Option Roomy). option_map_or (λ (r : Roomy). r.spare) x 0) e))
    go (Some r) e = (r.owner, mapped-at (λ (x : Roomy). x.owner) n table.rooms ∙ ap (option_map (λ (x : Roomy). x.owner)) e)

-- an item more
pub counted_taken : (old new : OwnerTable) (counts counts' : Held) (n : ℕ) (kind : KindId) (key : ℕ) → IsCounted old counts → 1 ≤ spare_of n old → IsHeld (record { kind = kind; key = key; serial = old.next_serial })
    → length counts'.pins ≡ 1024 → total counts'.references ≤ total counts.references + 1 → plans.references counts'.plans ≤ plans.references counts.plans + 1
    → ((k : KindId) (j : ℕ) → k.0 < 16 → times_held counts' k j ≡ times_held counts k j + (if (kind.0 == k.0) && (key == j) then 1 else 0))
    → owners_of new ≡ remembered n (record { kind = kind; key = key; serial = old.next_serial }) (owners_of old)
    → new.next_owner ≡ old.next_owner → new.next_serial ≡ old.next_serial + 1 → IsCounted new counts'
counted_taken old new counts counts' n kind key s spare is buffers references referred more e f g =
    let item : Item = record { kind = kind; key = key; serial = old.next_serial } in
    let w = there n old spare in
    let o : Once (owners_of old) = once_of (owners_of old) old.next_owner old.next_serial s.sound in
    counted new counts' _ old.next_owner _ e f g (sound_remembered n w.0 item (owners_of old) old.next_owner old.next_serial s.sound w.1 refl) (items_remembered n item (owners_of old) is s.items) buffers
    (λ k j low. more k j low ∙ ap (λ (z : ℕ). z + (if (kind.0 == k.0) && (key == j) then 1 else 0)) (s.counted k j low) ∙ sym (held_remembered k j n item w.0 (owners_of old) o w.1))
    (λ k j. elim (cases_Bool ((kind.0 == k.0) && (key == j))) [ inl y ↦ let up = held_remembered k j n item w.0 (owners_of old) o w.1 in omega (arith, s.few k j, rw y at up) | inr y ↦ let up = held_remembered k j n item w.0 (owners_of old) o w.1 in omega (arith, s.few k j, rw y at up) ])
    (omega (arith, references, s.references)) (omega (arith, referred, s.plan_references))

-- a pin more
pub counted_pinned : (old new : OwnerTable) (counts counts' : Held) (n buffer : ℕ) → IsCounted old counts → 1 ≤ spare_of n old → buffer < 1024
    → counts' ≡ record counts { pins = slice_set counts.pins buffer (slice_index counts.pins buffer + 1) }
    → owners_of new ≡ remembered n (record { kind = record { 0 = 1 }; key = buffer; serial = old.next_serial }) (owners_of old)
    → new.next_owner ≡ old.next_owner → new.next_serial ≡ old.next_serial + 1 → IsCounted new counts'
counted_pinned old new counts counts' n buffer s spare small set e f g =
    counted_taken old new counts counts' n _ buffer s spare (inl (record { kind = refl; buffer = small }))
    (ap (λ (z : Held). length z.pins) set ∙ length-set counts.pins buffer (slice_index counts.pins buffer + 1) ∙ s.buffers)
    (let same : total counts'.references ≡ total counts.references = ap (λ (z : Held). total z.references) set in omega (arith, same))
    (let same : plans.references counts'.plans ≡ plans.references counts.plans = ap (λ (z : Held). plans.references z.plans) set in omega (arith, same))
    (λ k j low. times_held-pinned counts counts' buffer k j (omega (arith, s.buffers, small)) set) e f g

-- a file more
pub counted_opened : (old new : OwnerTable) (counts counts' : Held) (n file : ℕ) → IsCounted old counts → 1 ≤ spare_of n old
    → counts' ≡ record counts { files = opened_file file counts.files } → OpensOneMore counts.files counts'.files file
    → owners_of new ≡ remembered n (record { kind = record { 0 = 8 }; key = file; serial = old.next_serial }) (owners_of old)
    → new.next_owner ≡ old.next_owner → new.next_serial ≡ old.next_serial + 1 → IsCounted new counts'
counted_opened old new counts counts' n file s spare set more e f g = grind (arith, counted_taken old new counts counts' n, times_held-opened counts counts' file)

-- an item of an extension kind more, which only that kind counts
pub counted_extended : (old new : OwnerTable) (counts : Held) (n : ℕ) (kind : KindId) (key : ℕ) → IsCounted old counts → 1 ≤ spare_of n old → 16 ≤ kind.0
    → owners_of new ≡ remembered n (record { kind = kind; key = key; serial = old.next_serial }) (owners_of old)
    → new.next_owner ≡ old.next_owner → new.next_serial ≡ old.next_serial + 1 → IsCounted new counts
counted_extended old new counts n kind key s spare high e f g = grind (arith, nat_tests, counted_taken old new counts counts n kind key s spare (inr (inr (inr (inr high)))) s.buffers, ne_eqb kind.0)

-- a reference to a plan more
pub counted_referred : (old new : OwnerTable) (counts counts' : Held) (n plan : ℕ) → IsCounted old counts → 1 ≤ spare_of n old → counts' ≡ record counts { plans = counts'.plans }
    → plans.RefersOneMore counts.plans counts'.plans plan → plans.references counts'.plans ≡ plans.references counts.plans + 1
    → owners_of new ≡ remembered n (record { kind = record { 0 = 5 }; key = plan; serial = old.next_serial }) (owners_of old)
    → new.next_owner ≡ old.next_owner → new.next_serial ≡ old.next_serial + 1 → IsCounted new counts'
counted_referred old new counts counts' n plan s spare is more referred e f g = grind (arith, counted_taken old new counts counts' n, times_held-referred counts counts' plan)

-- an item fewer
with_item : (test : Item → Bool) (o : Option Owner) (item : Item) → find test (option_map_or (λ owner. owner.items) o []) ≡ Some item → (a : Owner) × (o ≡ Some a) × (find test a.items ≡ Some item)
with_item test x1 item e = grind arith

pub held_found : (n : ℕ) (kind : KindId) (key : ℕ) (item : Item) (old : OwnerTable) (counts : Held) → IsCounted old counts → find (is_of kind key) (items_of n (owners_of old)) ≡ Some item
    → (k : KindId) (j : ℕ) → held k j (forgotten n kind key (owners_of old)) + uses k j (item ∷ []) ≡ held k j (owners_of old)
held_found n kind key item old counts s found k j = grind (arith, with_item (is_of kind key) (at n (owners_of old)) item found, once_of (owners_of old) old.next_owner old.next_serial s.sound, held_forgotten)

-- as much as a session's owners hold is counted in its tables and by the kinds that serve it
pub lent_enough : (table : OwnerTable) (lending : Lending) (kind : KindId) (key : ℕ) → IsCounted table lending.held
    → ((kind : KindId) (key : ℕ) → 16 ≤ kind.0 → held kind key (owners_of table) ≤ shelf.times_held lending.kinds kind key) → held kind key (owners_of table) ≤ times_lent lending kind key
lent_enough table lending kind key s served = grind (arith, cases_lt kind.0 16, lent_low lending kind key, lent_high lending kind key)

-- the item that was found
pub found_given : (begun : Bool) (o : Option Item) (r : Result Item OwnerError) (item : Item) → r ≡ Ok item → (begun ≡ false → r ≡ ok_or o NotOwned) → (begun ≡ true → r ≡ Err Releasing) → o ≡ Some item
found_given x0 o r item ok held releasing = grind arith

pub is_counted : (n : ℕ) (kind : KindId) (key : ℕ) (item : Item) (old : OwnerTable) (lending : Lending) → IsCounted old lending.held
    → ((kind : KindId) (key : ℕ) → 16 ≤ kind.0 → held kind key (owners_of old) ≤ shelf.times_held lending.kinds kind key)
    → find (is_of kind key) (items_of n (owners_of old)) ≡ Some item → 0 < times_lent lending item.kind item.key
is_counted n kind key item old lending s served found = grind (arith, held_found n kind key item old lending.held s found item.kind item.key, lent_enough old lending item.kind item.key s served, uses_own item)

pub counted_given : (old new : OwnerTable) (lending lending' : Lending) (n : ℕ) (kind : KindId) (key : ℕ) (item : Item) → IsCounted old lending.held
    → find (is_of kind key) (items_of n (owners_of old)) ≡ Some item
    → length lending'.held.pins ≡ 1024 → total lending'.held.references ≤ total lending.held.references → plans.references lending'.held.plans ≤ plans.references lending.held.plans
    → ((k : KindId) (j : ℕ) → times_lent lending' k j + uses k j (item ∷ []) ≡ times_lent lending k j)
    → owners_of new ≡ forgotten n kind key (owners_of old) → new.next_owner ≡ old.next_owner → new.next_serial ≡ old.next_serial → IsCounted new lending'.held
counted_given old new lending lending' n kind key item s found buffers references referred fewer e f g =
    let w = with_item (is_of kind key) (at n (owners_of old)) item found in
    counted new lending'.held _ old.next_owner old.next_serial e f g (sound_forgotten n w.0 (is_of kind key) (owners_of old) old.next_owner old.next_serial s.sound w.1)
    (all_changed HoldsCounted n _ (owners_of old) (λ a h. All-without IsHeld (is_of kind key) a.items h) s.items) buffers
    (λ k j low. omega (arith, fewer k j, lent_low lending k j low, lent_low lending' k j low, held_found n kind key item old lending.held s found k j, s.counted k j low))
    (λ k j. omega (arith, held_found n kind key item old lending.held s found k j, s.few k j)) (omega (arith, references, s.references)) (omega (arith, referred, s.plan_references))

-- what a release asks for
pub asked_counts : (table : OwnerTable) (lending : Lending) (n : ℕ) → IsCounted table lending.held
    → ((kind : KindId) (key : ℕ) → 16 ≤ kind.0 → held kind key (owners_of table) ≤ shelf.times_held lending.kinds kind key)
    → (kind : KindId) (key : ℕ) → held kind key (subtree_of n (owners_of table)) ≤ times_lent lending kind key
asked_counts table lending n s served kind key = grind (arith, lent_enough table lending kind key s served, held_subtree kind key n (owners_of table) (once_of (owners_of table) table.next_owner table.next_serial s.sound), once_of (owners_of table) table.next_owner table.next_serial s.sound)

-- a phase was released
pub counted_released : (kinds : KindTable) (old new : OwnerTable) (lending lending' : Lending) (n : ℕ) (phase : Phase) → IsCounted old lending.held
    → owners_of new ≡ released kinds phase n (owners_of old) → new.next_owner ≡ old.next_owner → new.next_serial ≡ old.next_serial → length lending'.held.pins ≡ 1024
    → total lending'.held.references ≤ total lending.held.references → plans.references lending'.held.plans ≤ plans.references lending.held.plans
    → ((kind : KindId) (key : ℕ) → times_lent lending' kind key + held kind key (owners_of old) ≡ times_lent lending kind key + held kind key (owners_of new))
    → IsCounted new lending'.held
counted_released kinds old new lending lending' n phase s e f g buffers references referred times = grind (arith, counted new lending'.held (released kinds phase n (owners_of old)) old.next_owner old.next_serial e f g, sound_released kinds phase n (owners_of old) old.next_owner old.next_serial s.sound, all_swept HoldsCounted (own_released kinds phase) (items_left kinds phase) n (owners_of old) s.items, items_left kinds phase, lent_low lending, lent_low lending', held_released)

-- an owner without items was discarded
-- an owner moves
pub counted_moved : (old new : OwnerTable) (counts : Held) (n p : ℕ) → IsCounted old counts → Moves n p (owners_of old)
    → owners_of new ≡ moved n p (owners_of old) → new.next_owner ≡ old.next_owner → new.next_serial ≡ old.next_serial → IsCounted new counts
counted_moved old new counts n p s w e f g = grind (arith, once_of (owners_of old) old.next_owner old.next_serial s.sound, counted new counts (moved n p (owners_of old)) old.next_owner old.next_serial e f g, sound_moved n p (owners_of old) old.next_owner old.next_serial s.sound, all_moved HoldsCounted n p (owners_of old) s.items, held_moved)

pub counted_gone : (old new : OwnerTable) (counts : Held) (n : ℕ) → IsCounted old counts → AllAt HoldsNothing n (owners_of old)
    → owners_of new ≡ removed n (owners_of old) → new.next_owner ≡ old.next_owner → new.next_serial ≡ old.next_serial → IsCounted new counts
counted_gone old new counts n s empty e f g = grind (arith, once_of (owners_of old) old.next_owner old.next_serial s.sound, counted new counts (removed n (owners_of old)) old.next_owner old.next_serial e f g, sound_removed n (owners_of old) old.next_owner old.next_serial s.sound, items_removed n (owners_of old) s.items, held_removed)
