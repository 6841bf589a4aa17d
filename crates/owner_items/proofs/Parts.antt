-- The parts of an owner's items, as items come and go.
use Rattle.std.proofs.Common.{◌≡◌, ℕ, ◌+◌, ◌-◌, ◌<◌, ◌≤◌, zero, suc, Bool, true, false, cond, nat_le, List, [], ◌∷◌, ◌++◌, length, get_or, slice_get, take, map, reverse, filter, find, All, Option, Some, None, IsSome, is_some, refl, sym, ◌∙◌, ap, subst, arith, length-append}
use Rattle.std.specs.List.{sum_by, remove}
use Rattle.std.proofs.lemmas.Bool.Decides.{nat_tests}
use Rattle.std.proofs.lemmas.Grind.{reverse_onto}
use Rattle.std.proofs.lemmas.List.{append-nil}
use Rattle.std.proofs.lemmas.List.Sums.{sum_by-cons, sum_by-append}
use Rattle.std.proofs.lemmas.List.Elements.{All-nil, All-cons, All-head, All-tail}
use Rattle.std.specs.List.Sorted.{IsPermutation, IsNonDecreasingBy}
use Rattle.std.proofs.lemmas.List.Sorted.{All-permutation, IsPermutation-reverse, IsPermutation-sym, IsPermutation-remove, sum_by-IsPermutation, length_permutation}
use Rattle.pgs_step.specs.declared.ids.Phase.{Phase}
use Rattle.pgs_step.specs.declared.ids.Item.{Item}
use Rattle.owner_kinds.specs.KindTable.{KindTable, row_of}
use Rattle.owner_items.specs.declared.entry.Entry.{Entry}
use Rattle.owner_items.specs.declared.index.Slot.{Slot}
use Rattle.owner_items.specs.declared.ranking.Order.{Order}
use Rattle.owner_items.specs.ItemList.{AreFalling, without_newest}
use Rattle.owner_items.specs.Next.{is_of_phase, priority}
use Rattle.owner_items.specs.Newest.{IsNewest, NonePasses}
use Rattle.owner_items.specs.Table.{live_items}
use Rattle.owner_items.specs.Gathered.{with_newer, newest_first, all_items, rank, table_from, GoesFirst, IsInOrder, entry_with}
use Rattle.owner_items.specs.Held.{IsReady, IsTwoPart, InState, spare_in, IsNextOf}
use Rattle.owner_items.proofs.Linked.{reverse-back}
use Rattle.owner_items.proofs.NewestFirst.{find_none, find_newest, without_newest_is, find-append_some, find-append_none, without-append_some, without-append_none}
use Rattle.owner_items.proofs.Ordered.{order-back}
use Rattle.owner_items.proofs.Order.{split-falling, falling-without, All-front, All-back, All-both}
use Rattle.owner_items.proofs.Sums.{AreSinking, SameSums, in_order, sunk_list, newer_stands, StandsIn, live_sum, live-sum, entries-sums, removed-sums, newest_first-sum, same_lengths, All-newest_first, All-with_newer, length-sum, const_one}
use Rattle.owner_items.specs.declared.ranking.TheConstants.{LAST_PRIORITY}

reverse-item-length : (xs : List Item) → length (reverse xs) ≡ length xs
reverse-item-length xs = length_permutation xs (reverse xs) (IsPermutation-reverse xs)

pub all-length : (recent : List Item) (entries : List Entry) → length (newest_first (all_items recent entries)) ≡ length recent + length (live_items (reverse entries))
all-length recent entries = grind (arith, nat_tests, same_lengths (newest_first (all_items recent entries)) (all_items recent entries), newest_first-sum, length-append (reverse recent) (live_items (reverse entries)), reverse-item-length recent)

-- an item that is remembered

pub all-more : (recent : List Item) (entries : List Entry) (item : Item) → all_items (recent ++ item ∷ []) entries ≡ item ∷ all_items recent entries
all-more recent entries item = ap (λ z. z ++ live_items (reverse entries)) (reverse-back recent item)

pub record HasSpare (order : Option Order) (recent entries capacity : ℕ) : Type 0 where
  pub parted : order ≡ None
  pub few : recent < 32
  pub room : entries + 32 ≤ capacity

pub spare-some : (order : Option Order) (recent entries capacity : ℕ) → 1 ≤ spare_in order recent entries capacity → HasSpare order recent entries capacity
spare-some x0 recent entries capacity some = grind (arith, nat_tests)

pub remember-falling :
    (recent : List Item) (entries : List Entry) (item : Item) → AreFalling (all_items recent entries) →
    All (λ other. other.serial < item.serial) (newest_first (all_items recent entries)) →
    AreFalling (all_items (recent ++ item ∷ []) entries)
remember-falling recent entries item falling newest = grind (arith, nat_tests, all-more, in_order)

pub parted-falling :
    (recent : List Item) (entries : List Entry) → AreFalling (all_items recent entries) →
    AreFalling (newest_first (all_items recent entries))
parted-falling recent entries falling = subst AreFalling (sym (in_order (all_items recent entries) falling)) falling

-- the rows of a table are all that counts
pub rank-rows : (table : KindTable) (phase : Phase) → rank (table_from table.rows) phase ≡ rank table phase
unfolding row_of
rank-rows table phase = refl

pub rank-some : (table : KindTable) (phase : Phase) (item : Item) → rank table phase item ≡ 0 → is_of_phase table phase item ≡ false
rank-some table phase item none = grind (arith, nat_tests)

pub rank-none : (table : KindTable) (phase : Phase) (item : Item) → is_of_phase table phase item ≡ false → rank table phase item ≡ 0
rank-none table phase item none = ap {B = ℕ} (λ b. cond b (1 + (LAST_PRIORITY - priority table item)) 0) none

pub All-step : {X : Type 0} (P Q : X → Type 0) → ((x : X) → P x → Q x) → (xs : List X) → All P xs → All Q xs
All-step P Q step x3 all = grind (arith, nat_tests, All-cons, All-head, All-tail)

-- facts on all items

newer-all : (P : Item → Type 0) (x : Item) (zs : List Item) → All P (with_newer x zs) → All P (x ∷ zs)
newer-all P x [] all = all
newer-all P x (z ∷ zs) all =
    let cases : (b : Bool) → All P (cond b (x ∷ z ∷ zs) (z ∷ with_newer x zs)) → All P (x ∷ z ∷ zs) = elim [
      | true ↦ λ here. here
      | false ↦ λ here.
          let rest : All P (x ∷ zs) = newer-all P x zs (All-tail P z (with_newer x zs) here) in
          All-cons P x (z ∷ zs) (All-head P x zs rest)
          (All-cons P z zs (All-head P z (with_newer x zs) here) (All-tail P x zs rest))
    ] in
    cases (nat_le z.serial x.serial) all

pub All-unsorted : (P : Item → Type 0) (xs : List Item) → All P (newest_first xs) → All P xs
All-unsorted P [] all = all
All-unsorted P (x ∷ xs) all = grind (arith, nat_tests, newer-all P x (newest_first xs) all, All-cons P x xs (All-head P x (newest_first xs) (newer-all P x (newest_first xs) all)) (All-unsorted P xs (All-tail P x (newest_first xs) (newer-all P x (newest_first xs) all))), All-head P x (newest_first xs) (newer-all P x (newest_first xs) all), All-unsorted P xs (All-tail P x (newest_first xs) (newer-all P x (newest_first xs) all)), All-tail P x (newest_first xs) (newer-all P x (newest_first xs) all))

All-live : (P : Item → Type 0) (es : List Entry) → All (λ e. e.live ≡ true → P e.item) es → All P (live_items es)
All-live P [] all = All-nil P
All-live P (e ∷ es) all =
    let rest : All P (live_items es) = All-live P es (All-tail (λ e. e.live ≡ true → P e.item) e es all) in
    let here : e.live ≡ true → P e.item = All-head (λ e. e.live ≡ true → P e.item) e es all in
    let cases : (b : Bool) → e.live ≡ b → All P (cond b (e.item ∷ live_items es) (live_items es)) = elim [
      | true ↦ λ is. All-cons P e.item (live_items es) (here is) rest
      | false ↦ λ is. rest
    ] in
    cases e.live refl

All-dead : (P : Item → Type 0) (es : List Entry) → All P (live_items es) → All (λ e. e.live ≡ true → P e.item) es
All-dead P [] all = All-nil (λ e. e.live ≡ true → P e.item)
All-dead P (e ∷ es) all =
    let cases : (b : Bool) → e.live ≡ b → All P (cond b (e.item ∷ live_items es) (live_items es)) → (b ≡ true → P e.item) × All P (live_items es) = elim [
      | true ↦ λ is here. (λ _. All-head P e.item (live_items es) here, All-tail P e.item (live_items es) here)
      | false ↦ λ is here. (λ wrong. absurd cc, here)
    ] in
    let both : (e.live ≡ true → P e.item) × All P (live_items es) = cases e.live refl all in
    All-cons (λ e. e.live ≡ true → P e.item) e es both.0 (All-dead P es both.1)

pub all-from :
    (P : Item → Type 0) (recent : List Item) (entries : List Entry) → All P recent → All (λ e. e.live ≡ true → P e.item) entries →
    All P (newest_first (all_items recent entries))
all-from P recent entries first second =
    All-newest_first P (all_items recent entries)
    (All-both P (reverse recent) (live_items (reverse entries)) (All-permutation P recent (reverse recent) (IsPermutation-reverse recent) first)
    (All-live P (reverse entries)
    (All-permutation (λ e. e.live ≡ true → P e.item) entries (reverse entries) (IsPermutation-reverse entries) second)))

pub all-recent :
    (P : Item → Type 0) (recent : List Item) (entries : List Entry) → All P (newest_first (all_items recent entries)) → All P recent
all-recent P recent entries all = grind (arith, nat_tests, All-permutation P (reverse recent) recent (IsPermutation-sym recent (reverse recent) (IsPermutation-reverse recent)), IsPermutation-sym recent (reverse recent) (IsPermutation-reverse recent), IsPermutation-reverse recent, All-front P (reverse recent) (live_items (reverse entries)) (All-unsorted P (all_items recent entries) all), All-unsorted P (all_items recent entries) all)

pub all-entries :
    (P : Item → Type 0) (recent : List Item) (entries : List Entry) → All P (newest_first (all_items recent entries)) →
    All (λ e. e.live ≡ true → P e.item) entries
all-entries P recent entries all =
    All-permutation (λ e. e.live ≡ true → P e.item) (reverse entries) entries
    (IsPermutation-sym entries (reverse entries) (IsPermutation-reverse entries))
    (All-dead P (reverse entries)
    (All-back P (reverse recent) (live_items (reverse entries)) (All-unsorted P (all_items recent entries) all)))

-- the gathering

filter-sum : (f : Item → ℕ) (es : List Entry) → sum_by (live_sum f) (filter (λ e. e.live) es) ≡ sum_by (live_sum f) es
filter-sum f [] = refl
filter-sum f (e ∷ es) = grind (arith, nat_tests, live_sum f, filter-sum f es, sum_by-cons (live_sum f))

with-sum : (f : Item → ℕ) (xs : List Item) → sum_by (live_sum f) (map entry_with xs) ≡ sum_by f xs
with-sum f [] = refl
with-sum f (x ∷ xs) = grind (arith, nat_tests, with-sum f xs, sum_by-cons f x xs, sum_by-cons (live_sum f) (entry_with x) (map entry_with xs), live_sum f)

pub gathered-sums :
    (recent : List Item) (entries middle final : List Entry) →
    middle ≡ filter (λ e. e.live) entries ++ map entry_with recent → IsPermutation middle final →
    SameSums (all_items recent entries) (all_items [] final)
gathered-sums recent entries middle final is moved f = grind (arith, nat_tests, sum_by-append f (reverse recent) (live_items (reverse entries)), sum_by-append (live_sum f), sum_by-IsPermutation f recent (reverse recent) (IsPermutation-reverse recent), sum_by-IsPermutation (live_sum f) entries (reverse entries) (IsPermutation-reverse entries), sum_by-IsPermutation (live_sum f) final (reverse final) (IsPermutation-reverse final), sum_by-IsPermutation (live_sum f) middle final moved, IsPermutation-reverse recent, IsPermutation-reverse entries, IsPermutation-reverse final, live-sum f (reverse entries), live-sum f (reverse final), live_sum f, filter-sum f entries, with-sum f recent)

All-filter : (es : List Entry) → All (λ e. e.live ≡ true) (filter (λ e. e.live) es)
All-filter [] = All-nil (λ e. e.live ≡ true)
All-filter (e ∷ es) = grind (arith, nat_tests, All-filter es, All-cons)

All-with : (xs : List Item) → All (λ e. e.live ≡ true) (map entry_with xs)
All-with [] = All-nil (λ e. e.live ≡ true)
All-with (x ∷ xs) = All-cons (λ e. e.live ≡ true) (entry_with x) (map entry_with xs) refl (All-with xs)

All-join : (P : Entry → Type 0) (xs ys : List Entry) → All P xs → All P ys → All P (xs ++ ys)
All-join P [] ys all also = also
All-join P (x ∷ xs) ys all also = All-cons P x (xs ++ ys) (All-head P x xs all) (All-join P xs ys (All-tail P x xs all) also)

pub gathered-live :
    (recent : List Item) (entries middle : List Entry) → middle ≡ filter (λ e. e.live) entries ++ map entry_with recent →
    All (λ e. e.live ≡ true) middle
gathered-live recent entries middle is =
    subst (All (λ e. e.live ≡ true)) (sym is)
    (All-join (λ e. e.live ≡ true) (filter (λ e. e.live) entries) (map entry_with recent) (All-filter entries) (All-with recent))

pub order-length : (rank : Item → ℕ) (es : List Entry) → IsInOrder rank es → length (live_items es) ≡ length es
order-length rank [] ordered = refl
order-length rank (e ∷ es) ordered = grind (arith, nat_tests, order-length rank es ordered.2)

pub order-live : (rank : Item → ℕ) (e : Entry) (es : List Entry) → IsInOrder rank (e ∷ es) → live_items (e ∷ es) ≡ e.item ∷ live_items es
order-live rank e es ordered = ap (λ b. cond b (e.item ∷ live_items es) (live_items es)) ordered.0

-- the last entry

pub order-first : (rank : Item → ℕ) (e : Entry) (es : List Entry) → IsInOrder rank (e ∷ es) → All (GoesFirst rank e.item) (newest_first (live_items es))
order-first rank e es ordered = grind (arith, nat_tests, All-newest_first (GoesFirst rank e.item) (live_items es), All-live (GoesFirst rank e.item) es, All-step)

pub next_of-last :
    (table : KindTable) (phase : Phase) (e : Entry) (es : List Entry) → IsInOrder (rank table phase) (e ∷ es) →
    is_of_phase table phase e.item ≡ true → priority table e.item ≤ LAST_PRIORITY →
    IsNextOf table phase (newest_first (live_items (e ∷ es))) e.item (newest_first (live_items es))
next_of-last table phase e es ordered passes low = grind (arith, nat_tests, order-live (rank table phase) e es ordered, order-first (rank table phase) e es ordered)

pub none_of-last :
    (table : KindTable) (phase : Phase) (e : Entry) (es : List Entry) → IsInOrder (rank table phase) (e ∷ es) →
    rank table phase e.item ≡ 0 →
    All (λ item. is_of_phase table phase item ≡ false) (newest_first (live_items (e ∷ es)))
none_of-last table phase e es ordered none =
    subst (λ z. All (λ item. is_of_phase table phase item ≡ false) (newest_first z)) (sym (order-live (rank table phase) e es ordered))
    (All-with_newer (λ item. is_of_phase table phase item ≡ false) e.item (newest_first (live_items es)) (rank-some table phase e.item none)
    (All-step (GoesFirst (rank table phase) e.item) (λ item. is_of_phase table phase item ≡ false)
    (λ z goes. rank-some table phase z (let high : rank table phase z ≤ rank table phase e.item = goes.higher in omega (arith, high, none)))
    (newest_first (live_items es)) (order-first (rank table phase) e es ordered)))

last-at : (xs : List Entry) (n : ℕ) (e : Entry) → length xs ≡ n + 1 → Some e ≡ slice_get xs n → reverse xs ≡ e ∷ reverse (take n xs)
last-at [] n e full is = absurd (omega arith)
last-at (x ∷ []) zero e full is = let same : e ≡ x = cc in ap (λ z. z ∷ []) (sym same)
last-at (x ∷ y ∷ ys) zero e full is = absurd (omega arith)
last-at (x ∷ xs) (suc n) e full is = grind (arith, nat_tests, reverse_onto, last-at xs n e)

pub last-split : (xs : List Entry) (e : Entry) → Some e ≡ slice_get xs (length xs - 1) → reverse xs ≡ e ∷ reverse (take (length xs - 1) xs)
last-split [] e is = absurd cc
last-split (x ∷ xs) e is = last-at (x ∷ xs) (length (x ∷ xs) - 1) e (omega arith) is

-- facts on gathered items, by the list of the array's, of which there are none

pub ready-order : (table : KindTable) (phase : Phase) (recent : List Item) (entries : List Entry) (e : Entry) →
    IsReady table phase recent entries → Some e ≡ slice_get entries (length entries - 1) →
    IsInOrder (rank table phase) (e ∷ reverse (take (length entries - 1) entries))
ready-order table phase recent entries e ready is = grind (arith, nat_tests, last-split)

pub ready-items : (table : KindTable) (phase : Phase) (recent : List Item) (entries : List Entry) → IsReady table phase recent entries →
    all_items recent entries ≡ live_items (reverse entries)
ready-items table phase recent entries ready = ap (λ z. all_items z entries) ready.none_recent

pub ready-none :
    (table : KindTable) (phase : Phase) (recent : List Item) (entries : List Entry) (e : Entry) →
    IsReady table phase recent entries → Some e ≡ slice_get entries (length entries - 1) → rank table phase e.item ≡ 0 →
    All (λ item. is_of_phase table phase item ≡ false) (newest_first (all_items recent entries))
ready-none table phase recent entries e ready is none = grind (arith, nat_tests, ready-items, last-split, none_of-last, ready-order)

pub ready-next :
    (table : KindTable) (phase : Phase) (recent : List Item) (entries rest : List Entry) (e : Entry) →
    IsReady table phase recent entries → Some e ≡ slice_get entries (length entries - 1) → rest ≡ take (length entries - 1) entries →
    (rank table phase e.item ≡ 0 → ⊥) → (is_of_phase table phase e.item ≡ true → priority table e.item ≤ LAST_PRIORITY) →
    IsNextOf table phase (newest_first (all_items recent entries)) e.item (newest_first (all_items recent rest))
ready-next table phase recent entries rest e ready is rest_is some low = grind (arith, nat_tests, rank-none table phase e.item, ready-items table phase recent entries ready, last-split entries e is, next_of-last table phase e (reverse (take (length entries - 1) entries)) (ready-order table phase recent entries e ready is), ready-order table phase recent entries e ready is)

pub ready-rest :
    (table : KindTable) (phase : Phase) (recent : List Item) (entries rest : List Entry) (e : Entry) →
    IsReady table phase recent entries → Some e ≡ slice_get entries (length entries - 1) → rest ≡ take (length entries - 1) entries →
    IsReady table phase recent rest
ready-rest table phase recent entries rest e ready is rest_is = grind (arith, nat_tests, in_order, ready-order table phase recent entries e ready is)

-- the state that stays, whatever order it is
pub state-rest :
    (order : Option Order) (recent : List Item) (entries rest : List Entry) (live live' : ℕ) (slots : List Slot) (used : ℕ) (e : Entry) →
    IsSome order → InState order recent entries live slots used → Some e ≡ slice_get entries (length entries - 1) →
    rest ≡ take (length entries - 1) entries → InState order recent rest live' slots used
state-rest None recent entries rest live live' slots used e some state is rest_is = absurd cc
state-rest (Some order) recent entries rest live live' slots used e some state is rest_is = grind (arith, nat_tests, ready-rest (table_from order.rows.items) order.phase recent entries rest e state is rest_is)

pub next-falling :
    (table : KindTable) (phase : Phase) (old : List Item) (item : Item) (new : List Item) → IsNextOf table phase old item new →
    AreFalling old → AreFalling new
next-falling table phase old item new next falling = grind (arith, nat_tests, split-falling old item new, newer_stands item new)

pub ready-count :
    (table : KindTable) (phase : Phase) (recent : List Item) (entries rest : List Entry) (e : Entry) (live : ℕ) →
    IsReady table phase recent entries → Some e ≡ slice_get entries (length entries - 1) → rest ≡ take (length entries - 1) entries →
    live ≡ length (live_items (reverse entries)) → live ≡ length (live_items (reverse rest)) + 1
ready-count table phase recent entries rest e live ready is rest_is counted = grind (arith, nat_tests, last-split, order-live, ready-order)

-- the order of the serials

live-both : (xs ys : List Entry) → live_items (xs ++ ys) ≡ live_items xs ++ live_items ys
live-both [] ys = refl
live-both (x ∷ xs) ys = grind (arith, nat_tests, live-both xs ys)

sink-back : (ys : List Item) (x : Item) → AreSinking ys → All (λ y. x.serial ≤ y.serial) ys → AreSinking (ys ++ x ∷ [])
sink-back [] x sinks above = (All-nil (λ z. z.serial ≤ x.serial), tt)
sink-back (y ∷ ys) x sinks above = (
  All-both (λ z. z.serial ≤ y.serial) ys (x ∷ []) sinks.0
      (All-cons (λ z. z.serial ≤ y.serial) x [] (All-head (λ y. x.serial ≤ y.serial) y ys above) (All-nil (λ z. z.serial ≤ y.serial))),
  sink-back ys x sinks.1 (All-tail (λ y. x.serial ≤ y.serial) y ys above),
)

sinking-reverse : (xs : List Entry) → IsNonDecreasingBy (λ e. e.item.serial) xs → AreSinking (live_items (reverse xs))
sinking-reverse [] rising = tt
sinking-reverse (x ∷ xs) rising =
    let rest : AreSinking (live_items (reverse xs)) =
    sinking-reverse xs (λ i j d before within. rising (suc i) (suc j) d (omega arith) (omega arith))
    in
    let above : All (λ y. x.item.serial ≤ y.serial) (live_items (reverse xs)) =
    All-live (λ y. x.item.serial ≤ y.serial) (reverse xs)
    (All-permutation (λ e. e.live ≡ true → x.item.serial ≤ e.item.serial) xs (reverse xs) (IsPermutation-reverse xs)
    (λ k d within live. rising 0 (suc k) d (omega arith) (omega arith)))
    in
    rw (reverse_onto xs x [], live-both (reverse xs) (x ∷ []))
    (elim x.live as (λ b. AreSinking (live_items (reverse xs) ++ cond b (x.item ∷ []) [])) [
      | true ↦ sink-back (live_items (reverse xs)) x.item rest above
      | false ↦ subst AreSinking (sym (append-nil (live_items (reverse xs)))) rest
    ])

recent-sums :
    (recent : List Item) (entries sorted : List Entry) → IsPermutation entries sorted →
    SameSums (all_items recent entries) (all_items recent sorted)
recent-sums recent entries sorted moved f = grind (arith, nat_tests, sum_by-append, entries-sums)

pub sorted-all :
    (recent : List Item) (entries sorted : List Entry) → recent ≡ [] → AreFalling (newest_first (all_items recent entries)) →
    IsPermutation entries sorted → IsNonDecreasingBy (λ e. e.item.serial) sorted →
    all_items recent sorted ≡ newest_first (all_items recent entries)
sorted-all recent entries sorted none falling moved rising = grind (arith, nat_tests, sunk_list, recent-sums, sinking-reverse)

pub moved-count : (entries sorted : List Entry) → IsPermutation entries sorted → length (live_items (reverse sorted)) ≡ length (live_items (reverse entries))
moved-count entries sorted moved = grind (arith, nat_tests, same_lengths, entries-sums)

pub parted-state :
    (order : Option Order) (recent : List Item) (entries : List Entry) (live : ℕ) (slots : List Slot) (used : ℕ) →
    is_some order ≡ false → InState order recent entries live slots used → IsTwoPart recent entries live slots used
parted-state None recent entries live slots used none state = state
parted-state (Some order) recent entries live slots used none state = absurd cc

pub parted-back :
    (order : Option Order) (recent : List Item) (entries : List Entry) (live : ℕ) (slots : List Slot) (used : ℕ) →
    is_some order ≡ false → IsTwoPart recent entries live slots used → InState order recent entries live slots used
parted-back None recent entries live slots used none state = state
parted-back (Some order) recent entries live slots used none state = absurd cc

pub gathered-state :
    (order : Option Order) (recent : List Item) (entries : List Entry) (live : ℕ) (slots : List Slot) (used : ℕ) →
    is_some order ≡ true → InState order recent entries live slots used → recent ≡ []
gathered-state None recent entries live slots used some state = absurd cc
gathered-state (Some order) recent entries live slots used some state = state.none_recent

-- an item of the array that is forgotten

pub recent-all :
    (test : Item → Bool) (recent : List Item) (entries : List Entry) (place : ℕ) (item : Item) → IsNewest test recent place →
    item ≡ get_or recent place item →
    all_items (remove recent place) entries ≡ without_newest test (all_items recent entries)
recent-all test recent entries place item newest is = grind (arith, nat_tests, without_newest_is test recent place item newest is, without-append_some test (reverse recent) (live_items (reverse entries)) item (find_newest test recent place item newest is), find_newest test recent place item newest is)

pub recent-find :
    (test : Item → Bool) (recent : List Item) (entries : List Entry) (place : ℕ) (item : Item) → IsNewest test recent place →
    item ≡ get_or recent place item → AreFalling (all_items recent entries) →
    Some item ≡ find test (newest_first (all_items recent entries))
recent-find test recent entries place item newest is falling = grind (arith, nat_tests, in_order (all_items recent entries) falling, find-append_some test (reverse recent) (live_items (reverse entries)) item (find_newest test recent place item newest is), find_newest test recent place item newest is)

-- what a list by falling serials is without an item
pub rest-list :
    (test : Item → Bool) (old new : List Item) → AreFalling old → new ≡ without_newest test old →
    newest_first new ≡ without_newest test (newest_first old)
rest-list test old new falling is = grind (arith, nat_tests, falling-without, in_order)

pub rest-falling : (test : Item → Bool) (old new : List Item) → AreFalling old → new ≡ without_newest test old → AreFalling new
rest-falling test old new falling is = subst AreFalling (sym is) (falling-without test old falling)

pub older-all :
    (test : Item → Bool) (recent : List Item) (entries rest : List Entry) → NonePasses test recent →
    live_items (reverse rest) ≡ without_newest test (live_items (reverse entries)) →
    all_items recent rest ≡ without_newest test (all_items recent entries)
older-all test recent entries rest none is = grind (arith, nat_tests, without-append_none, find_none)

pub older-find :
    (test : Item → Bool) (recent : List Item) (entries : List Entry) → NonePasses test recent → AreFalling (all_items recent entries) →
    find test (live_items (reverse entries)) ≡ find test (newest_first (all_items recent entries))
older-find test recent entries none falling = grind (arith, nat_tests, in_order, find-append_none, find_none)

-- an item of the gathered ones that is forgotten

All-less : (P : Entry → Type 0) (xs : List Entry) (place : ℕ) → All P xs → All P (remove xs place)
All-less P [] zero all = all
All-less P [] (suc place) all = all
All-less P (x ∷ xs) zero all = All-tail P x xs all
All-less P (x ∷ xs) (suc place) all = grind (arith, nat_tests, All-cons, All-head, All-tail, All-less P xs place (All-tail P x xs all))

All-short : (P : Entry → Type 0) (ys : List Entry) (x : Entry) → All P (ys ++ x ∷ []) → All P ys
All-short P [] x all = All-nil P
All-short P (y ∷ ys) x all = grind (arith, nat_tests, All-cons, All-head, All-tail, All-short P ys x (All-tail P y (ys ++ x ∷ []) all))

All-end : (P : Entry → Type 0) (ys : List Entry) (x : Entry) → All P (ys ++ x ∷ []) → P x
All-end P [] x all = All-head P x [] all
All-end P (y ∷ ys) x all = All-end P ys x (All-tail P y (ys ++ x ∷ []) all)

order-front : (rank : Item → ℕ) (ys : List Entry) (x : Entry) → IsInOrder rank (ys ++ x ∷ []) → IsInOrder rank ys
order-front rank [] x ordered = tt
order-front rank (y ∷ ys) x ordered =
    (ordered.0, All-short (λ z. GoesFirst rank y.item z.item) ys x ordered.1, order-front rank ys x ordered.2)

order-above : (rank : Item → ℕ) (ys : List Entry) (x : Entry) → IsInOrder rank (ys ++ x ∷ []) → All (λ y. GoesFirst rank y.item x.item) ys
order-above rank [] x ordered = All-nil (λ y. GoesFirst rank y.item x.item)
order-above rank (y ∷ ys) x ordered = grind (arith, nat_tests, All-cons, All-end, order-above rank ys x ordered.2)

order-end : (rank : Item → ℕ) (ys : List Entry) (x : Entry) → IsInOrder rank (ys ++ x ∷ []) → x.live ≡ true
order-end rank [] x ordered = ordered.0
order-end rank (y ∷ ys) x ordered = order-end rank ys x ordered.2

order-less : (rank : Item → ℕ) (xs : List Entry) (place : ℕ) → IsInOrder rank (reverse xs) → IsInOrder rank (reverse (remove xs place))
order-less rank [] zero ordered = ordered
order-less rank [] (suc place) ordered = ordered
order-less rank (x ∷ xs) zero ordered = order-front rank (reverse xs) x (subst (IsInOrder rank) (reverse_onto xs x []) ordered)
order-less rank (x ∷ xs) (suc place) ordered =
    let whole : IsInOrder rank (reverse xs ++ x ∷ []) = subst (IsInOrder rank) (reverse_onto xs x []) ordered in
    rw (reverse_onto (remove xs place) x [])
    (order-back rank (reverse (remove xs place)) x (order-less rank xs place (order-front rank (reverse xs) x whole))
    (All-permutation (λ y. GoesFirst rank y.item x.item) (remove xs place) (reverse (remove xs place)) (IsPermutation-reverse (remove xs place))
    (All-less (λ y. GoesFirst rank y.item x.item) xs place
    (All-permutation (λ y. GoesFirst rank y.item x.item) (reverse xs) xs (IsPermutation-sym xs (reverse xs) (IsPermutation-reverse xs))
    (order-above rank (reverse xs) x whole))))
    (order-end rank (reverse xs) x whole))

order-all-live : (rank : Item → ℕ) (es : List Entry) → IsInOrder rank es → All (λ e. e.live ≡ true) es
order-all-live rank [] ordered = All-nil (λ e. e.live ≡ true)
order-all-live rank (e ∷ es) ordered = All-cons (λ e. e.live ≡ true) e es ordered.0 (order-all-live rank es ordered.2)

pub state-live :
    (order : Option Order) (recent : List Item) (entries : List Entry) (live : ℕ) (slots : List Slot) (used : ℕ) →
    is_some order ≡ true → InState order recent entries live slots used → All (λ e. e.live ≡ true) entries
state-live None recent entries live slots used some state = absurd cc
state-live (Some order) recent entries live slots used some state =
    All-permutation (λ e. e.live ≡ true) (reverse entries) entries (IsPermutation-sym entries (reverse entries) (IsPermutation-reverse entries))
    (order-all-live (rank (table_from order.rows.items) order.phase) (reverse entries) state.in_order)

pub state-less :
    (order : Option Order) (recent : List Item) (entries rest : List Entry) (live live' : ℕ) (slots : List Slot) (used place : ℕ) →
    is_some order ≡ true → rest ≡ remove entries place → InState order recent entries live slots used →
    InState order recent rest live' slots used
state-less None recent entries rest live live' slots used place some is state = absurd cc
state-less (Some order) recent entries rest live live' slots used place some is state = grind (arith, nat_tests, in_order, order-less (rank (table_from order.rows.items) order.phase) entries place state.in_order)

pub less-sums :
    (recent : List Item) (entries rest : List Entry) (place : ℕ) (e : Entry) → place < length entries → e ≡ get_or entries place e →
    rest ≡ remove entries place → e.live ≡ true →
    (f : Item → ℕ) → sum_by f (all_items recent entries) ≡ f e.item + sum_by f (all_items recent rest)
less-sums recent entries rest place e within is rest_is live f = grind (arith, nat_tests, sum_by-append f (reverse recent) (live_items (reverse entries)), sum_by-append f (reverse recent) (live_items (reverse rest)), removed-sums entries (remove entries place) e live (IsPermutation-remove entries place e within is) f, IsPermutation-remove entries place e within is)

-- the item stands behind those that are newer, which do not pass the test
newest-find :
    (test : Item → Bool) (front back : List Item) (item : Item) → test item ≡ true → All (λ z. test z ≡ false) front →
    (find test (front ++ item ∷ back) ≡ Some item) × (without_newest test (front ++ item ∷ back) ≡ front ++ back)
newest-find test [] back item passes none = grind (arith, nat_tests)
newest-find test (y ∷ front) back item passes none =
    let here : test y ≡ false = All-head (λ z. test z ≡ false) y front none in
    let rest : (find test (front ++ item ∷ back) ≡ Some item) × (without_newest test (front ++ item ∷ back) ≡ front ++ back) =
    newest-find test front back item passes (All-tail (λ z. test z ≡ false) y front none)
    in (
      ap (λ b. cond b (Some y) (find test (front ++ item ∷ back))) here ∙ rest.0,
      ap (λ b. cond b (front ++ item ∷ back) (y ∷ without_newest test (front ++ item ∷ back))) here ∙ ap (λ z. y ∷ z) rest.1,
    )

pub record IsForgotten (test : Item → Bool) (old : List Item) (item : Item) (new : List Item) : Type 0 where
  pub found : find test old ≡ Some item
  pub rest : without_newest test old ≡ new
  pub falling : AreFalling new

pub newest-gone :
    (test : Item → Bool) (old new : List Item) (item : Item) → AreFalling old → old ≡ with_newer item new → test item ≡ true →
    All (λ z. test z ≡ true → z.serial ≤ item.serial) old → IsForgotten test old item new
newest-gone test old new item falling is passes greatest =
    let stands : StandsIn old item new = subst (λ z. StandsIn z item new) (sym is) (newer_stands item new) in
    let front : All (λ z. test z ≡ true → z.serial ≤ item.serial) stands.split.front =
    All-front (λ z. test z ≡ true → z.serial ≤ item.serial) stands.split.front (item ∷ stands.split.back)
    (subst (All (λ z. test z ≡ true → z.serial ≤ item.serial)) stands.split.whole greatest)
    in
    let none : All (λ z. test z ≡ false) stands.split.front =
    λ k d within.
    let low : test (get_or stands.split.front k d) ≡ true → (get_or stands.split.front k d).serial ≤ item.serial = front k d within in
    let high : item.serial < (get_or stands.split.front k d).serial = stands.newer k d within in
    (let cases : (b : Bool) → test (get_or stands.split.front k d) ≡ b → b ≡ false = elim [
      | true ↦ λ that. absurd (let wrong : (get_or stands.split.front k d).serial ≤ item.serial = low that in omega (arith, wrong, high))
      | false ↦ λ that. refl
    ] in
    cases (test (get_or stands.split.front k d)) refl)
    in
    let both :
    (find test (stands.split.front ++ item ∷ stands.split.back) ≡ Some item)
    × (without_newest test (stands.split.front ++ item ∷ stands.split.back) ≡ stands.split.front ++ stands.split.back) =
    newest-find test stands.split.front stands.split.back item passes none
    in
    record {
      found = ap (find test) stands.split.whole ∙ both.0;
      rest = ap (without_newest test) stands.split.whole ∙ (both.1 ∙ sym stands.split.without);
      falling = split-falling old item new stands.split falling;
    }

-- of all items, where there are none in the array
pub gathered-all :
    (P : Item → Type 0) (recent : List Item) (entries : List Entry) → recent ≡ [] → All (λ e. P e.item) entries →
    All P (newest_first (all_items recent entries))
gathered-all P recent entries none all = grind (arith, nat_tests, all-from P recent entries (subst (All P) (sym none) (All-nil P)), All-nil P, All-step)

pub find-nothing : (test : Item → Bool) (xs : List Item) → All (λ x. test x ≡ false) xs → find test xs ≡ None
find-nothing test [] none = refl
find-nothing test (x ∷ xs) none =
    ap (λ b. cond b (Some x) (find test xs)) (All-head (λ x. test x ≡ false) x xs none)
    ∙ find-nothing test xs (All-tail (λ x. test x ≡ false) x xs none)

pub live-less :
    (entries rest : List Entry) (place : ℕ) (e : Entry) → place < length entries → e ≡ get_or entries place e →
    rest ≡ remove entries place → e.live ≡ true → length (live_items (reverse entries)) ≡ length (live_items (reverse rest)) + 1
live-less entries rest place e within is rest_is live = grind (arith, nat_tests, length-sum (live_items (reverse entries)), length-sum (live_items (reverse (remove entries place))), removed-sums entries (remove entries place) e live (IsPermutation-remove entries place e within is) const_one, IsPermutation-remove entries place e within is, const_one)
