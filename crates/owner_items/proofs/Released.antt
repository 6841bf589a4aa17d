-- An item that a release takes.
use Rattle.std.proofs.Common.{◌≡◌, ℕ, ◌+◌, ◌-◌, ◌<◌, ◌≤◌, true, false, cond, List, [], ◌∷◌, ◌++◌, All, Option, Some, None, MatchOption, IfSome, IfNone, IsNone, get_or, refl, sym, ap, subst, arith}
use Rattle.std.specs.Option.{option_to_list}
use Rattle.std.specs.Prelude.{◌↔◌}
use Rattle.pgs_step.specs.declared.ids.Phase.{Phase}
use Rattle.pgs_step.specs.declared.ids.Item.{Item}
use Rattle.owner_kinds.specs.KindTable.{KindTable}
use Rattle.owner_items.specs.ItemList.{ItemList, AreFalling, without_serial}
use Rattle.owner_items.specs.Next.{is_of_phase, priority, release_order, items_left}
use Rattle.owner_items.specs.Gathered.{rank, GoesFirst}
use Rattle.owner_items.specs.Held.{IsNextOf}
use Rattle.owner_items.proofs.Order.{split-All, split-rest, split-left, split-order, order-none, All-without, nothing-left, not_both, All-front, All-back}
use Rattle.owner_items.proofs.Sums.{StandsIn, newer_stands}
use Rattle.owner_items.specs.declared.ranking.TheConstants.{LAST_PRIORITY}
use Rattle.std.proofs.lemmas.Bool.Decides.{nat_tests}

-- what `take_next` says of its answer
abbrev pub Takes : KindTable → Phase → List Item → Option Item → List Item → Type 0
Takes table phase old result new =
    MatchOption result (All (λ item. is_of_phase table phase item ≡ false) old) (λ item. IsNextOf table phase old item new)

stands : (table : KindTable) (phase : Phase) (old : List Item) (item : Item) (new : List Item) → IsNextOf table phase old item new → StandsIn old item new
stands table phase old item new next = subst (λ z. StandsIn z item new) (sym next.taken) (newer_stands item new)

rank-passes : (table : KindTable) (phase : Phase) (item : Item) → is_of_phase table phase item ≡ true → rank table phase item ≡ 1 + (LAST_PRIORITY - priority table item)
rank-passes table phase item passes = ap {B = ℕ} (λ b. cond b (1 + (LAST_PRIORITY - priority table item)) 0) passes

lower : (table : KindTable) (phase : Phase) (item z : Item) → is_of_phase table phase item ≡ true → priority table item ≤ LAST_PRIORITY →
    GoesFirst (rank table phase) item z → is_of_phase table phase z ≡ true → priority table item ≤ priority table z
lower table phase item z passes low goes that = grind (arith, nat_tests, rank-passes)

below : (table : KindTable) (phase : Phase) (item z : Item) → is_of_phase table phase item ≡ true → priority table item ≤ LAST_PRIORITY →
    GoesFirst (rank table phase) item z → item.serial < z.serial → is_of_phase table phase z ≡ true →
    priority table item < priority table z
below table phase item z passes low goes later that = grind (arith, nat_tests, rank-passes)

next-order : (table : KindTable) (phase : Phase) (old : List Item) (item : Item) (new : List Item) → IsNextOf table phase old item new →
    release_order table phase old ≡ item ∷ release_order table phase new
next-order table phase old item new next =
    let s : StandsIn old item new = stands table phase old item new next in
    let goes : All (GoesFirst (rank table phase) item) (s.split.front ++ s.split.back) =
    subst (All (GoesFirst (rank table phase) item)) s.split.without next.first
    in
    let first : All (GoesFirst (rank table phase) item) s.split.front = All-front (GoesFirst (rank table phase) item) s.split.front s.split.back goes in
    let second : All (GoesFirst (rank table phase) item) s.split.back = All-back (GoesFirst (rank table phase) item) s.split.front s.split.back goes in
    split-order (is_of_phase table phase) (priority table) old item new s.split next.passes
    (λ k d within that. below table phase item (get_or s.split.front k d) next.passes next.low (first k d within) (s.newer k d within) that)
    (λ k d within that. lower table phase item (get_or s.split.back k d) next.passes next.low (second k d within) that)

none-order : (table : KindTable) (phase : Phase) (old : List Item) → All (λ item. is_of_phase table phase item ≡ false) old → release_order table phase old ≡ []
none-order table phase old none = order-none (is_of_phase table phase) (priority table) old none

pub takes-none :
    (table : KindTable) (phase : Phase) (old : List Item) (result : Option Item) (new : List Item) → Takes table phase old result new →
    IsNone result ↔ (release_order table phase old ≡ [])
takes-none table phase old None new takes = (λ _. none-order table phase old takes, λ _. refl)
takes-none table phase old (Some item) new next = not_both _ _ _ (next-order table phase old item new next)

pub takes-order :
    (table : KindTable) (phase : Phase) (old : List Item) (result : Option Item) (new : List Item) → Takes table phase old result new →
    IfNone result (new ≡ old) → release_order table phase old ≡ option_to_list result ++ release_order table phase new
takes-order table phase old None new takes same = ap (release_order table phase) (sym same)
takes-order table phase old (Some item) new next same = next-order table phase old item new next

pub takes-rest :
    (table : KindTable) (phase : Phase) (old : List Item) (result : Option Item) (new : List Item) → Takes table phase old result new →
    AreFalling old → IfSome result (λ item. new ≡ without_serial item.serial old)
takes-rest table phase old None new takes falling = tt
takes-rest table phase old (Some item) new next falling = split-rest old item new (stands table phase old item new next).split falling

pub takes-left :
    (table : KindTable) (phase : Phase) (old : List Item) (result : Option Item) (new : List Item) → Takes table phase old result new →
    IfNone result (new ≡ old) → items_left table phase new ≡ items_left table phase old
takes-left table phase old None new takes same = ap (items_left table phase) same
takes-left table phase old (Some item) new next same = grind (arith, nat_tests, split-left (is_of_phase table phase) old item new (stands table phase old item new next).split next.passes, stands table phase old item new next)

pub takes-done :
    (table : KindTable) (phase : Phase) (old : List Item) (result : Option Item) (new : List Item) → Takes table phase old result new →
    IfNone result (new ≡ old) → IfNone result (items_left table phase new ≡ new)
takes-done table phase old None new takes same = grind (arith, nat_tests, nothing-left (is_of_phase table phase) (priority table) old (none-order table phase old takes), none-order table phase old takes)
takes-done table phase old (Some item) new next same = tt

pub takes-All :
    (P : Item → Type 0) (table : KindTable) (phase : Phase) (old : List Item) (result : Option Item) (new : List Item) →
    Takes table phase old result new → IfNone result (new ≡ old) → All P old → All P new
takes-All P table phase old None new takes same all = subst (All P) (sym same) all
takes-All P table phase old (Some item) new next same all = split-All P old item new (stands table phase old item new next).split all

pub none-map : {P Q : Type 0} (result : Option Item) → (P → Q) → IfNone result P → IfNone result Q
none-map x0 step holds = grind (arith, nat_tests)

-- what is true of all items is true of those that a call leaves
pub All-kept :
    (P : Item → Type 0) (old new : ItemList) (result : Option Item) → IfSome result (λ item. new.items ≡ without_serial item.serial old.items) →
    IfNone result (new ≡ old) → All P old.items → All P new.items
All-kept P old new None rest same all = subst (λ z. All P z.items) (sym same) all
All-kept P old new (Some item) rest same all = grind (arith, nat_tests, All-without P)
