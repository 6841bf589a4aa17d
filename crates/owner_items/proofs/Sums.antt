-- Items in another order: lists with the same sums.
use Rattle.std.proofs.Common.{◌≡◌, ℕ, ◌+◌, ◌<◌, ◌≤◌, suc, Bool, true, false, cond, nat_lt, nat_le, ◌==◌, List, [], ◌∷◌, length, get_or, take, reverse, All, refl, sym, ◌∙◌, ap, arith}
use Rattle.std.specs.List.{sum_by}
use Rattle.std.proofs.lemmas.Bool.Decides.{nat_tests, leb_tells, eqb_tells}
use Rattle.std.proofs.lemmas.List.Sums.{sum_by-cons, sum_by_more, sum_by-take-le}
use Rattle.std.proofs.lemmas.List.Elements.{All-nil, All-cons, All-head, All-tail}
use Rattle.std.proofs.lemmas.List.Sorted.{IsPermutation-reverse, sum_by-IsPermutation}
use Rattle.std.specs.List.Sorted.{IsPermutation}
use Rattle.pgs_step.specs.declared.ids.Item.{Item}
use Rattle.owner_items.specs.declared.entry.Entry.{Entry}
use Rattle.owner_items.specs.ItemList.{AreFalling}
use Rattle.owner_items.specs.Table.{live_items}
use Rattle.owner_items.specs.Gathered.{with_newer, newest_first}
use Rattle.owner_items.proofs.Order.{IsSplit}

-- each serial is at least those behind it
abbrev pub AreSinking : List Item → Type 0
AreSinking [] = Unit {0}
AreSinking (item ∷ items) = All (λ other. other.serial ≤ item.serial) items × AreSinking items

abbrev pub SameSums : List Item → List Item → Type 0
SameSums xs ys = (f : Item → ℕ) → sum_by f xs ≡ sum_by f ys

sum-zero : (f : Item → ℕ) (xs : List Item) → All (λ x. f x ≡ 0) xs → sum_by f xs ≡ 0
sum-zero f [] all = refl
sum-zero f (x ∷ xs) all =
    let here : f x ≡ 0 = All-head (λ x. f x ≡ 0) x xs all in
    omega (arith, sum_by-cons f x xs, here, sum-zero f xs (All-tail (λ x. f x ≡ 0) x xs all))

All-map : (P Q : Item → Type 0) → ((x : Item) → P x → Q x) → (xs : List Item) → All P xs → All Q xs
All-map P Q step x3 all = grind (arith, nat_tests, All-cons, All-head, All-tail)

abbrev above : ℕ → Item → ℕ
above s x = cond (nat_lt s x.serial) 1 0

not_above : (s : ℕ) (x : Item) → x.serial ≤ s → above s x ≡ 0
not_above s x low = grind (arith, nat_tests)

is_above : (s : ℕ) (x : Item) → s < x.serial → above s x ≡ 1
is_above s x high = grind (arith, nat_tests)

-- no item of a list with the same sums is above the bound
bounded :
    (s : ℕ) (x : Item) (xs ys : List Item) → SameSums (x ∷ xs) ys → All (λ y. y.serial ≤ s) ys → x.serial ≤ s
bounded s x xs ys same all = grind (arith, nat_tests, sum-zero (above s) ys, All-map, not_above s, sum_by-cons (above s) x xs, leb_tells (suc s) x.serial, is_above s x)

abbrev at : ℕ → (Item → ℕ) → Item → ℕ
at s g x = cond (x.serial == s) (g x) 0

at-here : (s : ℕ) (g : Item → ℕ) (x : Item) → x.serial ≡ s → at s g x ≡ g x
at-here s g x is = grind (arith, nat_tests)

at-below : (s : ℕ) (g : Item → ℕ) (x : Item) → x.serial < s → at s g x ≡ 0
at-below s g x low = grind (arith, nat_tests)

abbrev pub const_one : Item → ℕ
const_one x = 1

none_at : (s : ℕ) (g : Item → ℕ) (xs : List Item) → sum_by (at s const_one) xs ≡ 0 → sum_by (at s g) xs ≡ 0
none_at s g [] none = refl
none_at s g (x ∷ xs) none = grind (arith, nat_tests, sum_by-cons (at s const_one) x xs, sum_by-cons (at s g) x xs, eqb_tells x.serial s, at-here s const_one x, none_at s g xs)

abbrev item_from : ℕ → ℕ → ℕ → Item
item_from kind key serial = record { kind = record { 0 = kind }; key = key; serial = serial }

same_item : (x y : Item) → x.kind.0 ≡ y.kind.0 → x.key ≡ y.key → x.serial ≡ y.serial → x ≡ y
same_item x y kinds keys serials = grind (arith, nat_tests)

-- the first of both is the same
same_first :
    (x y : Item) (xs ys : List Item) → All (λ z. z.serial < x.serial) xs → All (λ z. z.serial ≤ y.serial) ys →
    SameSums (x ∷ xs) (y ∷ ys) → x ≡ y
same_first x y xs ys falling sinking same =
    let low : x.serial ≤ y.serial =
    bounded y.serial x xs (y ∷ ys) same (All-cons (λ z. z.serial ≤ y.serial) y ys (omega arith) sinking)
    in
    let high : y.serial ≤ x.serial =
    bounded x.serial y ys (x ∷ xs) (λ f. sym (same f))
    (All-cons (λ z. z.serial ≤ x.serial) x xs (omega arith)
    (All-map (λ z. z.serial < x.serial) (λ z. z.serial ≤ x.serial) (λ z below. omega arith) xs falling))
    in
    let serials : x.serial ≡ y.serial = omega arith in
    let each : (g : Item → ℕ) → g x ≡ g y =
    λ g.
    let xs_none : (h : Item → ℕ) → sum_by (at x.serial h) xs ≡ 0 =
    λ h. sum-zero (at x.serial h) xs (All-map (λ z. z.serial < x.serial) (λ z. at x.serial h z ≡ 0) (λ z below. at-below x.serial h z below) xs falling)
    in
    let ys_one : sum_by (at x.serial const_one) ys ≡ 0 =
    omega (
      arith,
      same (at x.serial const_one),
      sum_by-cons (at x.serial const_one) x xs,
      sum_by-cons (at x.serial const_one) y ys,
      at-here x.serial const_one x refl,
      at-here x.serial const_one y (sym serials),
      xs_none const_one,
    )
    in
    omega (
      arith,
      same (at x.serial g),
      sum_by-cons (at x.serial g) x xs,
      sum_by-cons (at x.serial g) y ys,
      at-here x.serial g x refl,
      at-here x.serial g y (sym serials),
      xs_none g,
      none_at x.serial g ys ys_one,
    )
    in
    same_item x y (each (λ z. z.kind.0)) (each (λ z. z.key)) serials

-- a list by falling serials is the only one with its sums
pub only_one : (xs ys : List Item) → AreFalling xs → AreSinking ys → SameSums xs ys → ys ≡ xs
only_one [] [] falling sinking same = refl
only_one [] (y ∷ ys) falling sinking same = grind (arith, nat_tests, sum_by-cons const_one y ys)
only_one (x ∷ xs) [] falling sinking same = grind (arith, nat_tests, sum_by-cons const_one x xs)
only_one (x ∷ xs) (y ∷ ys) falling sinking same =
    let first : x ≡ y = same_first x y xs ys falling.0 sinking.0 same in
    let rest : ys ≡ xs =
    only_one xs ys falling.1 sinking.1
    (λ f. omega (arith, same f, sum_by-cons f x xs, sum_by-cons f y ys, ap f first))
    in
    ap (λ z. z ∷ ys) (sym first) ∙ ap (λ z. x ∷ z) rest

pub sinking : (xs : List Item) → AreFalling xs → AreSinking xs
sinking [] falling = tt
sinking (x ∷ xs) falling = grind (arith, nat_tests, All-map, sinking xs falling.1)

pub All-with_newer : (P : Item → Type 0) (x : Item) (zs : List Item) → P x → All P zs → All P (with_newer x zs)
All-with_newer P x [] holds all = All-cons P x [] holds all
All-with_newer P x (z ∷ zs) holds all = grind (arith, nat_tests, All-cons, All-head, All-tail, All-with_newer P x zs holds (All-tail P z zs all))

pub All-newest_first : (P : Item → Type 0) (xs : List Item) → All P xs → All P (newest_first xs)
All-newest_first P [] all = all
All-newest_first P (x ∷ xs) all = grind (arith, nat_tests, All-with_newer P x (newest_first xs) (All-head P x xs all) (All-newest_first P xs (All-tail P x xs all)), All-head P x xs all, All-newest_first P xs (All-tail P x xs all), All-tail P x xs all)

pub with_newer-sinking : (x : Item) (zs : List Item) → AreSinking zs → AreSinking (with_newer x zs)
with_newer-sinking x [] sinks = (All-nil (λ z. z.serial ≤ x.serial), tt)
with_newer-sinking x (z ∷ zs) sinks =
    let cases : (b : Bool) → nat_le z.serial x.serial ≡ b → AreSinking (cond b (x ∷ z ∷ zs) (z ∷ with_newer x zs)) =
    elim [
      | true ↦ λ is.
          let low : z.serial ≤ x.serial = grind (arith, nat_tests) in (
            All-cons (λ y. y.serial ≤ x.serial) z zs low
                (All-map (λ y. y.serial ≤ z.serial) (λ y. y.serial ≤ x.serial) (λ y below. omega arith) zs sinks.0),
            sinks,
          )
      | false ↦ λ is.
          let high : x.serial ≤ z.serial = grind (arith, nat_tests) in
          (All-with_newer (λ y. y.serial ≤ z.serial) x zs high sinks.0, with_newer-sinking x zs sinks.1)
    ]
    in
    cases (nat_le z.serial x.serial) refl

pub newest_first-sinking : (xs : List Item) → AreSinking (newest_first xs)
newest_first-sinking [] = tt
newest_first-sinking (x ∷ xs) = with_newer-sinking x (newest_first xs) (newest_first-sinking xs)

with_newer-sum : (f : Item → ℕ) (x : Item) (zs : List Item) → sum_by f (with_newer x zs) ≡ f x + sum_by f zs
with_newer-sum f x [] = sum_by-cons f x []
with_newer-sum f x (z ∷ zs) = grind (arith, nat_tests, with_newer-sum f x zs, sum_by-cons f x (z ∷ zs), sum_by-cons f z (with_newer x zs), sum_by-cons f z zs)

pub newest_first-sum : (f : Item → ℕ) (xs : List Item) → sum_by f (newest_first xs) ≡ sum_by f xs
newest_first-sum f [] = refl
newest_first-sum f (x ∷ xs) = grind (arith, nat_tests, with_newer-sum, sum_by-cons, newest_first-sum f xs)

-- items by falling serial are in their order
pub in_order : (xs : List Item) → AreFalling xs → newest_first xs ≡ xs
in_order xs falling = grind (arith, nat_tests, only_one, newest_first-sinking, newest_first-sum)

-- the same items give the same list
pub same_list : (xs ys : List Item) → AreFalling (newest_first xs) → SameSums xs ys → newest_first ys ≡ newest_first xs
same_list xs ys falling same = grind (arith, nat_tests, only_one, newest_first-sinking, newest_first-sum)

pub sunk_list : (xs ys : List Item) → AreFalling (newest_first xs) → SameSums xs ys → AreSinking ys → ys ≡ newest_first xs
sunk_list xs ys falling same sinks = grind (arith, nat_tests, only_one, newest_first-sum)

-- the list with one item more
pub one_more :
    (xs ys : List Item) (item : Item) → AreFalling (newest_first xs) →
    ((f : Item → ℕ) → sum_by f xs ≡ f item + sum_by f ys) → newest_first xs ≡ with_newer item (newest_first ys)
one_more xs ys item falling same = grind (arith, nat_tests, only_one (newest_first xs) (with_newer item (newest_first ys)) falling, with_newer-sinking item (newest_first ys) (newest_first-sinking ys), newest_first-sinking ys, newest_first-sum, with_newer-sum)

-- where the item stands in it
pub record StandsIn (items : List Item) (item : Item) (rest : List Item) : Type 0 where
  pub split : IsSplit items item rest
  pub newer : All (λ other. item.serial < other.serial) split.front

pub newer_stands : (x : Item) (zs : List Item) → StandsIn (with_newer x zs) x zs
newer_stands x [] =
    record {
      split = record { front = []; back = []; whole = refl; without = refl };
      newer = All-nil (λ z. x.serial < z.serial);
    }
newer_stands x (z ∷ zs) =
    let rest : StandsIn (with_newer x zs) x zs = newer_stands x zs in
    let cases : (b : Bool) → nat_le z.serial x.serial ≡ b → StandsIn (cond b (x ∷ z ∷ zs) (z ∷ with_newer x zs)) x (z ∷ zs) =
    elim [
      | true ↦ λ is.
          record {
            split = record { front = []; back = z ∷ zs; whole = refl; without = refl };
            newer = All-nil (λ y. x.serial < y.serial);
          }
      | false ↦ λ is.
          record {
            split =
                record {
                  front = z ∷ rest.split.front;
                  back = rest.split.back;
                  whole = ap (λ w. z ∷ w) rest.split.whole;
                  without = ap (λ w. z ∷ w) rest.split.without;
                };
            newer = grind (arith, nat_tests, All-cons, x.serial, rest.split.front, rest.newer);
          }
    ]
    in
    cases (nat_le z.serial x.serial) refl

-- sums over the live entries
abbrev pub live_sum : (Item → ℕ) → Entry → ℕ
live_sum f e = cond e.live (f e.item) 0

pub live-sum : (f : Item → ℕ) (es : List Entry) → sum_by f (live_items es) ≡ sum_by (live_sum f) es
live-sum f [] = refl
live-sum f (e ∷ es) = grind (arith, nat_tests, live-sum f es, sum_by-cons (live_sum f) e es, sum_by-cons f e.item (live_items es))

-- entries in another order
pub entries-sums : (es es' : List Entry) → IsPermutation es es' → SameSums (live_items (reverse es)) (live_items (reverse es'))
entries-sums es es' moved f = grind (arith, nat_tests, live-sum f (reverse es), live-sum f (reverse es'), sum_by-IsPermutation (live_sum f) es (reverse es) (IsPermutation-reverse es), sum_by-IsPermutation (live_sum f) es' (reverse es') (IsPermutation-reverse es'), sum_by-IsPermutation (live_sum f) es es' moved, IsPermutation-reverse es, IsPermutation-reverse es')

-- an entry less
pub removed-sums :
    (es es' : List Entry) (e : Entry) → e.live ≡ true → IsPermutation es (e ∷ es') →
    (f : Item → ℕ) → sum_by f (live_items (reverse es)) ≡ f e.item + sum_by f (live_items (reverse es'))
removed-sums es es' e live moved f = grind (arith, nat_tests, live-sum f (reverse es), live-sum f (reverse es'), sum_by-IsPermutation (live_sum f) es (reverse es) (IsPermutation-reverse es), sum_by-IsPermutation (live_sum f) es' (reverse es') (IsPermutation-reverse es'), sum_by-IsPermutation (live_sum f) es (e ∷ es') moved, IsPermutation-reverse es, IsPermutation-reverse es', sum_by-cons (live_sum f) e es')

pub length-sum : (xs : List Item) → sum_by const_one xs ≡ length xs
length-sum [] = refl
length-sum (x ∷ xs) = omega (arith, sum_by-cons const_one x xs, length-sum xs)

pub same_lengths : (xs ys : List Item) → SameSums xs ys → length xs ≡ length ys
same_lengths xs ys same = omega (arith, length-sum xs, length-sum ys, same const_one)

-- how many entries are live
pub live-count : (es : List Entry) → length (live_items (reverse es)) ≡ sum_by (live_sum const_one) es
live-count es = grind (arith, nat_tests, length-sum (live_items (reverse es)), live-sum const_one (reverse es), sum_by-IsPermutation (live_sum const_one) es (reverse es) (IsPermutation-reverse es), IsPermutation-reverse es)

pub live-more :
    (es : List Entry) (i : ℕ) (d : Entry) → i < length es → (get_or es i d).live ≡ true →
    length (live_items (reverse (take i es))) + 1 ≤ length (live_items (reverse es))
live-more es i d within live = grind (arith, nat_tests, live-count es, live-count (take i es), sum_by_more (live_sum const_one) es i d within, sum_by-take-le (live_sum const_one) es (i + 1))
