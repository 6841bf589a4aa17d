-- The table's links, as items come and go. Entries stand newest first.
use Rattle.std.proofs.Common.{◌≡◌, ℕ, ◌<◌, ◌≤◌, zero, suc, Bool, true, false, cond, ◌&&◌, ◌==◌, List, [], ◌∷◌, ◌++◌, length, reverse, get_or, set, find, Some, None, refl, ap, arith, length-append}
use Rattle.std.proofs.lemmas.Bool.Decides.{nat_tests}
use Rattle.std.proofs.lemmas.Grind.{reverse_onto}
use Rattle.pgs_step.specs.declared.ids.KindId.{KindId}
use Rattle.pgs_step.specs.declared.ids.Item.{Item}
use Rattle.owner_items.specs.declared.entry.Entry.{Entry}
use Rattle.owner_items.specs.ItemList.{is_of, without_newest}
use Rattle.owner_items.specs.Table.{live_items, newest_in, AreLinked}

-- the entries after the newest live one that passes the test has died
abbrev pub forgotten : (Item → Bool) → List Entry → List Entry
forgotten test [] = []
forgotten test (e ∷ es) = cond (e.live && test e.item) (record e { live = false } ∷ es) (e ∷ forgotten test es)

pub forgotten-length : (test : Item → Bool) (es : List Entry) → length (forgotten test es) ≡ length es
forgotten-length test [] = refl
forgotten-length test (e ∷ es) = grind (arith, nat_tests, forgotten-length test es)

pub forgotten-items : (test : Item → Bool) (es : List Entry) → live_items (forgotten test es) ≡ without_newest test (live_items es)
forgotten-items test [] = refl
forgotten-items test (e ∷ es) = grind (arith, nat_tests, forgotten-items test es)

-- the item that is found
pub find-none : (test : Item → Bool) (es : List Entry) → newest_in test es ≡ None → find test (live_items es) ≡ None
find-none test [] none = refl
find-none test (e ∷ es) none = grind (arith, find-none test es, none)

pub reverse-front : (x : Entry) (xs : List Entry) → reverse (x ∷ xs) ≡ reverse xs ++ x ∷ []
reverse-front x xs = reverse_onto xs x []

pub reverse-length : (xs : List Entry) → length (reverse xs) ≡ length xs
reverse-length [] = refl
reverse-length (x ∷ xs) = grind (arith, nat_tests, reverse-front, length-append, reverse-length xs)

get-back : (xs : List Entry) (x d : Entry) → get_or (xs ++ x ∷ []) (length xs) d ≡ x
get-back [] x d = refl
get-back (y ∷ ys) x d = get-back ys x d

get-front : (xs : List Entry) (x d : Entry) (n : ℕ) → n < length xs → get_or (xs ++ x ∷ []) n d ≡ get_or xs n d
get-front [] x d n within = absurd (omega arith)
get-front (y ∷ ys) x d zero within = refl
get-front (y ∷ ys) x d (suc n) within = get-front ys x d n (omega arith)

set-back : (xs : List Entry) (x y : Entry) → set (xs ++ x ∷ []) (length xs) y ≡ xs ++ y ∷ []
set-back [] x y = refl
set-back (z ∷ zs) x y = ap (λ w. z ∷ w) (set-back zs x y)

set-front : (xs : List Entry) (x y : Entry) (n : ℕ) → n < length xs → set (xs ++ x ∷ []) n y ≡ set xs n y ++ x ∷ []
set-front [] x y n within = absurd (omega arith)
set-front (z ∷ zs) x y zero within = refl
set-front (z ∷ zs) x y (suc n) within = ap (λ w. z ∷ w) (set-front zs x y n (omega arith))

pub left-of : (a b : Bool) → (a && b) ≡ true → a ≡ true
left-of x0 b is = grind (arith, nat_tests)

pub right-of : (a b : Bool) → (a && b) ≡ true → b ≡ true
right-of x0 b is = grind (arith, nat_tests)

some-same : (a b : ℕ) → (Some a) ≡ (Some b) → a ≡ b
some-same a b same = cc

-- what the number of the newest says of the entries, oldest first
pub record IsFound (test : Item → Bool) (es : List Entry) (n : ℕ) (e : Entry) : Type 0 where
  pub within : n < length es
  pub live : e.live ≡ true
  pub passes : test e.item ≡ true
  pub first : find test (live_items es) ≡ Some e.item
  pub after : set (reverse es) n (record e { live = false }) ≡ reverse (forgotten test es)
  pub here : (d : Entry) → get_or (reverse es) n d ≡ e
  pub next : AreLinked es → is_of e.item.kind e.item.key ≡ test → newest_in test (forgotten test es) ≡ e.older
  pub unseen : (other : Item → Bool) → ((x : Item) → test x ≡ true → other x ≡ false) → newest_in other (forgotten test es) ≡ newest_in other es

abbrev pub Found : (Item → Bool) → List Entry → ℕ → Type 0
Found test es n = (e : Entry) × IsFound test es n e

find-head : (test : Item → Bool) (e : Entry) (es : List Entry) → e.live ≡ true → test e.item ≡ true → IsFound test (e ∷ es) (length es) e
find-head test e es live passes = grind (arith, nat_tests, reverse-front, set, reverse-length, set-back, get-back)

find-tail :
    (test : Item → Bool) (x : Entry) (es : List Entry) (n : ℕ) (e : Entry) → (x.live && test x.item) ≡ false →
    IsFound test es n e → IsFound test (x ∷ es) n e
find-tail test x es n e fails found = grind (arith, nat_tests, reverse-length, reverse-front, set-front, get-front, forgotten-length)

pub found_in : (test : Item → Bool) (es : List Entry) (n : ℕ) → newest_in test es ≡ Some n → Found test es n
found_in test [] n is = absurd cc
found_in test (e ∷ es) n is = grind (arith, nat_tests, some-same (length es) n, find-head test e es, left-of e.live (test e.item), right-of e.live (test e.item), found_in test es n, find-tail test e es n)

pub is_of-kind : (kind : KindId) (key : ℕ) (x : Item) → is_of kind key x ≡ true → x.kind ≡ kind
is_of-kind kind key x is = grind (arith, nat_tests, left-of)

pub is_of-key : (kind : KindId) (key : ℕ) (x : Item) → is_of kind key x ≡ true → x.key ≡ key
is_of-key kind key x is = grind (arith, nat_tests, right-of (x.kind.0 == kind.0) (x.key == key) is)

pub same_pair : (kind : KindId) (key : ℕ) (x : Item) → is_of kind key x ≡ true → is_of x.kind x.key ≡ is_of kind key
same_pair kind key x is = grind (arith, nat_tests, is_of-kind, is_of-key)

pub itself : (x : Item) → is_of x.kind x.key x ≡ true
itself x = grind (arith, nat_tests)

-- two tests of pairs that one item tells apart never both pass
apart : (kind other : KindId) (key q : ℕ) (x : Item) → is_of kind key x ≡ false → is_of other q x ≡ true → (y : Item) → is_of kind key y ≡ true → is_of other q y ≡ false
apart kind other key q x fails that y here = grind (arith, nat_tests, is_of-kind, is_of-key)

pub forgotten-linked :
    (kind : KindId) (key : ℕ) (es : List Entry) (n : ℕ) → newest_in (is_of kind key) es ≡ Some n → AreLinked es →
    AreLinked (forgotten (is_of kind key) es)
forgotten-linked kind key [] n is linked = tt
forgotten-linked kind key (e ∷ es) n is linked = grind (arith, nat_tests, found_in (is_of kind key) es n, apart kind e.item.kind key e.item.key e.item, itself e.item, forgotten-linked kind key es n)

pub reverse-back : {X : Type 0} (xs : List X) (x : X) → reverse (xs ++ x ∷ []) ≡ x ∷ reverse xs
reverse-back [] x = refl
reverse-back (y ∷ ys) x = grind (arith, nat_tests, reverse_onto, reverse-back ys x)

pub live-length : (es : List Entry) → length (live_items es) ≤ length es
live-length [] = omega arith
live-length (e ∷ es) = grind (arith, nat_tests, live-length es)
