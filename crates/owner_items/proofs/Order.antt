-- An item that is taken out of the items, which stand newest first.
use Rattle.std.proofs.Common.{◌≡◌, ℕ, ◌<◌, ◌≤◌, Bool, true, false, not, cond, ◌==◌, List, [], ◌∷◌, ◌++◌, filter, All, refl, ◌∙◌, ap, arith}
use Rattle.std.proofs.lemmas.Bool.Decides.{nat_tests}
use Rattle.std.proofs.lemmas.List.Elements.{All-nil, All-cons, All-head, All-tail}
use Rattle.pgs_step.specs.declared.ids.Item.{Item}
use Rattle.owner_items.specs.ItemList.{AreFalling, without_newest, without_serial}
use Rattle.owner_items.specs.Next.{with_item, by_rank}

-- the items of a phase in the order of their release
abbrev pub order : (Item → Bool) → (Item → ℕ) → List Item → List Item
order test rank items = by_rank rank (filter test items)

-- the items are these in front of one, that one, and those behind it
pub record IsSplit (items : List Item) (item : Item) (rest : List Item) : Type 0 where
  pub front : List Item
  pub back : List Item
  pub whole : items ≡ front ++ item ∷ back
  pub without : rest ≡ front ++ back

with_item-first : (rank : Item → ℕ) (x : Item) (zs : List Item) → All (λ z. rank x ≤ rank z) zs → with_item rank x zs ≡ x ∷ zs
with_item-first rank x [] least = refl
with_item-first rank x (z ∷ zs) least = grind (arith, nat_tests, All-head)

All-with_item : (P : Item → Type 0) (rank : Item → ℕ) (x : Item) (zs : List Item) → P x → All P zs → All P (with_item rank x zs)
All-with_item P rank x [] holds all = All-cons P x [] holds all
All-with_item P rank x (z ∷ zs) holds all = grind (arith, nat_tests, All-cons, All-head, All-tail, All-with_item P rank x zs holds (All-tail P z zs all))

All-order : (P : Item → Type 0) (test : Item → Bool) (rank : Item → ℕ) (xs : List Item) → All (λ x. test x ≡ true → P x) xs → All P (order test rank xs)
All-order P test rank [] all = All-nil P
All-order P test rank (x ∷ xs) all =
    let rest : All P (order test rank xs) = All-order P test rank xs (All-tail (λ x. test x ≡ true → P x) x xs all) in
    let here : test x ≡ true → P x = All-head (λ x. test x ≡ true → P x) x xs all in
    let cases : (b : Bool) → test x ≡ b → All P (by_rank rank (cond b (x ∷ filter test xs) (filter test xs))) =
    elim [
      | true ↦ λ is. All-with_item P rank x (order test rank xs) (here is) rest
      | false ↦ λ is. rest
    ]
    in
    cases (test x) refl

with_item-some : (rank : Item → ℕ) (x : Item) (zs : List Item) → with_item rank x zs ≡ [] → ⊥
with_item-some rank x [] wrong = cc
with_item-some rank x (z ∷ zs) wrong = grind (arith, nat_tests)

-- the first of the least rank comes first
order-take :
    (test : Item → Bool) (rank : Item → ℕ) (front back : List Item) (x : Item) → test x ≡ true →
    All (λ z. test z ≡ true → rank x < rank z) front → All (λ z. test z ≡ true → rank x ≤ rank z) back →
    order test rank (front ++ x ∷ back) ≡ x ∷ order test rank (front ++ back)
order-take test rank [] back x passes above least =
    let first : with_item rank x (order test rank back) ≡ x ∷ order test rank back =
    with_item-first rank x (order test rank back) (All-order (λ z. rank x ≤ rank z) test rank back least)
    in
    grind (arith, passes, first)
order-take test rank (y ∷ front) back x passes above least =
    let here : test y ≡ true → rank x < rank y = All-head (λ z. test z ≡ true → rank x < rank z) y front above in
    let rest : order test rank (front ++ x ∷ back) ≡ x ∷ order test rank (front ++ back) =
    order-take test rank front back x passes (All-tail (λ z. test z ≡ true → rank x < rank z) y front above) least
    in
    let cases :
    (b : Bool) → test y ≡ b →
    by_rank rank (cond b (y ∷ filter test (front ++ x ∷ back)) (filter test (front ++ x ∷ back)))
    ≡ x ∷ by_rank rank (cond b (y ∷ filter test (front ++ back)) (filter test (front ++ back))) =
    elim [
      | true ↦ λ is. ap (with_item rank y) rest ∙ (let behind : rank x < rank y = here is in grind arith)
      | false ↦ λ is. rest
    ]
    in
    cases (test y) refl

pub All-front : (P : Item → Type 0) (front back : List Item) → All P (front ++ back) → All P front
All-front P [] back all = All-nil P
All-front P (x ∷ front) back all = grind (arith, nat_tests, All-cons, All-head, All-tail, All-front P front back (All-tail P x (front ++ back) all))

pub All-back : (P : Item → Type 0) (front back : List Item) → All P (front ++ back) → All P back
All-back P [] back all = all
All-back P (x ∷ front) back all = All-back P front back (All-tail P x (front ++ back) all)

pub All-both : (P : Item → Type 0) (front back : List Item) → All P front → All P back → All P (front ++ back)
All-both P [] back all also = also
All-both P (x ∷ front) back all also = grind (arith, nat_tests, All-cons, All-head, All-tail, All-both P front back (All-tail P x front all) also)

All-less : (P : Item → Type 0) (front back : List Item) (x : Item) → All P (front ++ x ∷ back) → All P (front ++ back)
All-less P front back x all = grind (arith, nat_tests, All-both P front back (All-front P front (x ∷ back) all) (All-tail P x back (All-back P front (x ∷ back) all)), All-front P front (x ∷ back) all, All-tail P x back (All-back P front (x ∷ back) all), All-back P front (x ∷ back) all)

pub split-All : (P : Item → Type 0) (items : List Item) (item : Item) (rest : List Item) → IsSplit items item rest → All P items → All P rest
split-All P items item rest split all = rw split.without (All-less P split.front split.back item (rw split.whole at all))

falling-less : (front back : List Item) (x : Item) → AreFalling (front ++ x ∷ back) → AreFalling (front ++ back)
falling-less [] back x falling = falling.1
falling-less (y ∷ front) back x falling =
    (All-less (λ z. z.serial < y.serial) front back x falling.0, falling-less front back x falling.1)

pub split-falling : (items : List Item) (item : Item) (rest : List Item) → IsSplit items item rest → AreFalling items → AreFalling rest
split-falling items item rest split falling = rw split.without (falling-less split.front split.back item (rw split.whole at falling))

serial-less : (front back : List Item) (x : Item) → AreFalling (front ++ x ∷ back) → without_serial x.serial (front ++ x ∷ back) ≡ front ++ back
serial-less [] back x falling = grind (arith, nat_tests)
serial-less (y ∷ front) back x falling =
    let below : x.serial < y.serial =
    All-head (λ z. z.serial < y.serial) x back (All-back (λ z. z.serial < y.serial) front (x ∷ back) falling.0)
    in
    let rest : without_serial x.serial (front ++ x ∷ back) ≡ front ++ back = serial-less front back x falling.1 in
    let other : (y.serial == x.serial) ≡ false = grind (arith, nat_tests) in
    grind (arith, rest, other)

-- the item is known by its serial
pub split-rest :
    (items : List Item) (item : Item) (rest : List Item) → IsSplit items item rest → AreFalling items →
    rest ≡ without_serial item.serial items
split-rest items item rest split falling = grind (arith, nat_tests, serial-less)

left-less :
    (test : Item → Bool) (front back : List Item) (x : Item) → test x ≡ true →
    filter (λ z. not (test z)) (front ++ back) ≡ filter (λ z. not (test z)) (front ++ x ∷ back)
left-less test [] back x passes = grind (arith, passes)
left-less test (y ∷ front) back x passes = grind (arith, left-less test front back x passes)

pub split-left :
    (test : Item → Bool) (items : List Item) (item : Item) (rest : List Item) → IsSplit items item rest → test item ≡ true →
    filter (λ z. not (test z)) rest ≡ filter (λ z. not (test z)) items
split-left test items item rest split passes = grind (arith, nat_tests, left-less)

pub split-order :
    (test : Item → Bool) (rank : Item → ℕ) (items : List Item) (item : Item) (rest : List Item) →
    (split : IsSplit items item rest) → test item ≡ true → All (λ z. test z ≡ true → rank item < rank z) split.front →
    All (λ z. test z ≡ true → rank item ≤ rank z) split.back → order test rank items ≡ item ∷ order test rank rest
split-order test rank items item rest split passes above least = grind (arith, nat_tests, order-take)

pub order-none : (test : Item → Bool) (rank : Item → ℕ) (xs : List Item) → All (λ x. test x ≡ false) xs → order test rank xs ≡ []
order-none test rank [] none = refl
order-none test rank (x ∷ xs) none =
    let first : test x ≡ false = All-head (λ x. test x ≡ false) x xs none in
    let rest : order test rank xs ≡ [] = order-none test rank xs (All-tail (λ x. test x ≡ false) x xs none) in
    grind (arith, first, rest)

pub All-without : (P : Item → Type 0) (test : Item → Bool) (xs : List Item) → All P xs → All P (without_newest test xs)
All-without P test [] all = all
All-without P test (x ∷ xs) all = grind (arith, nat_tests, All-tail P x xs all, All-cons P x (without_newest test xs) (All-head P x xs all) (All-without P test xs (All-tail P x xs all)), All-head P x xs all, All-without P test xs (All-tail P x xs all))

pub falling-without : (test : Item → Bool) (xs : List Item) → AreFalling xs → AreFalling (without_newest test xs)
falling-without test [] falling = tt
falling-without test (x ∷ xs) falling =
    elim (test x) as (λ b. AreFalling (cond b xs (x ∷ without_newest test xs))) [
      | true ↦ falling.1
      | false ↦ (All-without (λ z. z.serial < x.serial) test xs falling.0, falling-without test xs falling.1)
    ]

-- a list with an element is not empty
pub not_both : {X : Type 0} (xs ys : List X) (x : X) → xs ≡ x ∷ ys → (true ≡ false → xs ≡ []) × (xs ≡ [] → true ≡ false)
not_both xs ys x is = (λ wrong. absurd cc, λ none. absurd cc)

-- where a phase has no item left, its items are those that it leaves
pub nothing-left :
    (test : Item → Bool) (rank : Item → ℕ) (xs : List Item) → order test rank xs ≡ [] → filter (λ x. not (test x)) xs ≡ xs
nothing-left test rank [] none = refl
nothing-left test rank (x ∷ xs) none = grind (arith, nat_tests, not, with_item-some, nothing-left test rank xs)
