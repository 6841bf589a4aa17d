-- An item that the table gets back.
use Rattle.std.proofs.Common.{◌≡◌, ℕ, ◌+◌, ◌<◌, Bool, true, false, cond, Option, Some, List, [], ◌∷◌, refl, sym, ap, ◌∙◌, arith, inl, inr, find, eqb}
use Rattle.std.specs.Prelude.{◌==◌, ◌&&◌}
use Rattle.std.specs.List.{count_by}
use Rattle.std.proofs.lemmas.Bool.{cases_Bool, and_parts, eqb-true}
use Rattle.std.proofs.lemmas.List.Sums.{sum_by-cons}
use Rattle.pgs_step.specs.declared.ids.Item.{Item}
use Rattle.pgs_step.specs.declared.ids.KindId.{KindId}
use Rattle.owner_items.specs.ItemList.{is_of, uses, without_newest}
use Rattle.owner_items.proofs.Uses.{count-without}
use Rattle.owner_items.proofs.Order.{All-without}
use Rattle.owner_trials.proofs.owners.TableRelease.give_back.Goals as goal

-- an item that counts is found
record Found (test : Item → Bool) (items : List Item) : Type 0 where
  pub item : Item
  pub is : find test items ≡ Some item
  pub passes : test item ≡ true

found_more : (test : Item → Bool) (x : Item) (xs : List Item) → test x ≡ false → Found test xs → Found test (x ∷ xs)
found_more test x xs y rest = record { item = rest.item; is = rw y rest.is; passes = rest.passes }

found : (test : Item → Bool) (items : List Item) → 0 < count_by test items → Found test items
found test [] h = absurd (omega (arith, h))
found test (x ∷ xs) h =
    let e : count_by test (x ∷ xs) ≡ cond (test x) 1 0 + count_by test xs = sum_by-cons (λ (z : Item). cond (test z) 1 0) x xs in
    elim (cases_Bool (test x)) [
      | inl y ↦ record { item = x; is = rw y refl; passes = y }
      | inr y ↦
          let n : ◌≡◌ {A = ℕ} (cond (test x) 1 0) 0 = ap {B = ℕ} (λ b. cond b 1 0) y in
          found_more test x xs y (found test xs (omega (arith, h, e, n)))
    ]

same_kind : (kind : KindId) (key : ℕ) (x item : Item) → is_of item.kind item.key x ≡ true → is_of kind key x ≡ is_of kind key item
same_kind kind key x item h =
    let p = and_parts (x.kind.0 == item.kind.0) (x.key == item.key) h in
    let a : x.kind.0 ≡ item.kind.0 = eqb-true x.kind.0 item.kind.0 p.0 in
    let b : x.key ≡ item.key = eqb-true x.key item.key p.1 in
    ap (λ (n : ℕ). (n == kind.0) && (x.key == key)) a ∙ ap (λ (n : ℕ). (item.kind.0 == kind.0) && (n == key)) b

pub returns-clause-counted : goal.returns-clause-counted
returns-clause-counted g c kind key =
    let item : Item = c.args.item in
    let f : Found (is_of item.kind item.key) c.args.self.now.held.items = found (is_of item.kind item.key) c.args.self.now.held.items c.requires.counted in
    let e : uses kind key c.args.self.now.held.items ≡ cond (is_of kind key f.item) 1 0 + uses kind key (without_newest (is_of item.kind item.key) c.args.self.now.held.items) =
    count-without (is_of kind key) (is_of item.kind item.key) c.args.self.now.held.items f.item f.is
    in
    let s : ◌≡◌ {A = ℕ} (cond (is_of kind key f.item) 1 0) (cond (is_of kind key item) 1 0) = ap {B = ℕ} (λ b. cond b 1 0) (same_kind kind key f.item item f.passes) in
    let r : uses kind key c.forget.new.self.items ≡ uses kind key (without_newest (is_of item.kind item.key) c.args.self.now.held.items) = ap (uses kind key) c.forget.ensures.rest in
    omega (arith, e, s, r)

pub returns-clause-fit : goal.returns-clause-fit
returns-clause-fit g c =
    rw c.forget.ensures.rest
    (All-without (λ (item : Item). item.serial < c.args.self.now.next) (is_of c.args.item.kind c.args.item.key) c.args.self.now.held.items c.requires.fit)
