-- Three phases leave nothing of the kinds that are built in.
use Rattle.std.proofs.Common.{◌≡◌, ◌≢◌, ℕ, ◌≤◌, Bool, true, false, cond, List, [], ◌∷◌, All, refl, sym, ap, subst, inl, inr, arith}
use Rattle.std.specs.Prelude.{filter, not}
use Rattle.std.proofs.lemmas.Bool.{cases_Bool, cases_eq}
use Rattle.std.proofs.lemmas.List.Elements.{All-nil, All-cons, All-head, All-tail}
use Rattle.pgs_step.specs.declared.ids.Item.{Item}
use Rattle.pgs_step.specs.declared.ids.KindId.{KindId}
use Rattle.pgs_step.specs.declared.ids.Phase.TheVariants.{BeforeLocks, Locks, AfterLocks}
use Rattle.owner_kinds.specs.KindTable.{KindTable, IsBuiltIn, row_of}
use Rattle.owner_items.specs.Next.{is_of_phase}
use Rattle.owner_core.specs.Owners.{Owner, OwnerTree, owners_of, AllAt, HoldsNothing}
use Rattle.owner_core.specs.Released.{own_released}
use Rattle.owner_core.proofs.Swept.{all_from, all_below}
use Rattle.owner_trials.proofs.owners.release_phases.Goals as goal

-- items of this item's kind go behind the locks
abbrev GoesLast : Item → Type 0
GoesLast item = (kinds : KindTable) → is_of_phase kinds AfterLocks item ≡ true

goes_last : (kinds : KindTable) (item : Item) → IsBuiltIn item.kind → is_of_phase kinds BeforeLocks item ≡ false → (other : KindTable) → is_of_phase other AfterLocks item ≡ true
unfolding row_of
goes_last kinds item built_in stays other =
    elim (cases_eq item.kind.0 1) [
      | inl e ↦ let wrong : true ≡ false = rw e at stays in absurd (cc wrong)
      | inr n1 ↦ elim (cases_eq item.kind.0 2) [
        | inl e ↦ let wrong : true ≡ false = rw e at stays in absurd (cc wrong)
        | inr n2 ↦ elim (cases_eq item.kind.0 3) [
          | inl e ↦ rw e refl
          | inr n3 ↦ elim (cases_eq item.kind.0 4) [
            | inl e ↦ rw e refl
            | inr n4 ↦ elim (cases_eq item.kind.0 5) [
              | inl e ↦ rw e refl
              | inr n5 ↦ elim (cases_eq item.kind.0 6) [
                | inl e ↦ rw e refl
                | inr n6 ↦ elim (cases_eq item.kind.0 7) [
                  | inl e ↦ rw e refl
                  | inr n7 ↦ elim (cases_eq item.kind.0 8) [
                    | inl e ↦ rw e refl
                    | inr n8 ↦ absurd (omega (arith, built_in.from, built_in.to, n1, n2, n3, n4, n5, n6, n7, n8))
                  ]
                ]
              ]
            ]
          ]
        ]
      ]
    ]

before_left : (kinds : KindTable) (items : List Item) → All (λ item. IsBuiltIn item.kind) items → All GoesLast (filter (λ item. not (is_of_phase kinds BeforeLocks item)) items)
before_left kinds [] all = All-nil GoesLast
before_left kinds (item ∷ items) all =
    let rest = before_left kinds items (All-tail (λ (x : Item). IsBuiltIn x.kind) item items all) in
    elim (cases_Bool (is_of_phase kinds BeforeLocks item)) [
      | inl y ↦ rw y rest
      | inr y ↦ rw y (All-cons GoesLast item _ (goes_last kinds item (All-head (λ (x : Item). IsBuiltIn x.kind) item items all) y) rest)
    ]

after_left : (kinds : KindTable) (items : List Item) → All GoesLast items → filter (λ item. not (is_of_phase kinds AfterLocks item)) items ≡ []
after_left kinds [] all = refl
after_left kinds (item ∷ items) all =
    rw (All-head GoesLast item items all kinds) (after_left kinds items (All-tail GoesLast item items all))

abbrev Whole : Owner → Type 0
Whole owner = All (λ item. IsBuiltIn item.kind) owner.items

abbrev Late : Owner → Type 0
Late owner = All GoesLast owner.items

pub returns-clause-empty : goal.returns-clause-empty
returns-clause-empty c =
    let n : ℕ = c.args.owner.number in
    let first = c.release.ensures.owners in
    let second = c.release-2.ensures.owners in
    let third = c.release-3.ensures.owners in
    let one : AllAt Late n (owners_of c.release.new.self) =
    subst (AllAt Late n) (sym first.1)
    (all_from Whole Late (own_released first.0 BeforeLocks) (λ o h. before_left first.0 o.items h) n (owners_of c.args.session.now)
    (all_below Whole n (owners_of c.args.session.now) c.release.ensures.built_in)) in
    let two : AllAt Late n (owners_of c.release-2.new.self) =
    subst (AllAt Late n) (sym second.1) (all_from Late Late (own_released second.0 Locks) (λ o h. h) n (owners_of c.release.new.self) one) in
    subst (AllAt HoldsNothing n) (sym third.1)
    (all_from Late HoldsNothing (own_released third.0 AfterLocks) (λ o h. after_left third.0 o.items h) n (owners_of c.release-2.new.self) two)
