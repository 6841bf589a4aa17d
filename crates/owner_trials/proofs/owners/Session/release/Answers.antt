-- A phase of a session's owners.
use Rattle.std.proofs.Common.{◌≡◌, ℕ, ◌+◌, ◌≤◌, ◌<◌, Bool, true, false, Option, Some, None, List, [], ◌∷◌, All, refl, sym, ap, ◌∙◌, subst, inl, inr, arith}
use Rattle.std.specs.Prelude.{◌==◌}
use Rattle.std.proofs.lemmas.Bool.{cases_Bool}
use Rattle.std.proofs.lemmas.List.Elements.{All-filter}
use Rattle.pgs_step.specs.declared.ids.Item.{Item}
use Rattle.pgs_step.specs.declared.ids.KindId.{KindId}
use Rattle.pgs_step.specs.declared.ids.Phase.{Phase}
use Rattle.pgs_step.specs.declared.ids.Phase.TheVariants.{BeforeLocks, Locks, AfterLocks}
use Rattle.forest.specs.Forest.{Forest, Empty, Node, either, has, at, children, parent_of, AllNodes}
use Rattle.forest.proofs.Trees.{at_some, at_absent}
use Rattle.owner_kinds.specs.KindShelf.{table_of}
use Rattle.owner_kinds.specs.KindTable.{KindTable, IsBuiltIn, IsKind}
use Rattle.owner_items.specs.ItemList.{uses}
use Rattle.owner_core.specs.Owners.{Owner, OwnerTree, owners_of, held, subtree_of}
use Rattle.owner_core.specs.Released.{left_of, own_released}
use Rattle.owner_core.proofs.Swept.{all_below, all_swept, parent_swept}
use Rattle.owner_trials.proofs.owners.Session.release.Goals as goal

all_more : (P Q : Owner → Type 0) → ((a : Owner) → P a → Q a) → (t : OwnerTree) → AllNodes P t → AllNodes Q t
all_more P Q f Empty all = tt
all_more P Q f (Node k b below beside) all = (f b all.0, all_more P Q f below all.1, all_more P Q f beside all.2)

module _ (kind : KindId) (key : ℕ) where
  held_one : (n : ℕ) (a : Owner) (t : OwnerTree) → at n t ≡ Some a → uses kind key a.items + held kind key (children n t) ≤ held kind key t
  held_one n a Empty h = absurd (cc)
  held_one n a (Node k b below beside) h =
      elim (cases_Bool (k == n)) [
        | inl y ↦
            let same : b ≡ a = let w : Some b ≡ Some a = rw y at h in cc in
            let e : uses kind key b.items ≡ uses kind key a.items = ap (λ (o : Owner). uses kind key o.items) same in
            rw y (omega (arith, e))
        | inr y ↦ elim (cases_Bool (has n below)) [
          | inl u ↦
              let w = at_some n below u in
              let r : at n below ≡ Some a = let z : either (at n below) (at n beside) ≡ Some a = rw y at h in w.1 ∙ (rw w.1 at z) in
              rw (y, u) (omega (arith, held_one n a below r))
          | inr u ↦
              let r : at n beside ≡ Some a = rw (y, at_absent n below u) at h in
              rw (y, u) (omega (arith, held_one n a beside r))
        ]
      ]

  held_below : (n : ℕ) (t : OwnerTree) → held kind key (subtree_of n t) ≤ held kind key t
  held_below n t =
      elim (cases_Bool (has n t)) [
        | inl h ↦ let w = at_some n t h in rw w.1 (omega (arith, held_one n w.0 t w.1))
        | inr h ↦ rw (at_absent n t h) (omega arith)
      ]

left_all : (Q : Item → Type 0) (kinds : KindTable) (phase : Phase) (items : List Item) → All Q items → All Q (left_of kinds phase items)
left_all Q kinds BeforeLocks items h = All-filter _ Q items h
left_all Q kinds Locks items h = h
left_all Q kinds AfterLocks items h = All-filter _ Q items h

pub release-requires-clause-kinds : goal.release-requires-clause-kinds
release-requires-clause-kinds c =
    all_below (λ o. All (λ (item : Item). IsKind (table_of c.self.inside.table.kinds) item.kind) o.items) c.args.owner.number (owners_of c.self.inside.owners)
    (all_more (λ o. All (λ (item : Item). IsBuiltIn item.kind) o.items) (λ o. All (λ (item : Item). IsKind (table_of c.self.inside.table.kinds) item.kind) o.items)
    (λ o h k d within. inl (h k d within)) (owners_of c.self.inside.owners) c.self.invariant.1)

pub release-requires-clause-counted : goal.release-requires-clause-counted
release-requires-clause-counted c kind key =
    omega (arith, held_below kind key c.args.owner.number (owners_of c.self.inside.owners), c.self.invariant.0 kind key)

pub invariant_of-self : goal.invariant_of-self
invariant_of-self c =
    let kinds : KindTable = table_of c.self.inside.table.kinds in (
      λ kind key. omega (arith, c.release.ensures.counted kind key, c.self.invariant.0 kind key),
      subst (AllNodes (λ o. All (λ (item : Item). IsBuiltIn item.kind) o.items)) (sym c.release.ensures.owners)
          (all_swept (λ o. All (λ (item : Item). IsBuiltIn item.kind) o.items) (own_released kinds c.args.phase)
          (λ o h. left_all (λ item. IsBuiltIn item.kind) kinds c.args.phase o.items h) c.args.owner.number (owners_of c.self.inside.owners) c.self.invariant.1),
      c.release.ensures.fit,
      c.self.invariant.3 ∙ sym c.release.ensures.next_serial,
    )

pub returns-clause-parents : goal.returns-clause-parents
returns-clause-parents c n =
    rw (← c.self.view_is)
    (ap (λ (t : OwnerTree). parent_of n t) c.release.ensures.owners
    ∙ parent_swept n (own_released (table_of c.self.inside.table.kinds) c.args.phase) c.args.owner.number (owners_of c.self.inside.owners))

pub returns-clause-built_in : goal.returns-clause-built_in
returns-clause-built_in c = rw (← c.self.view_is) c.self.invariant.1

pub returns-clause-owners : goal.returns-clause-owners
returns-clause-owners c = (table_of c.self.inside.table.kinds, rw (← c.self.view_is) c.release.ensures.owners)
