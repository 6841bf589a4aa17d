-- One more item of an owner.
use Rattle.std.proofs.Common.{◌≡◌, ℕ, ◌+◌, ◌≤◌, Bool, true, false, Option, Some, None, List, [], ◌∷◌, All, refl, sym, ap, ◌∙◌, subst, inl, inr, arith}
use Rattle.std.specs.Prelude.{◌==◌}
use Rattle.std.specs.Option.{option_map_or}
use Rattle.std.proofs.lemmas.Bool.{cases_Bool, cases_eq}
use Rattle.std.proofs.lemmas.List.Elements.{All-cons}
use Rattle.pgs_step.specs.declared.ids.Item.{Item}
use Rattle.pgs_step.specs.declared.ids.KindId.{KindId}
use Rattle.forest.specs.Forest.{Forest, Empty, Node, has, at, changed, Once, parent_of, AllNodes}
use Rattle.forest.proofs.Trees.{at_some, changed_absent}
use Rattle.forest.proofs.Mapped.{at_changed, at_changed_other, parent_changed}
use Rattle.owner_kinds.specs.KindTable.{IsBuiltIn}
use Rattle.owner_items.specs.ItemList.{uses}
use Rattle.owner_core.specs.Owners.{Owner, OwnerTree, owners_of, has_begun, held}
use Rattle.owner_core.proofs.ItemLemmas.{uses-cons}
use Rattle.owner_core.proofs.Releasing.{held_changed}
use Rattle.owner_core.proofs.Sounds.{once_of}
use Rattle.owner_trials.proofs.owners.Session.hold.Goals as goal

abbrev more : Item → Owner → Owner
more item owner = record owner { items = item ∷ owner.items }

held_more : (kind : KindId) (key n : ℕ) (item : Item) (t : OwnerTree) → Once t → held kind key (changed n (more item) t) ≤ held kind key t + uses kind key (item ∷ [])
held_more kind key n item t o =
    elim (cases_Bool (has n t)) [
      | inl h ↦ let w = at_some n t h in omega (arith, held_changed kind key n (more item) w.0 t o w.1, uses-cons kind key item w.0.items)
      | inr h ↦ rw (changed_absent n (more item) t h) (omega arith)
    ]

all_changed : (P : Owner → Type 0) (n : ℕ) (f : Owner → Owner) → ((a : Owner) → P a → P (f a)) → (t : OwnerTree) → AllNodes P t → AllNodes P (changed n f t)
all_changed P n f keeps Empty all = tt
all_changed P n f keeps (Node k a below beside) all =
    elim (cases_Bool (k == n)) [
      | inl y ↦ rw y (keeps a all.0, all_changed P n f keeps below all.1, all_changed P n f keeps beside all.2)
      | inr y ↦ rw y (all.0, all_changed P n f keeps below all.1, all_changed P n f keeps beside all.2)
    ]

pub invariant_of-self-2 : goal.invariant_of-self-2
invariant_of-self-2 c =
    let t : OwnerTree = owners_of c.enlarge.new.self in
    let n : ℕ = c.args.owner.number in
    let item : Item = record { kind = c.args.kind; key = c.args.key; serial = c.enlarge.new.self.next_serial } in
    let added : Item = record { kind = c.args.kind; key = c.args.key; serial = c.self.inside.table.next } in
    let builtin : AllNodes (λ o. All (λ (item : Item). IsBuiltIn item.kind) o.items) t =
    subst (AllNodes (λ o. All (λ (item : Item). IsBuiltIn item.kind) o.items)) (sym c.enlarge.ensures.owners) c.self.invariant.1
    in (
      λ kind key.
          (let same : uses kind key (item ∷ []) ≡ uses kind key (added ∷ []) = refl in
          omega (
            arith,
            same,
            ap (λ (x : OwnerTree). held kind key x) c.remember.ensures.owners,
            held_more kind key n item t (once_of _ _ _ c.spare.ensures.sound),
            ap (λ (x : OwnerTree). held kind key x) c.enlarge.ensures.owners,
            c.self.invariant.0 kind key,
            ap (λ (x : List Item). uses kind key x) c.in_ok-add.ensures.item,
            uses-cons kind key added c.self.inside.table.held.items,
          )),
      subst (AllNodes (λ o. All (λ (item : Item). IsBuiltIn item.kind) o.items)) (sym c.remember.ensures.owners)
          (all_changed (λ o. All (λ (item : Item). IsBuiltIn item.kind) o.items) n (more item)
          (λ o h. All-cons (λ (item : Item). IsBuiltIn item.kind) item o.items c.requires.kind h) t builtin),
      c.add.ensures.fit,
      omega (arith, c.self.invariant.3, c.enlarge.ensures.next_serial, c.remember.ensures.next_serial),
    )

pub returns-clause-parents : goal.returns-clause-parents
returns-clause-parents c m =
    rw (← c.self.view_is)
    (ap (λ (x : OwnerTree). parent_of m x) c.remember.ensures.owners
    ∙ parent_changed m c.args.owner.number (more (record { kind = c.args.kind; key = c.args.key; serial = c.enlarge.new.self.next_serial })) (owners_of c.enlarge.new.self)
    ∙ ap (λ (x : OwnerTree). parent_of m x) c.enlarge.ensures.owners)
