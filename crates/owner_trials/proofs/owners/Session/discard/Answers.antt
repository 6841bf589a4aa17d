-- An owner of a session goes, with all below it.
use Rattle.std.proofs.Common.{◌≡◌, ℕ, ◌+◌, ◌≤◌, Bool, true, false, List, All, sym, ap, ◌∙◌, subst, inl, inr, arith}
use Rattle.std.specs.Prelude.{◌==◌}
use Rattle.std.proofs.lemmas.Bool.{cases_Bool}
use Rattle.pgs_step.specs.declared.ids.Item.{Item}
use Rattle.pgs_step.specs.declared.ids.KindId.{KindId}
use Rattle.forest.specs.Forest.{Forest, Empty, Node, removed, AllNodes}
use Rattle.owner_kinds.specs.KindTable.{IsBuiltIn}
use Rattle.owner_items.specs.ItemList.{uses}
use Rattle.owner_core.specs.Owners.{Owner, OwnerTree, owners_of, held}
use Rattle.owner_trials.proofs.owners.Session.discard.Goals as goal

held_removed : (kind : KindId) (key n : ℕ) (t : OwnerTree) → held kind key (removed n t) ≤ held kind key t
held_removed kind key n Empty = omega arith
held_removed kind key n (Node k a below beside) =
    elim (cases_Bool (k == n)) [
      | inl y ↦ rw y (omega (arith, held_removed kind key n beside))
      | inr y ↦ rw y (omega (arith, held_removed kind key n below, held_removed kind key n beside))
    ]

all_removed : (P : Owner → Type 0) (n : ℕ) (t : OwnerTree) → AllNodes P t → AllNodes P (removed n t)
all_removed P n Empty all = tt
all_removed P n (Node k a below beside) all =
    elim (cases_Bool (k == n)) [
      | inl y ↦ rw y (all_removed P n beside all.2)
      | inr y ↦ rw y (all.0, all_removed P n below all.1, all_removed P n beside all.2)
    ]

pub invariant_of-self : goal.invariant_of-self
invariant_of-self c =
    let n : ℕ = c.args.owner.number in
    let t : OwnerTree = owners_of c.self.inside.owners in (
      λ kind key. omega (arith, ap (λ (x : OwnerTree). held kind key x) c.discard.ensures.owners, held_removed kind key n t, c.self.invariant.0 kind key),
      subst (AllNodes (λ o. All (λ (item : Item). IsBuiltIn item.kind) o.items)) (sym c.discard.ensures.owners)
          (all_removed (λ o. All (λ (item : Item). IsBuiltIn item.kind) o.items) n t c.self.invariant.1),
      c.self.invariant.2,
      c.self.invariant.3 ∙ sym c.discard.ensures.next_serial,
    )
