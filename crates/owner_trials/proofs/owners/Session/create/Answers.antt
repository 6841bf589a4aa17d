-- A new owner holds nothing.
use Rattle.std.proofs.Common.{◌≡◌, ℕ, ◌+◌, ◌<◌, ◌≤◌, Bool, true, false, Option, Some, None, List, [], ◌∷◌, All, refl, sym, ap, ◌∙◌, subst, inl, inr, arith}
use Rattle.std.specs.Prelude.{◌==◌}
use Rattle.std.specs.Option.{option_map}
use Rattle.std.proofs.lemmas.Bool.{cases_Bool, ne_eqb}
use Rattle.std.proofs.lemmas.List.Elements.{All-nil}
use Rattle.pgs_step.specs.declared.ids.Item.{Item}
use Rattle.pgs_step.specs.declared.ids.KindId.{KindId}
use Rattle.forest.specs.Forest.{Forest, Empty, Node, parent_of, put, AllNodes}
use Rattle.owner_kinds.specs.KindTable.{IsBuiltIn}
use Rattle.owner_core.specs.Owners.{Owner, OwnerTree, owners_of, held, created}
use Rattle.owner_core.proofs.Placed.{parent_entered}
use Rattle.owner_trials.proofs.owners.Session.create.Goals as goal

abbrev none : Owner
none = record { begun = false; items = [] }

held_put : (kind : KindId) (key p n : ℕ) (t : OwnerTree) → held kind key (put p n none Empty t) ≡ held kind key t
held_put kind key p n Empty = refl
held_put kind key p n (Node k b below beside) =
    elim (cases_Bool (k == p)) [
      | inl y ↦ rw y (omega (arith, held_put kind key p n beside))
      | inr y ↦ rw y (omega (arith, held_put kind key p n below, held_put kind key p n beside))
    ]

held_created : (kind : KindId) (key : ℕ) (parent : Option ℕ) (n : ℕ) (t : OwnerTree) → held kind key (created parent n t) ≡ held kind key t
held_created kind key None n t = omega arith
held_created kind key (Some p) n t = held_put kind key p n t

module _ (P : Owner → Type 0) (new : P none) where
  all_put : (p n : ℕ) (t : OwnerTree) → AllNodes P t → AllNodes P (put p n none Empty t)
  all_put p n Empty all = tt
  all_put p n (Node k b below beside) all =
      elim (cases_Bool (k == p)) [
        | inl y ↦ rw y (all.0, (new, tt, all.1), all_put p n beside all.2)
        | inr y ↦ rw y (all.0, all_put p n below all.1, all_put p n beside all.2)
      ]

  pub all_created : (parent : Option ℕ) (n : ℕ) (t : OwnerTree) → AllNodes P t → AllNodes P (created parent n t)
  all_created None n t all = (new, tt, all)
  all_created (Some p) n t all = all_put p n t all

pub invariant_of-self-2 : goal.invariant_of-self-2
invariant_of-self-2 c =
    let parent : Option ℕ = option_map (λ p. p.number) c.args.parent in
    let n : ℕ = c.self.inside.owners.next_owner in
    let t : OwnerTree = owners_of c.self.inside.owners in (
      λ kind key. omega (arith, ap (λ (x : OwnerTree). held kind key x) c.in_ok-owner.ensures.owners, held_created kind key parent n t, c.self.invariant.0 kind key),
      subst (AllNodes (λ o. All (λ (item : Item). IsBuiltIn item.kind) o.items)) (sym c.in_ok-owner.ensures.owners)
          (all_created (λ o. All (λ (item : Item). IsBuiltIn item.kind) o.items) (All-nil (λ (item : Item). IsBuiltIn item.kind)) parent n t c.self.invariant.1),
      c.self.invariant.2,
      c.self.invariant.3 ∙ sym c.create.ensures.next_serial,
    )

pub returns-clause-parents : goal.returns-clause-parents
returns-clause-parents c =
    rw (← c.self.view_is) (λ other live.
    let n : ℕ = c.self.inside.owners.next_owner in
    let older : other.number < n = c.create.ensures.older other live in
    ap (λ (t : OwnerTree). parent_of other.number t) c.in_ok-owner.ensures.owners
    ∙ parent_entered n other.number none (ne_eqb n other.number (λ e. omega (arith, e, older))) (option_map (λ p. p.number) c.args.parent) (owners_of c.self.inside.owners))
