use Rattle.std.proofs.Common.{◌≡◌, ℕ, ◌+◌, Option, sym, ap, ◌∙◌, subst, IfSome, arith}
use Rattle.std.specs.Option.{option_map}
use Rattle.forest.specs.Forest.{Forest, size}
use Rattle.forest.proofs.Mapped.{mapped-size, mapped-has}
use Rattle.owner_core.specs.Owners.{OwnerTree, OwnerTable, Roomy, IsLive, tree_of}
use Rattle.owner_core.specs.Sound.{IsSound, AreGiven}
use Rattle.owner_core.proofs.Sounds.{fresh, sound_created}
use Rattle.owner_core.proofs.Placed.{given_entered, live_entered, stays_entered, older_than}
use Rattle.owner_core.proofs.Tables.{spare_entered, tree_entered}
use Rattle.owner_core.proofs.owners.Owners.create.Goals as goal
use Rattle.std.proofs.lemmas.Bool.Decides.{nat_tests}

pub returns-then-len-ge-MOST_OWNERS-clause-fresh : goal.returns-then-len-ge-MOST_OWNERS-clause-fresh
returns-then-len-ge-MOST_OWNERS-clause-fresh g c = rw (← c.self.view_is) (fresh _ _ _ c.self.invariant.0)

pub returns-then-len-ge-MOST_OWNERS-clause-too_many : goal.returns-then-len-ge-MOST_OWNERS-clause-too_many
returns-then-len-ge-MOST_OWNERS-clause-too_many g c = grind (arith, nat_tests, mapped-size, c.self.view_is, c.len.ensures.value)

pub insert-requires-clause-fresh : goal.insert-requires-clause-fresh
insert-requires-clause-fresh g c = sym (mapped-has (λ (r : Roomy). r.owner) c.self.inside.next_owner c.self.inside.nodes.forest) ∙ fresh _ _ _ c.self.invariant.0

pub returns-in_default-clause-fresh : goal.returns-in_default-clause-fresh
returns-in_default-clause-fresh g c = rw (← c.self.view_is) (fresh _ _ _ c.self.invariant.0)

pub returns-in_default-clause-too_many : goal.returns-in_default-clause-too_many
returns-in_default-clause-too_many g c = grind (arith, nat_tests, mapped-size, c.self.view_is, c.len.ensures.value)

pub invariant_of-self-2 : goal.invariant_of-self-2
invariant_of-self-2 g c =
    let forest = c.self.inside.nodes.forest in
    let parent : Option ℕ = option_map (λ p. p.number) c.args.parent in
    let few : size (tree_of forest) ≡ c.len.result = mapped-size (λ (r : Roomy). r.owner) forest ∙ sym c.len.ensures.value in (
      subst (λ (x : OwnerTree). IsSound x (c.self.inside.next_owner + 1) c.self.inside.next_serial)
          (sym (ap (λ (x : Forest Roomy). tree_of x) c.in-Some.ensures.forest ∙ tree_entered parent c.self.inside.next_owner c.new-node.result forest c.new-node.ensures))
          (sound_created parent (tree_of forest) _ _ c.self.invariant.0 (omega arith)),
      subst (λ (x : Forest ℕ). AreGiven (c.self.inside.next_owner + 1) x) (sym c.in-Some.ensures.places)
          (given_entered parent c.self.inside.next_owner _ c.self.inside.nodes.places c.self.invariant.1),
    )

pub returns-clause-owners : goal.returns-clause-owners
returns-clause-owners g c = grind (arith, nat_tests, tree_entered, c.in-Some.ensures.forest, c.new-node.ensures, c.self.view_is)

pub returns-clause-fresh : goal.returns-clause-fresh
returns-clause-fresh g c = rw (← c.self.view_is) (fresh _ _ _ c.self.invariant.0)

pub returns-clause-too_many : goal.returns-clause-too_many
returns-clause-too_many g c = grind (arith, nat_tests, mapped-size, c.self.view_is, c.len.ensures.value)

pub returns-clause-others : goal.returns-clause-others
returns-clause-others g c other ne = grind (arith, nat_tests, spare_entered, c.in-Some.ensures.forest, c.self.view_is)

pub returns-then-len-ge-MOST_OWNERS-clause-older : goal.returns-then-len-ge-MOST_OWNERS-clause-older
returns-then-len-ge-MOST_OWNERS-clause-older g c = rw (← c.self.view_is) (older_than c.self.inside.next_owner c.self.inside.nodes.places c.self.invariant.1)

pub returns-in_default-clause-older : goal.returns-in_default-clause-older
returns-in_default-clause-older g c = rw (← c.self.view_is) (older_than c.self.inside.next_owner c.self.inside.nodes.places c.self.invariant.1)

pub returns-clause-older : goal.returns-clause-older
returns-clause-older g c = rw (← c.self.view_is) (older_than c.self.inside.next_owner c.self.inside.nodes.places c.self.invariant.1)

pub returns-clause-live : goal.returns-clause-live
returns-clause-live g c =
    live_entered c.args.parent _ _ _ _ _ c.self.invariant.1
    (subst (λ (t : OwnerTable). IfSome c.args.parent (IsLive t)) (sym c.self.view_is) c.requires.parent)
    c.in-Some.ensures.number c.in-Some.ensures.places

pub returns-clause-stays : goal.returns-clause-stays
returns-clause-stays g c other live = grind (arith, nat_tests, stays_entered, c.self.invariant.1, c.in-Some.ensures.places, c.self.view_is)
