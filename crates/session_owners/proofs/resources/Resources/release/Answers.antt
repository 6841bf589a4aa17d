use Rattle.session_owners.proofs.Base.{arith, nat_tests, ◌≡◌, [], subst, sym, ℕ}
use Rattle.session_owners.proofs.Words.{table_of, Empty, children, items_of, once_of, owners_of}
use Rattle.session_owners.proofs.Lemmas.{IsBare, acted_bare, released_bare, nothing_left}
use Rattle.session_owners.specs.ResourceState.{AllAt, HoldsNothing, OwnerTree}
use Rattle.session_owners.proofs.resources.Resources.release.Goals as goal

-- an owner that holds nothing and has none below it, in the tree as the caller sees it
bare_in : (n : ℕ) (x y : OwnerTree) → x ≡ y → items_of n x ≡ [] → children n x ≡ Empty → IsBare n y
bare_in n x y same items below = subst (λ (t : OwnerTree). IsBare n t) same (record { items = items; below = below })

pub returns-then-is_bare-clause-owners : goal.returns-then-is_bare-clause-owners
returns-then-is_bare-clause-owners g c = grind (arith, nat_tests, c.release_phase.ensures.owners, released_bare, once_of _ _ _ c.self.invariant.sound, c.self.invariant.sound, c.is_bare.ensures.items c.if-is_bare.true, c.if-is_bare.true, c.is_bare.ensures.below c.if-is_bare.true)

pub returns-then-is_bare-clause-nothing_left : goal.returns-then-is_bare-clause-nothing_left
returns-then-is_bare-clause-nothing_left g c =
    let n = c.args.owner.number in
    subst (AllAt HoldsNothing n) (sym (returns-then-is_bare-clause-owners g c)) (nothing_left (table_of c.args.commons.now.kinds) n (owners_of c.args.self.now) c.requires.serves.sound c.requires.serves.items)

pub returns-then-is_bare-clause-acted : goal.returns-then-is_bare-clause-acted
returns-then-is_bare-clause-acted g c = grind (arith, nat_tests, acted_bare, once_of _ _ _ c.self.invariant.sound, c.self.invariant.sound, c.is_bare.ensures.items c.if-is_bare.true, c.if-is_bare.true, c.is_bare.ensures.below c.if-is_bare.true, c.release_phase.ensures.acted)
