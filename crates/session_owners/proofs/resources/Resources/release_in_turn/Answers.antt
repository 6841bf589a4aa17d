use Rattle.session_owners.proofs.Base.{arith, nat_tests, ◌≡◌, ◌↔◌, Bool, List, None, true, refl, ℕ}
use Rattle.session_owners.proofs.Words.{What, Phase, BeforeLocks, Locks, parent_of, table_of, KindTable, own_released, released, owners_of, hosting_of}
use Rattle.session_owners.proofs.Lemmas.{acted_release, balances_more, nothing_left}
use Rattle.owner_core.proofs.Swept.{parent_swept}
use Rattle.session_owners.specs.ResourceState.{OwnerTree}
use Rattle.session_owners.proofs.resources.Resources.release_in_turn.Goals as goal

-- a phase leaves each owner its parent
top_still : (kinds : KindTable) (phase : Phase) (n : ℕ) (top : Bool) (x y : OwnerTree) → y ≡ released kinds phase n x → (top ≡ true) ↔ (parent_of n x ≡ None) → (top ≡ true) ↔ (parent_of n y ≡ None)
top_still kinds phase n top x y left h = grind (arith, nat_tests, parent_swept n (own_released kinds phase) n x)

pub release_phase-requires-2-clause-top : goal.release_phase-requires-2-clause-top
release_phase-requires-2-clause-top g c =
    top_still (table_of c.args.commons.now.kinds) BeforeLocks c.args.owner.number c.args.top (owners_of c.args.self.now) (owners_of c.release_phase.new.self) c.release_phase.ensures.owners c.requires.top

pub release_phase-requires-3-clause-top : goal.release_phase-requires-3-clause-top
release_phase-requires-3-clause-top g c =
    top_still (table_of c.release_phase.new.commons.kinds) Locks c.args.owner.number c.args.top (owners_of c.release_phase.new.self) (owners_of c.release_phase-2.new.self) c.release_phase-2.ensures.owners
    (top_still (table_of c.args.commons.now.kinds) BeforeLocks c.args.owner.number c.args.top (owners_of c.args.self.now) (owners_of c.release_phase.new.self) c.release_phase.ensures.owners c.requires.top)

pub returns-clause-owners : goal.returns-clause-owners
returns-clause-owners g c = grind (arith, nat_tests, c.args.owner.number, c.release_phase.ensures.balances.table, c.release_phase-3.ensures.owners, c.release_phase-2.ensures.balances.table, c.release_phase-2.ensures.owners)

pub returns-clause-nothing_left : goal.returns-clause-nothing_left
returns-clause-nothing_left g c = grind (arith, nat_tests, nothing_left, c.requires.serves.sound, c.requires.serves.items)

pub returns-clause-balances : goal.returns-clause-balances
returns-clause-balances g c = grind (arith, nat_tests, balances_more _ _ _ _ _ _ (balances_more _ _ _ _ _ _ c.release_phase.ensures.balances c.release_phase-2.ensures.balances) c.release_phase-3.ensures.balances, balances_more _ _ _ _ _ _ c.release_phase.ensures.balances c.release_phase-2.ensures.balances, c.release_phase.ensures.balances, c.release_phase-2.ensures.balances, c.release_phase-3.ensures.balances)

pub returns-clause-acted : goal.returns-clause-acted
returns-clause-acted g c = grind (arith, nat_tests, acted_release c.args.commit c.args.top c.args.owner.number c.args.self.now c.release_phase.new.self c.release_phase-2.new.self c.release_phase-3.new.self (hosting_of (g.P.PlanContexts.contexts c.args.place.now) (g.P.PlanContexts.shelf c.args.place.now)) (hosting_of (g.P.PlanContexts.contexts c.release_phase.new.place) (g.P.PlanContexts.shelf c.release_phase.new.place)) (hosting_of (g.P.PlanContexts.contexts c.release_phase-2.new.place) (g.P.PlanContexts.shelf c.release_phase-2.new.place)) (hosting_of (g.P.PlanContexts.contexts c.release_phase-3.new.place) (g.P.PlanContexts.shelf c.release_phase-3.new.place)) c.args.commons.now c.release_phase.new.commons c.release_phase-2.new.commons c.release_phase-3.new.commons (λ (events : List What). g.E.Emit.emits c.args.out.now events c.release_phase.new.out) (λ (events : List What). g.E.Emit.emits c.release_phase.new.out events c.release_phase-2.new.out) (λ (events : List What). g.E.Emit.emits c.release_phase-2.new.out events c.release_phase-3.new.out) (λ (events : List What). g.E.Emit.emits c.release_phase-3.new.out events c.release_phase-3.new.out) (λ (events : List What). g.E.Emit.emits c.release_phase.new.out events c.release_phase-3.new.out) (λ (events : List What). g.E.Emit.emits c.args.out.now events c.release_phase-3.new.out) (g.met.E.Emit.emits_none _) (λ xs ys p q. g.met.E.Emit.emits_more _ _ _ _ _ _ p q refl) (λ xs ys p q. g.met.E.Emit.emits_more _ _ _ _ _ _ p q refl) (λ xs ys p q. g.met.E.Emit.emits_more _ _ _ _ _ _ p q refl) c.release_phase.ensures.acted c.release_phase-2.ensures.acted c.release_phase-3.ensures.acted)

pub returns-clause-went : goal.returns-clause-went
returns-clause-went g c = grind (arith, nat_tests, g.met.P.PlanContexts.went_more _ _ _ c.release_phase.ensures.went (g.met.P.PlanContexts.went_more _ _ _ c.release_phase-2.ensures.went c.release_phase-3.ensures.went), c.release_phase.ensures.went, g.met.P.PlanContexts.went_more _ _ _ c.release_phase-2.ensures.went c.release_phase-3.ensures.went, c.release_phase-2.ensures.went, c.release_phase-3.ensures.went)

pub returns-clause-left : goal.returns-clause-left
returns-clause-left g c = λ id here. c.release_phase.ensures.left id (c.release_phase-2.ensures.left id (c.release_phase-3.ensures.left id here))
