-- An owner is released into its parent and discarded.
use Rattle.session_ends.proofs.Base.{arith, nat_tests, ◌≡◌, ◌↔◌, ℕ, true, false, Option, Some, None, [], ◌∷◌, IfSome, sym, ◌∙◌}
use Rattle.session_ends.proofs.Words.{parent_of, OwnerId, ResourceState, owners_of, Scene, in_order, where_there, owner_gone, owner_released, owner_ended}

pub has_parent : (owner : Option OwnerId) (table : ResourceState) → IfSome owner (λ o. (p : ℕ) × (parent_of o.number (owners_of table) ≡ Some p)) → IfSome owner (λ o. (false ≡ true) ↔ (parent_of o.number (owners_of table) ≡ None))
has_parent None table h = tt
has_parent (Some o) table h = (λ y. absurd (cc y), λ n. absurd (let z : None ≡ Some h.0 = sym n ∙ h.1 in cc z))

pub ended_is : (o : Option ℕ) (z : Scene) → in_order ((λ scene. where_there o (owner_released true false) scene) ∷ (λ scene. where_there o owner_gone scene) ∷ []) z ≡ owner_ended o z
ended_is x0 z = grind (arith, nat_tests)
