-- A portal passes to the level above.
use Rattle.session_ends.proofs.Base.{arith, nat_tests, ◌≡◌, ℕ, Bool, Option, None, if◌then◌else◌}
use Rattle.session_ends.proofs.Words.{OwnerId, Scene, where_so, where_there, owner_moved, number_in}

-- its owner moves where it is of the level
pub moves_where : (b : Bool) (owner moved : Option OwnerId) (to : Option ℕ) (z : Scene) → moved ≡ (if b then owner else None)
    → where_there (number_in moved) (λ o. where_there to (owner_moved o)) z ≡ where_so b (where_there (number_in owner) (λ o. where_there to (owner_moved o))) z
moves_where b owner moved to z e = grind (arith, nat_tests)
