-- The blocks in the order in which they were taken, however they are kept.
use Rattle.std.specs.Prelude.{ℕ, List, [], ◌∷◌, nat_lt, if◌then◌else◌}
use Rattle.ctx_blocks.specs.declared.parts.Block.{Block}

-- a block with its region, before the first one of a greater number
abbrev pub put_in : ℕ × Block → List (ℕ × Block) → List (ℕ × Block)
put_in e [] = e ∷ []
put_in e (x ∷ xs) = if nat_lt e.1.number x.1.number then e ∷ x ∷ xs else x ∷ put_in e xs

-- the blocks by their numbers
abbrev pub in_order : List (ℕ × Block) → List (ℕ × Block)
in_order [] = []
in_order (e ∷ es) = put_in e (in_order es)
