-- Worked rows: what the definitions of specs/ come to at given values.
use Rattle.ctx_blocks.proofs.Base.{[], in_order, refl, whole_block, ◌∷◌, ◌≡◌}

-- no blocks, and three that are kept in the order of the numbers 2, 3, 1
order-none : in_order [] ≡ []
order-none = refl

order-three : in_order ((4, whole_block 2 0 1024) ∷ (7, whole_block 3 0 2048) ∷ (5, whole_block 1 200 512) ∷ []) ≡ (5, whole_block 1 200 512) ∷ (4, whole_block 2 0 1024) ∷ (7, whole_block 3 0 2048) ∷ []
order-three = refl
