-- The ledger, run: what calls make of a Slab whose blocks have seven chunks each.
use Rattle.slab_ctx.proofs.Words.{◌≡◌, ℕ, List, [], ◌∷◌, Ok, Err, refl, up8, SlabBlock, SlabLedger, created, serve, take, give, reset, stats}
use Rattle.chunk_header.specs.declared.CtxError.TheVariants.{TooBig, NoSpace, WrongSize}
use Rattle.slab_ctx.specs.Ledger.{stride, per_block, free_chunks}

abbrev block : ℕ → ℕ → SlabBlock
block number live = record { number = number; live = live }

abbrev slab : ℕ → List SlabBlock → SlabLedger
slab count blocks = record { size = 1024; count = count; blocks = blocks }

-- nine blocks without live chunks
abbrev nine : List SlabBlock → List SlabBlock
nine more = block 2 0 ∷ block 3 0 ∷ block 4 0 ∷ block 5 0 ∷ block 6 0 ∷ block 7 0 ∷ block 8 0 ∷ block 9 0 ∷ block 10 0 ∷ more

-- the first request takes a block
first : take (created 1024) 8192 1024 ≡ Ok (record { ledger = slab 1 (block 1 1 ∷ []); place = 1; asked = 8192 })
unfolding take serve created per_block stride up8
first = refl

no_space : take (created 1024) 8191 1024 ≡ Err NoSpace
unfolding take serve created per_block stride up8
no_space = refl

wrong_size : take (created 1024) 8192 1023 ≡ Err WrongSize
unfolding take created
wrong_size = refl

too_big : take (created 1024) 8192 1073741824 ≡ Err TooBig
unfolding take
too_big = refl

-- the block with the fewest free chunks but at least one serves, and of equal ones the earliest
fewest_free : take (slab 3 (block 1 7 ∷ block 2 3 ∷ block 3 6 ∷ [])) 0 1024 ≡ Ok (record { ledger = slab 3 (block 1 7 ∷ block 2 3 ∷ block 3 7 ∷ []); place = 3; asked = 0 })
unfolding take serve per_block stride up8
fewest_free = refl

earliest : take (slab 3 (block 1 7 ∷ block 2 3 ∷ block 3 3 ∷ [])) 0 1024 ≡ Ok (record { ledger = slab 3 (block 1 7 ∷ block 2 4 ∷ block 3 3 ∷ []); place = 2; asked = 0 })
unfolding take serve per_block stride up8
earliest = refl

-- no number is used again, though its block went back
new_number : take (slab 3 (block 1 7 ∷ block 2 7 ∷ [])) 8192 1024 ≡ Ok (record { ledger = slab 4 (block 1 7 ∷ block 2 7 ∷ block 4 1 ∷ []); place = 4; asked = 8192 })
unfolding take serve per_block stride up8
new_number = refl

-- ten empty blocks are kept, and the eleventh goes back
tenth : give (slab 11 (block 1 1 ∷ nine (block 11 7 ∷ []))) 1 ≡ slab 11 (block 1 0 ∷ nine (block 11 7 ∷ []))
unfolding give
tenth = refl

eleventh : give (slab 11 (block 1 1 ∷ nine (block 11 0 ∷ []))) 1 ≡ slab 11 (nine (block 11 0 ∷ []))
unfolding give
eleventh = refl

-- after a reset the numbers begin again
again : reset (slab 11 (block 1 7 ∷ nine [])) ≡ created 1024
unfolding reset
again = refl

-- what one chunk leaves free, and what ten empty blocks hold
smallest : stats (record { size = 1; count = 1; blocks = block 1 1 ∷ [] }) ≡ record { total = 8392; blocks = 1; free = 8128; chunks = 508 }
unfolding stats free_chunks per_block stride up8
smallest = refl

largest : stats (slab 1 (block 1 1 ∷ [])) ≡ record { total = 8392; blocks = 1; free = 6192; chunks = 6 }
unfolding stats free_chunks per_block stride up8
largest = refl

ten_empty : stats (record { size = 64; count = 12; blocks = nine (block 11 0 ∷ []) }) ≡ record { total = 82120; blocks = 10; free = 81360; chunks = 1130 }
unfolding stats free_chunks per_block stride up8
ten_empty = refl
