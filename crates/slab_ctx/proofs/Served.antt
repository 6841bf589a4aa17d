-- Lemmas on the steps of the ledger: a request that is served, and a chunk that is freed.
use Rattle.slab_ctx.proofs.Words.{◌≡◌, ℕ, ◌+◌, ◌<◌, ◌++◌, List, [], ◌∷◌, map, arith, ◌-◌, ◌≤◌, ◌==◌, ◌&&◌, nat_le, if◌then◌else◌, refl, AreRising, Block, SlabLedger, SlabBlock, with_live, empties, without_number, live_in, give, numbered_of}

-- the last block has one live chunk
pub live-last : (least most number : ℕ) (es : List (ℕ × Block)) → most < number → AreRising least most es → with_live (map numbered_of es ++ record { number = number; live = 0 } ∷ []) number 1 ≡ map numbered_of es ++ record { number = number; live = 1 } ∷ []
live-last least most number [] less h = grind arith
live-last least most number (e ∷ es) less h = grind (arith, live-last (e.1.number + 1) most number es less h.2)

-- which block is left out doesn't depend on live chunks
without-set : (number live : ℕ) (xs : List SlabBlock) → without_number (with_live xs number live) number ≡ without_number xs number
without-set number live [] = refl
without-set number live (b ∷ xs) = grind (arith, without-set number live xs)

-- the ledger's step, from the blocks before, between and after
pub freed-is : (l : SlabLedger) (number other live now empty : ℕ) (mid after : List SlabBlock) → live_in l.blocks number ≡ live → 1 ≤ live → now ≡ live - 1 → mid ≡ with_live l.blocks number (live - 1) → other ≡ number → empty ≡ empties l.blocks
    → after ≡ (if (now == 0) && nat_le 10 empty then without_number mid other else mid) → record { size = l.size; count = l.count; blocks = after } ≡ give l number
unfolding give
freed-is l number other live now empty mid after index some is middle same count after_is = grind (arith, without-set number (live - 1) l.blocks)
