-- Lemmas on a context without chunks.
use Rattle.alloc_set.proofs.Base.{[], Addr, arith, chunk_at, get_or-replicate, IsSettled, IsShelved, nat_tests, no_shelf, None, refl, region_of, replicate, SetState, Some, start_of, ℕ, ◌+◌, ◌<◌, ◌^◌, ◌≡◌, ◌≤◌}
use Rattle.alloc_set.proofs.Listed.{IsUnique-none}
use Rattle.alloc_set.proofs.Regions.{keeper_owned, keeper_start}

module _ (s : SetState) (chunks : s.chunks ≡ []) where
  pub no_chunk : (at : Addr) → chunk_at s at ≡ None
  no_chunk at = rw chunks refl

  -- no chunk is free where there is none
  pub IsShelved-none : IsShelved s (replicate 11 no_shelf)
  IsShelved-none = grind (arith, nat_tests, get_or-replicate, IsUnique-none)

  -- the keeper, with its whole room, is the active block
  pub IsSettled-empty : s.ledger.room + 240 ≡ s.ledger.init → ((number len : ℕ) → region_of s number ≡ Some len → (len ≤ 2 ^ 31) × (start_of s number + 40 ≤ len) × (number < 2 ^ 32)) → IsSettled s s.keeper s.ledger.init
  IsSettled-empty room small = grind (arith, nat_tests, keeper_owned, keeper_start, no_chunk)
