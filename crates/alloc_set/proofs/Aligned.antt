-- The address of each live chunk is a multiple of 8.
use Rattle.alloc_set.proofs.Base.{Addr, arith, chunk_at, footprint, from_then, IsSettled, live_size, MovesLive, nat_tests, PutsLive, same_addr-cases, SetState, Some, ℕ, ◌%◌, ◌≡◌}

module _ (s : SetState) (active bytes : ℕ) (settled : IsSettled s active bytes) where
  pub live_whole : (at : Addr) (size : ℕ) → (footprint s).live at ≡ Some size → at.offset % 8 ≡ 0
  live_whole at size live = let had = from_then live_size (chunk_at s at) size live in (settled.placed at had.0 had.1).whole

  -- so is that of one that was taken, or got another size
  pub put_whole : (was : SetState) (at : Addr) (size : ℕ) → PutsLive (footprint was) (footprint s) at (Some size) → at.offset % 8 ≡ 0
  put_whole was at size puts = grind (arith, nat_tests, same_addr-cases, live_whole)

  pub move_whole : (was : SetState) (from to : Addr) (size : ℕ) → MovesLive (footprint was) (footprint s) from to size → to.offset % 8 ≡ 0
  move_whole was from to size moves = grind (arith, nat_tests, same_addr-cases, live_whole)
