-- The address of each live chunk is a multiple of 8.
use Rattle.ctx_blocks.proofs.Base.{arith, nat_tests, Addr, Chunk, chunk_at, footprint, IsPlaced, Layout, MovesAt, Option, PutsAt, PutsChunk, PutsLive, same_addr-cases, Some, ℕ, ◌%◌, ◌≡◌}
use Rattle.ctx_blocks.proofs.Laid.{from_live}

-- what was put at an address, or moved there, stands there
put_there : {A : Type 0} (f g : Addr → Option A) (at : Addr) (a : A) → PutsAt f g at (Some a) → g at ≡ Some a
put_there f g at a puts = grind (arith, nat_tests, same_addr-cases)

moved_there : {A : Type 0} (f g : Addr → Option A) (from to : Addr) (a : A) → MovesAt f g from to a → g to ≡ Some a
moved_there f g from to a moves = grind (arith, nat_tests, same_addr-cases to to)

module _ (l : Layout) (placed : (at : Addr) (chunk : Chunk) → chunk_at l at ≡ Some chunk → IsPlaced l at chunk) where
  pub live_whole : (at : Addr) (size : ℕ) → (footprint l).live at ≡ Some size → at.offset % 8 ≡ 0
  live_whole at size live = let had = from_live l at size live in (placed at had.0 had.1).whole

  -- so is that of one that was taken, or got another size
  pub put_whole : (was : Layout) (at : Addr) (size : ℕ) → PutsLive (footprint was) (footprint l) at (Some size) → at.offset % 8 ≡ 0
  put_whole was at size puts = live_whole at size (put_there (footprint was).live (footprint l).live at size puts)

  pub chunk_whole : (was : Layout) (at : Addr) (chunk : Chunk) → PutsChunk was l at (Some chunk) → at.offset % 8 ≡ 0
  chunk_whole was at chunk puts = (placed at chunk (put_there (chunk_at was) (chunk_at l) at chunk puts)).whole

  pub move_whole : (was : Layout) (from to : Addr) (chunk : Chunk) → MovesAt (chunk_at was) (chunk_at l) from to chunk → to.offset % 8 ≡ 0
  move_whole was from to chunk moves = (placed to chunk (moved_there (chunk_at was) (chunk_at l) from to chunk moves)).whole
