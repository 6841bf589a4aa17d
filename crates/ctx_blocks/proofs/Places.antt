-- Numbers of blocks and places of live chunks, once a block or a chunk is another one.
use Rattle.ctx_blocks.proofs.Base.{Addr, Agrees, ap, AreAmong, arith, Block, block_at, Chunk, chunk_at, footprint, KeepsNumbers, Layout, nat_tests, no_block, number_of, one_value, Option, option_cases, option_map, PutsAt, PutsBlock, PutsChunk, same_addr-cases, Some, Space, unwrap_or, ℕ, ◌≡◌}
use Rattle.ctx_blocks.proofs.Laid.{live_is, from_region}

-- the number of a block that is there
pub number_is : (l : Layout) (region : ℕ) (block : Block) → block_at l region ≡ Some block → number_of l region ≡ block.number
number_is l region block is = ap (λ (o : Option Block). (unwrap_or o no_block).number) is

-- numbers stay where a block is another one of its number
pub number_put : (l m : Layout) (region : ℕ) (old new : Block) → block_at l region ≡ Some old → PutsBlock l m region new → new.number ≡ old.number → (r : ℕ) → number_of m r ≡ number_of l r
number_put l m region old new is puts same r = grind (arith, puts.at r)

-- numbers stay where blocks are left
pub numbers_among : (l m : Layout) → AreAmong m l → KeepsNumbers l m
numbers_among l m among region old new is there = grind (arith, nat_tests, one_value (block_at l region) (among region new there).0 old (among region new there).1 is)

-- a chunk that stays live keeps the number of its block
pub block_in_space : (l : Layout) (s : Space) (at : Addr) (chunk : Chunk) → chunk_at l at ≡ Some chunk → Agrees (footprint l) s → (block : Block) × (block_at l at.region ≡ Some block)
block_in_space l s at chunk is agrees = grind (arith, nat_tests, live_is l, from_region l at.region (agrees.sound.live_inside at chunk.size (live_is l at chunk is)).0 (agrees.sound.live_inside at chunk.size (live_is l at chunk is)).1)

pub number_stays : (l m : Layout) (s t : Space) (at : Addr) (chunk : Chunk) → chunk_at l at ≡ Some chunk → chunk_at m at ≡ Some chunk → Agrees (footprint l) s → Agrees (footprint m) t → KeepsNumbers l m → number_of m at.region ≡ number_of l at.region
number_stays l m s t at chunk is there agrees now keeps = grind (arith, nat_tests, block_in_space l s, block_in_space m t, number_is m at.region (block_in_space m t at chunk there now).0 (block_in_space m t at chunk there now).1, number_is l at.region (block_in_space l s at chunk is agrees).0 (block_in_space l s at chunk is agrees).1)

module _ {P : Type 0} (place : ℕ → Chunk → P) where
  -- the places in a layout, by the number of a chunk's block and the chunk
  abbrev pub places : Layout → Addr → Option P
  places l at = option_map (place (number_of l at.region)) (chunk_at l at)

  -- one chunk is put or taken away
  pub places_put : (l m : Layout) (s t : Space) → Agrees (footprint l) s → Agrees (footprint m) t → KeepsNumbers l m → (at : Addr) (chunk : Option Chunk) (to : Option P) → PutsChunk l m at chunk → option_map (place (number_of m at.region)) chunk ≡ to → PutsAt (places l) (places m) at to
  places_put l m s t agrees now keeps at chunk to puts here other = grind (arith, nat_tests, same_addr-cases, option_cases (chunk_at l other), number_stays l m s t other)
