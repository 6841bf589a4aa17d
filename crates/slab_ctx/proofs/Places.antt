-- Lemmas on where the chunks of a Slab may stand.
use Rattle.slab_ctx.proofs.Words.{◌≡◌, ◌≢◌, ℕ, ◌+◌, ◌-◌, ◌/◌, ◌%◌, ◌<◌, ◌≤◌, ◌⊎◌, length, Some, ap, arith, List, Vec, mul_assoc, Addr, Layout, block_at, chunk_at, gap_of, header_room, start_of, Block, Chunk, stride, per_block, IsSlot, IsFree, IsFilled, IsSlotted, stack_at, at_offset, same_addr_from}
use Rattle.slab_ctx.proofs.Numbers.{stride-some, stride-whole, per_block-is, slots_apart}

-- slots begin at multiples of 8
pub slot-whole : (size offset : ℕ) → IsSlot size offset → offset % 8 ≡ 0
slot-whole size offset is = grind (arith, stride-whole size, mul_assoc is.slot (stride size / 8) 8)

module _ (l : Layout) (size : ℕ) (s : List (ℕ × Vec ℕ)) (slotted : IsSlotted l size s) where
  -- a chunk has a header of 8 bytes
  pub gap-is : header_room l ≡ 8
  gap-is = ap gap_of slotted.kind

  -- nothing stands before the header of a block
  pub start-is : (number : ℕ) → number ≢ l.keeper → start_of l number ≡ 0
  start-is number differs = grind arith

  module _ (number : ℕ) (differs : number ≢ l.keeper) (b : Block) (found : block_at l number ≡ Some b) where
    was : IsFilled l size number b (stack_at s number)
    was = slotted.filled number b differs found

    -- a block has no more than its chunks
    pub chunks-few : b.live + b.freed ≤ per_block size
    chunks-few = (per_block-is size (b.live + b.freed)).1 (omega (arith, was.rest))

    pub depth-few : (depth : ℕ) → b.freed ≡ depth + 1 → depth < length (stack_at s number)
    depth-few depth freed = omega (arith, freed, chunks-few, was.long)

    -- the stack has room for one more offset
    pub one-more : 1 ≤ b.live → b.freed < length (stack_at s number)
    one-more live = omega (arith, live, chunks-few, was.long)

    -- where no chunk was freed and one is free, it is to be cut off
    pub room-left : b.freed ≡ 0 → b.live < per_block size → stride size ≤ b.room
    room-left freed free =
        let fits = (per_block-is size (b.live + 1)).0 (omega arith) in
        let rest = rw freed at was.rest in
        omega arith

    -- a free chunk is clear of each live one
    pub clear-of : (offset room : ℕ) → room ≡ stride size - 8 → IsFree l size number b offset → (other : Addr) (c : Chunk) → chunk_at l other ≡ Some c → other.region ≡ number → (other.offset + c.room + header_room l ≤ offset) ⊎ (offset + room + header_room l ≤ other.offset)
    clear-of offset room room_is free other c has region = grind (arith, stride-some size slotted.least, slotted.chunk other c has, same_addr_from other (at_offset number offset) region, slots_apart size other.offset offset (slotted.slot other c has) free.slot, slotted.slot other c has, gap-is)
