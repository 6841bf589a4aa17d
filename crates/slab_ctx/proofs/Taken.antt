-- Lemmas on a chunk that is taken or freed.
use Rattle.slab_ctx.proofs.Words.{◌≡◌, ◌≢◌, ℕ, ◌+◌, ◌-◌, ◌*◌, ◌<◌, ◌≤◌, List, Some, None, slice_index, slice_set, refl, ◌∙◌, inl, inr, arith, Vec, cases_eq, length-set, get_or-set_same, get_or-set_other, Addr, Layout, block_at, chunk_at, PutsBlock, PutsChunk, SameContext, Block, Chunk, stride, Counts, one_value, IsSlot, IsFree, IsFilled, IsSlotted, stack_at, at_offset, chunk_of, chunk_apart}
use Rattle.slab_ctx.proofs.Numbers.{stride-some}
use Rattle.slab_ctx.proofs.Places.{one-more}
use Rattle.ctx_blocks.proofs.Put.{chunk_was, chunk_here}
use Rattle.slab_ctx.proofs.Slotted.{IsSlotted-put}
use Rattle.std.proofs.lemmas.Bool.Decides.{nat_tests}

-- a block of a Slab with another number of live chunks
pub counted : (l m : Layout) (size : ℕ) (s : List (ℕ × Vec ℕ)) (number : ℕ) (b now : Block) → IsSlotted l size s → number ≢ l.keeper → block_at l number ≡ Some b → PutsBlock l m number now → now.number ≡ b.number → now.size ≡ b.size → Counts l m number now.live
counted l m size s number b now slotted differs found puts same bytes = grind (arith, nat_tests, one_value, slotted.filled number b differs found)

module _ (l m : Layout) (size : ℕ) (s : List (ℕ × Vec ℕ)) (at : Addr) (slotted : IsSlotted l size s) (same : SameContext l m) (differs : at.region ≢ l.keeper) (b : Block) (found : block_at l at.region ≡ Some b) where
  was : IsFilled l size at.region b (stack_at s at.region)
  was = slotted.filled at.region b differs found

  module _ (puts : PutsChunk l m at (Some (chunk_of size))) (now : Block) (bytes : now.size ≡ b.size) (live : now.live ≡ b.live + 1) (put : PutsBlock l m at.region now) where
    -- a chunk stands where no offset points that is left on the stack
    held : (now.live + now.freed) * stride size + now.room ≡ 8152 → now.freed ≤ b.freed → now.room ≤ b.room → IsSlot size at.offset → ((k : ℕ) → k < now.freed → slice_index (stack_at s at.region) k ≢ at.offset) → IsSlotted m size s
    held rest fewer less slot apart =
        IsSlotted-put l m size s s at.region slotted same differs (chunk_apart l m at (Some (chunk_of size)) puts) (λ other apart. refl)
        (λ other chunk region has. elim (chunk_was l m at (chunk_of size) puts other chunk has) [
          | inl here ↦ (here.1, rw here.0 slot)
          | inr there ↦ (slotted.chunk other chunk there.1, slotted.slot other chunk there.1)
        ])
        now put (record {
          bytes = bytes ∙ was.bytes;
          rest = rest;
          long = was.long;
          free = λ k below.
              let free = was.free k (omega arith) in
              let differ = apart k below in
              record { slot = free.slot; last = omega (arith, free.last); free = grind (arith, puts (at_offset at.region (slice_index (stack_at s at.region) k)), free.free) };
          distinct = λ j k before below. was.distinct j k before (omega arith);
        })

    -- it is cut off a block
    pub IsSlotted-cut : now.room + stride size ≡ b.room → now.freed ≡ b.freed → at.offset ≡ b.size - b.room + 8 → IsSlotted m size s
    IsSlotted-cut room freed offset =
        let some = stride-some size slotted.least in
        let more : (now.live + now.freed) * stride size ≡ (b.live + b.freed) * stride size + stride size = rw (live, freed) (omega arith) in
        held (omega (arith, was.rest)) (omega arith) (omega arith) (record { slot = b.live + b.freed; at_slot = omega (arith, was.bytes, was.rest) })
        (λ k below e. omega (arith, (was.free k (omega arith)).last, was.bytes))

    -- it was freed before
    pub IsSlotted-placed : (depth : ℕ) → now.room ≡ b.room → now.freed ≡ depth → b.freed ≡ depth + 1 → at.offset ≡ slice_index (stack_at s at.region) depth → IsSlotted m size s
    IsSlotted-placed depth room freed was_freed offset =
        let count : now.live + now.freed ≡ b.live + b.freed = omega arith in
        held (rw (count, room) was.rest) (omega arith) (omega arith) (rw offset (was.free depth (omega arith)).slot) (λ k below e. was.distinct k depth (omega arith) (omega arith) (e ∙ offset))

  -- it is freed, and its offset goes on the stack
  module _ (puts : PutsChunk l m at None) (t : List (ℕ × Vec ℕ)) (stack : stack_at t at.region ≡ slice_set (stack_at s at.region) b.freed at.offset) (stacks : (other : ℕ) → other ≢ at.region → stack_at t other ≡ stack_at s other)
      (chunk : Chunk) (has : chunk_at l at ≡ Some chunk) (last : at.offset + chunk.room + b.room ≤ b.size) (live_some : 1 ≤ b.live) where
    freed_last : slice_index (stack_at t at.region) b.freed ≡ at.offset
    freed_last = rw stack (get_or-set_same (stack_at s at.region) b.freed at.offset 0 (one-more l size s slotted at.region differs b found live_some))

    freed_other : (k : ℕ) → k < b.freed → slice_index (stack_at t at.region) k ≡ slice_index (stack_at s at.region) k
    freed_other k below = rw stack (get_or-set_other (stack_at s at.region) b.freed k at.offset 0 (omega arith))

    free_now : (now : Block) → now.size ≡ b.size → now.room ≡ b.room → (k : ℕ) → k < b.freed + 1 → IsFree m size at.region now (slice_index (stack_at t at.region) k)
    free_now now bytes room k below = grind (arith, cases_eq, slotted.slot, slotted.chunk, chunk_here, was.free, freed_other, freed_last)

    distinct_now : (j k : ℕ) → j < k → k < b.freed + 1 → slice_index (stack_at t at.region) j ≢ slice_index (stack_at t at.region) k
    distinct_now j k less below e = grind (arith, freed_other j (omega arith), freed_other k, was.distinct j k less, was.free j (omega arith), freed_last)

    pub IsSlotted-removed : (now : Block) → now.size ≡ b.size → now.room ≡ b.room → now.live ≡ b.live - 1 → now.freed ≡ b.freed + 1 → PutsBlock l m at.region now → IsSlotted m size t
    IsSlotted-removed now bytes room live freed put =
        let count : now.live + now.freed ≡ b.live + b.freed = omega arith in
        IsSlotted-put l m size s t at.region slotted same differs (chunk_apart l m at None puts) stacks
        (λ other c region has. (let had : chunk_at l other ≡ Some c = grind (arith, puts other) in (slotted.chunk other c had, slotted.slot other c had))) now put (record {
          bytes = bytes ∙ was.bytes;
          rest = rw (count, room) was.rest;
          long = rw stack (length-set (stack_at s at.region) b.freed at.offset ∙ was.long);
          free = λ k below. free_now now bytes room k (omega arith);
          distinct = λ j k less below. distinct_now j k less (omega arith);
        })
