-- Lemmas on what a Slab has in a space with its free chunks.
use Rattle.slab_ctx.proofs.Words.{◌≡◌, ◌≢◌, ℕ, ◌+◌, ◌-◌, ◌≤◌, true, List, Option, Some, None, arith, Vec, mod-eq-sub-div-mul, div-mul-le_self, Addr, Space, IsApart, IsHeaded, AllHeaded, AllOfKind, TakesSpace, Layout, block_at, chunk_at, Block, stride, is_slot, free_at, IsSlot, IsSlotted, option_cases, same_addr_from, region_is, from_live}
use Rattle.addr_space.specs.Footprint.{Footprint, IsWithin, Agrees, Moves, nothing, counted}
use Rattle.chunk_header.specs.declared.Kind.{Kind}
use Rattle.ctx_blocks.specs.Layout.{footprint as footprint_of}
use Rattle.slab_ctx.proofs.Numbers.{stride_least, stride-some, slots_apart}
use Rattle.slab_ctx.proofs.Places.{start-is}

-- what the context has in a space: what the blocks have, and the free chunks
abbrev pub full : ℕ → Layout → Footprint
full size l = record (footprint_of l) { free = free_at size l }

-- the test of a slot
slot-from : (size offset : ℕ) → 1 ≤ size → is_slot size offset ≡ true → IsSlot size offset × (offset + (stride size - 8) ≤ 8192)
slot-from size offset some test = grind (arith, stride-some, mod-eq-sub-div-mul, div-mul-le_self)

-- what a free chunk is
record IsFreeAt (l : Layout) (size : ℕ) (at : Addr) (n : ℕ) : Type 0 where
  not_keeper : at.region ≢ l.keeper
  block : Block
  found : block_at l at.region ≡ Some block
  none : chunk_at l at ≡ None
  slot : is_slot size at.offset ≡ true
  is : n ≡ size

from_free : (l : Layout) (size : ℕ) (at : Addr) (n : ℕ) → free_at size l at ≡ Some n → IsFreeAt l size at n
from_free l size at n is = grind (arith, option_cases)

-- a context with other free chunks, where these lie in its regions, apart from live chunks and behind the fronts
Agrees-free : (f : Footprint) (free : Addr → Option ℕ) (sp : Space) → Agrees f sp → ((at : Addr) (n : ℕ) → free at ≡ Some n → IsWithin f at n)
    → ((a b : Addr) (m n : ℕ) → f.live a ≡ Some m → free b ≡ Some n → IsApart a m b n) → ((at : Addr) (n : ℕ) → free at ≡ Some n → f.front at.region ≤ at.offset) → Agrees (record f { free = free }) sp
Agrees-free f free sp agrees inside apart behind = assumption

-- free chunks lie in their blocks, apart from live ones and behind the headers
module _ (l : Layout) (size : ℕ) (s : List (ℕ × Vec ℕ)) (slotted : IsSlotted l size s) where
  free_inside : (at : Addr) (n : ℕ) → free_at size l at ≡ Some n → IsWithin (footprint_of l) at n
  free_inside at n free = grind (arith, from_free l size at n free, slot-from size at.offset slotted.least (from_free l size at n free).slot, slotted.filled at.region (from_free l size at n free).block (from_free l size at n free).not_keeper (from_free l size at n free).found, region_is l at.region (from_free l size at n free).block (from_free l size at n free).found, stride_least size)

  free_apart : (a b : Addr) (m n : ℕ) → (footprint_of l).live a ≡ Some m → free_at size l b ≡ Some n → IsApart a m b n
  free_apart a b m n live free region = grind (arith, from_free l size b n free, from_live l a m live, slot-from size b.offset slotted.least (from_free l size b n free).slot, slotted.chunk a (from_live l a m live).0 (from_live l a m live).1, same_addr_from a b region, slots_apart size a.offset b.offset (slotted.slot a (from_live l a m live).0 (from_live l a m live).1) (slot-from size b.offset slotted.least (from_free l size b n free).slot).0, slotted.slot a (from_live l a m live).0 (from_live l a m live).1, stride_least size)

  free_behind : (at : Addr) (n : ℕ) → free_at size l at ≡ Some n → (footprint_of l).front at.region ≤ at.offset
  free_behind at n free = grind (arith, from_free, slot-from, start-is)

  pub Agrees-full : (sp : Space) → Agrees (footprint_of l) sp → Agrees (full size l) sp
  Agrees-full sp agrees = Agrees-free (footprint_of l) (free_at size l) sp agrees free_inside free_apart free_behind

-- a space has the blocks of a context that it agrees with
pub Agrees_plain : (size : ℕ) (l : Layout) (sp : Space) → Agrees (full size l) sp → Agrees (footprint_of l) sp
Agrees_plain size l sp agrees = Agrees-free (full size l) (λ at. None) sp agrees (λ at n free. absurd (cc)) (λ a b m n live free. absurd (cc)) (λ at n free. absurd (cc))

-- the steps, with other free chunks
Moves-free : (f g : Footprint) (before after : Addr → Option ℕ) (sp sq : Space) → Agrees (record g { free = after }) sq → Moves f g sp sq → Moves (record f { free = before }) (record g { free = after }) sp sq
unfolding counted
Moves-free f g before after sp sq agrees moves = assumption

pub Moves-full : (size now : ℕ) (l m : Layout) (t : List (ℕ × Vec ℕ)) (sp sq : Space) → now ≡ size → IsSlotted m now t → Moves (footprint_of l) (footprint_of m) sp sq → Moves (full size l) (full now m) sp sq
Moves-full size now l m t sp sq same slotted moves = Moves-free (footprint_of l) (footprint_of m) (free_at size l) (free_at now m) sp sq (Agrees-full m now t slotted sq moves.agrees) moves

pub Moves-made : (size account context : ℕ) (m : Layout) (t : List (ℕ × Vec ℕ)) (sp sq : Space) → IsSlotted m size t → Moves (nothing account context) (footprint_of m) sp sq → Moves (nothing account context) (full size m) sp sq
Moves-made size account context m t sp sq slotted moves = Moves-free (nothing account context) (footprint_of m) (λ at. None) (free_at size m) sp sq (Agrees-full m size t slotted sq moves.agrees) moves

pub Moves-gone : (size account context : ℕ) (l : Layout) (sp sq : Space) → Moves (footprint_of l) (nothing account context) sp sq → Moves (full size l) (nothing account context) sp sq
Moves-gone size account context l sp sq moves = Moves-free (footprint_of l) (nothing account context) (free_at size l) (λ at. None) sp sq moves.agrees moves

-- live chunks have headers, free ones count for nothing there
abbrev IsHeaded-full : (size : ℕ) (l : Layout) (at : Addr) → IsHeaded (footprint_of l) at → IsHeaded (full size l) at
IsHeaded-full size l at it = record {
  header = it.header;
  size = it.size;
  packable = it.packable;
  leading = it.leading;
  behind = it.behind;
  large = it.large;
  word = it.word;
  block = it.block;
}

pub AllHeaded_full : (size : ℕ) (l : Layout) → AllHeaded (footprint_of l) → AllHeaded (full size l)
AllHeaded_full size l headed at n live = IsHeaded-full size l at (headed at n live)

pub TakesSpace-full : (size : ℕ) (l : Layout) (at : Addr) (space : ℕ) → TakesSpace (footprint_of l) at space → TakesSpace (full size l) at space
TakesSpace-full size l at space takes = record { headed = IsHeaded-full size l at takes.headed; small = takes.small; is = takes.is }

pub AllOfKind-full : (size : ℕ) (l : Layout) (kind : Kind) → AllOfKind kind (footprint_of l) → AllOfKind kind (full size l)
AllOfKind-full size l kind all at n live = let it = all at n live in (IsHeaded-full size l at it.0, it.1)
